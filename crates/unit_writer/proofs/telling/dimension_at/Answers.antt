use Rattle.std.proofs.Common.{◌∙◌}
use Rattle.unit_writer.specs.Told.{lower_told, size_told}
use Rattle.unit_writer.proofs.telling.dimension_at.Goals as goal

pub returns : goal.returns
returns c = λ i. record {
  lower = (c.lower_of.ensures ∙ (λ j. lower_told (c.is_kept.ensures j) (c.written_dimension-written.ensures j).lower)) i;
  size = (c.size_of.ensures ∙ (λ j. size_told (c.is_kept-2.ensures j) (c.written_dimension-written.ensures j).size)) i;
}
