use Rattle.std.proofs.Common.{ap, ◌∙◌}
use Rattle.c_emit.specs.Numbers.{is_variable}
use Rattle.unit_item_laws.specs.AgreeingUnits.{standing_in}
use Rattle.unit_writer.specs.Told.{dimension_told, dimensions_told, seen_of, seen_by}
use Rattle.unit_writer.proofs.telling.variable.Goals as goal

pub returns : goal.returns
unfolding seen_of seen_by
returns c = λ i. record {
  is_variable = (c.is_variable.ensures ∙ ap is_variable c.class.ensures) i;
  basic = c.basic.ensures i;
  standing = (c.standing.ensures ∙ ap standing_in c.class-2.ensures) i;
  dimensions = (c.in_ok-dimensions.ensures ∙ (λ j. dimensions_told (dimension_told c.args.kept.now c.args.name.now (c.bounds_in.ensures j)) 0 (c.rank.ensures j))) i;
}
