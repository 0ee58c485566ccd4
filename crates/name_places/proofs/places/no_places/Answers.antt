use Rattle.std.proofs.Common.{sym, ◌∙◌}
use Rattle.f_tree.specs.Uses.{is_among}
use Rattle.name_places.specs.FirstPlaces.{mentioned_in, declared_in, fixed_in, procedures_in}
use Rattle.name_places.proofs.PlaceLemmas.{first_none}
use Rattle.name_places.proofs.places.no_places.Goals as goal

pub returns : goal.returns
returns c arrays = record {
  mentioned = λ q. c.new.ensures q ∙ sym (first_none (λ b. is_among q (mentioned_in arrays b)));
  declared = λ q. c.new-2.ensures q ∙ sym (first_none (λ b. is_among q (declared_in b)));
  fixed = λ q. c.new-3.ensures q ∙ sym (first_none (λ b. is_among q (fixed_in b)));
  procedures = λ q. c.new-4.ensures q ∙ sym (first_none (λ b. is_among q (procedures_in arrays b)));
}
