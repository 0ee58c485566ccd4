use Rattle.std.proofs.Common.{Bool, not, ◌&&◌, sym, ap, ◌∙◌}
use Rattle.found_rows.proofs.Walks.{put_as}
use Rattle.f_tree.specs.declared.refusals.Kind.TheVariants.{CharacterFunctionAsArgument}
use Rattle.declaration_rows.specs.Judgement.{unless}
use Rattle.declaration_rows.specs.NameRows.{given_names}
use Rattle.declaration_rows.specs.ReferenceRows.{is_dummy_procedure, is_character_function}
use Rattle.name_places.specs.FirstPlaces.{rows_at}
use Rattle.reference_judge.specs.PassedFunctions.{dummy_row}
use Rattle.reference_judge.proofs.PassedLaws.{may_be_is}
use Rattle.reference_judge.proofs.functions.add_dummy_row.Goals as goal

pub returns : goal.returns
unfolding dummy_row
returns c =
    let u = c.args.unit.now in
    let x = c.args.name.now in
    let place = c.mention_place-place.result in
    put_as c.add_at.result _ _ (rows_at place (unless c.may_be_dummy-may_be.result CharacterFunctionAsArgument)) _
    (ap (λ (b : Bool). rows_at place (unless b CharacterFunctionAsArgument))
    (c.may_be_dummy-may_be.ensures ∙ may_be_is u c.args.signs.now c.args.names.now c.requires.signs c.requires.names x)
    ∙ sym (c.mention_place-place.ensures (unless (not (is_dummy_procedure (given_names u x) && is_character_function u x (given_names u x))) CharacterFunctionAsArgument)))
    c.add_at.ensures
