use Rattle.std.proofs.Common.{Bool, ◌++◌, sym, ap, ◌∙◌}
use Rattle.found_rows.proofs.Walks.{put_as}
use Rattle.declaration_rows.specs.NameRows.{given_names, type_rows, function_rows, is_referenced}
use Rattle.name_classes.proofs.SignLemmas.{listed_is}
use Rattle.name_places.specs.FirstPlaces.{rows_at}
use Rattle.name_judge.specs.FactRows.{type_kinds}
use Rattle.name_judge.proofs.KindLemmas.{type_is, referenced_is}
use Rattle.name_judge.proofs.rows.add_mention_rows.Goals as goal

pub returns : goal.returns
returns c =
    let u = c.args.unit.now in
    let x = c.args.name.now in
    let a = given_names u x in
    put_as c.add_type_row.result _ _ _ _
    (ap (rows_at c.mention_place-place.result)
    (ap (λ (r : Bool). type_kinds r c.args.fact.now) (c.has.ensures ∙ listed_is u c.args.signs.now x c.requires.signs ∙ referenced_is u x) ∙ type_is a c.args.fact.now (is_referenced u x) c.requires.fact)
    ∙ sym (c.mention_place-place.ensures (type_rows a ++ function_rows (is_referenced u x) a)))
    c.add_type_row.ensures
