use Rattle.std.proofs.Common.{Bool, sym, ap, ◌∙◌}
use Rattle.found_rows.proofs.Walks.{put_as}
use Rattle.declaration_rows.specs.NameRows.{given_names, conflict_rows}
use Rattle.name_places.specs.FirstPlaces.{rows_at}
use Rattle.name_judge.specs.FactRows.{conflict_by}
use Rattle.name_judge.proofs.KindLemmas.{conflict_is, makes_alike}
use Rattle.name_judge.proofs.rows.add_conflicts.Goals as goal

pub returns : goal.returns
returns c =
    let u = c.args.unit.now in
    let x = c.args.name.now in
    let f = c.args.fact.now in
    let a = given_names u x in
    put_as c.add_conflict_rows.result _ _ _ _
    (ap (rows_at c.conflict_place-place.result) (ap (λ (b : Bool). conflict_by f.class b f) c.is_function.ensures ∙ conflict_is u a f c.requires.fact)
    ∙ sym (c.conflict_place-place.ensures (conflict_rows u a)) ∙ makes_alike u x a f.class u.statements (conflict_rows u a) c.requires.fact.class)
    c.add_conflict_rows.ensures
