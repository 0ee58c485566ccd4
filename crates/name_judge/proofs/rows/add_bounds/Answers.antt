use Rattle.std.proofs.Common.{sym, ap, ◌∙◌}
use Rattle.found_rows.proofs.Walks.{put_as}
use Rattle.f_tree.specs.declared.refusals.Kind.{Kind}
use Rattle.declaration_rows.specs.NameRows.{given_names, bound_rows, are_dummy_bounds, shape_in, unmeasured}
use Rattle.name_places.specs.FirstPlaces.{rows_at}
use Rattle.name_judge.specs.FactRows.{bound_by}
use Rattle.name_judge.proofs.BoundLaws.{dummy_bounds_alike}
use Rattle.name_judge.proofs.KindLemmas.{bound_is}
use Rattle.name_judge.proofs.rows.add_bounds.Goals as goal

pub returns : goal.returns
returns c =
    let u = c.args.unit.now in
    let x = c.args.name.now in
    let f = c.args.fact.now in
    let a = given_names u x in
    let are = c.are_dummy_bounds-are_bounds.result in
    put_as c.add_bound_rows.result _ _ _ _
    (ap (rows_at c.declaration_place-place.result)
    (ap (λ (k : Kind). bound_by f.class k are f) c.unmeasured-row.ensures
    ∙ bound_is (given_names u) (shape_in u x) (unmeasured u x) a f are c.requires.fact
    (c.are_dummy_bounds-are_bounds.ensures ∙ dummy_bounds_alike u c.args.facts.now c.requires.facts c.shape.result.now ∙ ap (are_dummy_bounds (given_names u)) c.shape.ensures))
    ∙ sym (c.declaration_place-place.ensures (bound_rows (given_names u) (shape_in u x) (unmeasured u x) a)))
    c.add_bound_rows.ensures
