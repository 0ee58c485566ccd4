use Rattle.std.proofs.Common.{sym, ap, ◌∙◌}
use Rattle.found_rows.proofs.Walks.{put_as}
use Rattle.declaration_rows.specs.NameRows.{given_names, constant_rows}
use Rattle.name_places.specs.FirstPlaces.{rows_at}
use Rattle.name_judge.proofs.KindLemmas.{constant_is}
use Rattle.name_judge.proofs.rows.add_constant.Goals as goal

pub returns : goal.returns
returns c =
    let a = given_names c.args.unit.now c.args.name.now in
    put_as c.add_constant_row.result _ _ _ _
    (ap (rows_at c.parameter_place-place.result) (constant_is a c.args.fact.now c.requires.fact) ∙ sym (c.parameter_place-place.ensures (constant_rows a))) c.add_constant_row.ensures
