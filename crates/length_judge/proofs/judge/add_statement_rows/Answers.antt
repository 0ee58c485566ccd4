use Rattle.std.proofs.Common.{List, ap, ◌∙◌}
use Rattle.f_tree.specs.Values.{Bytes}
use Rattle.found_rows.proofs.Walks.{put_as}
use Rattle.name_table.specs.Named.{texts}
use Rattle.length_judge.specs.KnownNames.{dummies_in}
use Rattle.length_judge.proofs.FaultForms.{rows_are}
use Rattle.length_judge.proofs.judge.add_statement_rows.Goals as goal

pub returns : goal.returns
returns c =
    let s = c.args.statement.now in
    put_as c.add_found.result _ _ _ _
    (rows_are c.args.unit.now s (texts c.as_slice-dummies.result.now) _ _
    (ap texts c.as_slice-dummies.ensures.value ∙ c.in_ok-names.ensures ∙ ap (λ (xs : List Bytes). dummies_in xs s.body) c.requires.declared.signs.arrays.names)
    c.in_ok-faults.ensures c.any_star_dummy.ensures)
    c.add_found.ensures
