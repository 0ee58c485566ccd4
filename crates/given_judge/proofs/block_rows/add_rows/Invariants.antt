use Rattle.std.proofs.Common.{◌≡◌, ◌++◌, drop}
use Rattle.declaration_rows.specs.GivenRows.{block_name_rows}
use Rattle.name_table.specs.Named.{texts}
use Rattle.given_judge.proofs.block_rows.add_rows.Given as goal

abbrev pub invariant-loop-name : goal.invariant-loop-name
invariant-loop-name l =
    l.initial.found.items ++ block_name_rows l.unit (texts l.block_names) ≡ l.found.items ++ block_name_rows l.unit (texts (drop l.name-index l.block_names))
