use Rattle.std.proofs.Common.{◌≡◌, ◌++◌, drop}
use Rattle.declaration_rows.specs.NameRows.{names_rows}
use Rattle.name_table.specs.Named.{texts}
use Rattle.name_judge.proofs.judge.add_names_rows.Given as goal

abbrev pub invariant-loop-name : goal.invariant-loop-name
invariant-loop-name l = l.initial.found.items ++ names_rows l.unit (texts l.names) ≡ l.found.items ++ names_rows l.unit (texts (drop l.name-index l.names))
