use Rattle.std.proofs.Common.{◌≡◌, ◌++◌, drop}
use Rattle.declaration_rows.specs.NameRows.{stood}
use Rattle.declaration_rows.specs.UndeclaredRows.{undeclared_dummies}
use Rattle.name_table.specs.Named.{texts}
use Rattle.unit_names.proofs.definition_rows.add_dummies_rows.Given as goal

abbrev pub invariant-loop-dummy : goal.invariant-loop-dummy
invariant-loop-dummy l =
    l.initial.found.items ++ stood l.statement (undeclared_dummies l.unit (texts l.dummies))
    ≡ l.found.items ++ stood l.statement (undeclared_dummies l.unit (texts (drop l.dummy-index l.dummies)))
