use Rattle.std.proofs.Common.{◌≡◌, ◌++◌, drop}
use Rattle.declaration_rows.specs.UndeclaredRows.{undeclared_definition_rows}
use Rattle.unit_names.proofs.definition_rows.add_definitions_rows.Given as goal

abbrev pub invariant-loop-statement : goal.invariant-loop-statement
invariant-loop-statement l =
    l.initial.found.items ++ undeclared_definition_rows l.unit l.unit.statements
    ≡ l.found.items ++ undeclared_definition_rows l.unit (drop l.statement-index l.unit.statements)
