use Rattle.std.proofs.Common.{◌≡◌, ◌++◌, drop}
use Rattle.declaration_rows.specs.LengthRows.{length_rows_from}
use Rattle.length_judge.proofs.judge.add_statements_rows.Given as goal

abbrev pub invariant-loop-statement : goal.invariant-loop-statement
invariant-loop-statement l = l.initial.found.items ++ length_rows_from l.unit l.statements ≡ l.found.items ++ length_rows_from l.unit (drop l.statement-index l.statements)
