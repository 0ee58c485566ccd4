use Rattle.std.proofs.Common.{◌≡◌, ◌++◌, drop}
use Rattle.format_judge.specs.FormatsFound.{rows_found}
use Rattle.format_judge.proofs.judge.add_rows.Given as goal

abbrev pub invariant-loop-statement : goal.invariant-loop-statement
invariant-loop-statement l = l.initial.found.items ++ rows_found l.names l.statements ≡ l.found.items ++ rows_found l.names (drop l.statement-index l.statements)
