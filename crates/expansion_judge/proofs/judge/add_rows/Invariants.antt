use Rattle.std.proofs.Common.{◌≡◌, ◌++◌, drop}
use Rattle.expansion_judge.specs.NodesCounted.{rows_by}
use Rattle.expansion_judge.proofs.judge.add_rows.Given as goal

abbrev pub invariant-loop-statement : goal.invariant-loop-statement
invariant-loop-statement l = l.initial.found.items ++ rows_by l.functions l.statements ≡ l.found.items ++ rows_by l.functions (drop l.statement-index l.statements)
