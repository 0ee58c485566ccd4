use Rattle.std.proofs.Common.{◌≡◌, None, drop}
use Rattle.statement_judge.specs.StatementSteps.{arguments_onward}
use Rattle.statement_judge.proofs.statement.arguments.Given as goal

abbrev pub invariant-loop-e : goal.invariant-loop-e
invariant-loop-e l = arguments_onward l.site l.fault (drop l.e-index l.es) ≡ arguments_onward l.site None l.es
