use Rattle.std.proofs.Common.{◌≡◌, None, drop}
use Rattle.statement_judge.specs.StatementSteps.{branches_onward}
use Rattle.statement_judge.proofs.targets.branches.Given as goal

abbrev pub invariant-loop-label : goal.invariant-loop-label
invariant-loop-label l = branches_onward l.site l.fault (drop l.label-index l.labels) ≡ branches_onward l.site None l.labels
