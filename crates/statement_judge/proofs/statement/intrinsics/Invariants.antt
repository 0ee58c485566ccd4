use Rattle.std.proofs.Common.{◌≡◌, None, drop}
use Rattle.statement_judge.specs.StatementSteps.{intrinsics_onward}
use Rattle.statement_judge.proofs.statement.intrinsics.Given as goal

abbrev pub invariant-loop-name : goal.invariant-loop-name
invariant-loop-name l = intrinsics_onward l.fault (drop l.name-index l.names) ≡ intrinsics_onward None l.names
