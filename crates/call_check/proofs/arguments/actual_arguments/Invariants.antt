use Rattle.std.proofs.Common.{◌≡◌, ◌++◌, drop, map}
use Rattle.call_check.specs.CallsSeen.{seen_argument}
use Rattle.call_check.proofs.arguments.actual_arguments.Given as goal

abbrev pub invariant-loop-e : goal.invariant-loop-e
invariant-loop-e l = map (seen_argument l.names) l.es ≡ l.arguments ++ map (seen_argument l.names) (drop l.e-index l.es)
