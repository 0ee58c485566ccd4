use Rattle.std.proofs.Common.{◌≡◌, ◌++◌, drop, map}
use Rattle.call_check.specs.ProceduresSeen.{seen_dummy}
use Rattle.call_check.proofs.arguments.dummy_arguments.Given as goal

abbrev pub invariant-loop-dummy : goal.invariant-loop-dummy
invariant-loop-dummy l = map (seen_dummy l.names) l.dummies ≡ l.arguments ++ map (seen_dummy l.names) (drop l.dummy-index l.dummies)
