use Rattle.std.proofs.Common.{◌≡◌, ◌++◌, drop}
use Rattle.call_shapes.specs.CallsMade.{calls_among}
use Rattle.call_check.specs.CallsSeen.{seen_function}
use Rattle.call_check.proofs.expressions.+calls.Given as goal

abbrev pub invariant-add_list-loop-e : goal.invariant-add_list-loop-e
invariant-add_list-loop-e l =
    l.initial.calls.items ++ calls_among (seen_function l.names) l.es ≡ l.calls.items ++ calls_among (seen_function l.names) (drop l.e-index l.es)
