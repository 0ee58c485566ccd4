use Rattle.std.proofs.Common.{◌≡◌, ◌++◌, drop}
use Rattle.statement_parts.specs.TreesSeen.{trees}
use Rattle.call_shapes.specs.CallsMade.{calls_among}
use Rattle.call_check.specs.CallsSeen.{seen_function}
use Rattle.call_check.proofs.expressions.add_each.Given as goal

abbrev pub invariant-loop-e : goal.invariant-loop-e
invariant-loop-e l =
    l.initial.calls.items ++ calls_among (seen_function l.names) (trees l.es) ≡ l.calls.items ++ calls_among (seen_function l.names) (trees (drop l.e-index l.es))
