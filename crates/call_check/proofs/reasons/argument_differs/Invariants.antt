use Rattle.std.proofs.Common.{◌≡◌, ◌+◌, drop}
use Rattle.call_shapes.specs.Disagreements.{argument_differs}
use Rattle.call_check.proofs.reasons.argument_differs.Given as goal

abbrev pub invariant-loop-index : goal.invariant-loop-index
invariant-loop-index l = argument_differs 1 l.fn.arguments l.fn.dummies ≡ argument_differs (l.index + 1) (drop l.index l.arguments) l.later
