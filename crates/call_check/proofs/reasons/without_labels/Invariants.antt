use Rattle.std.proofs.Common.{◌≡◌, ◌++◌, drop}
use Rattle.call_shapes.specs.Disagreements.{without_labels}
use Rattle.call_check.proofs.reasons.without_labels.Given as goal

abbrev pub invariant-loop-argument : goal.invariant-loop-argument
invariant-loop-argument l = without_labels l.arguments ≡ l.kept ++ without_labels (drop l.argument-index l.arguments)
