use Rattle.std.proofs.Common.{◌≡◌, []}
use Rattle.lowered_tree.specs.Shapes.{steps_of}
use Rattle.behind_bounds.specs.BehindBounds as spec
use Rattle.text_behind.proofs.steps.passes.Given as goal

abbrev pub invariant-loop-at : goal.invariant-loop-at
invariant-loop-at l = steps_of l.steps.items ≡ spec.steps_behind l._at []
