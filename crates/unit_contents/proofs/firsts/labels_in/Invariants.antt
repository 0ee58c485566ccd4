use Rattle.std.proofs.Common.{◌≡◌, ◌++◌, drop}
use Rattle.lowered_tree.specs.Shapes.{steps_of}
use Rattle.main_translation.specs.Outlined.{labels_in}
use Rattle.unit_contents.proofs.firsts.labels_in.Given as goal

-- those so far, and those of the steps that are left
abbrev pub invariant-loop-step : goal.invariant-loop-step
invariant-loop-step l = l.labels.items ++ labels_in (steps_of (drop l.step-index l.steps)) ≡ labels_in (steps_of l.steps)
