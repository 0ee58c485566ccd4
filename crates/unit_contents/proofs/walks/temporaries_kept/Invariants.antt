use Rattle.std.proofs.Common.{◌≡◌, max, drop}
use Rattle.lowered_tree.specs.Shapes.{steps_of}
use Rattle.unit_translation.specs.UnitContents.{temporaries_kept}
use Rattle.unit_contents.proofs.walks.temporaries_kept.Given as goal

-- those so far, and those of the steps that are left
abbrev pub invariant-loop-step : goal.invariant-loop-step
invariant-loop-step l = max l.count (temporaries_kept (steps_of (drop l.step-index l.steps))) ≡ temporaries_kept (steps_of l.steps)
