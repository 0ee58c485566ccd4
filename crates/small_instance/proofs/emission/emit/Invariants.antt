use Rattle.std.proofs.Common.{◌≡◌, map, take}
use Rattle.small_instance.specs.Translation.{item_of}
use Rattle.small_instance.proofs.emission.emit.Given as goal

abbrev pub invariant-loop-step : goal.invariant-loop-step
invariant-loop-step l = l.items.items ≡ map item_of (take l.step-index l.steps)
