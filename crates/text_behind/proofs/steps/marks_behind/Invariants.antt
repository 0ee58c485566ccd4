use Rattle.std.proofs.Common.{◌≡◌, map, take}
use Rattle.lowered_text.specs.Texts.{marked_of}
use Rattle.behind_bounds.specs.BehindBounds as spec
use Rattle.text_behind.proofs.steps.marks_behind.Given as goal

abbrev pub invariant-loop-marked : goal.invariant-loop-marked
invariant-loop-marked l = map marked_of l.behind.items ≡ map (spec.mark_behind l.first) (map marked_of (take l.marked-index l.marks))
