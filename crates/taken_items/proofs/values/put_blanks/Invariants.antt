use Rattle.std.proofs.Common.{◌-◌, ◌≤◌}
use Rattle.item_deeds.specs.Forms.{SameForms}
use Rattle.taken_items.proofs.PadLaws.{Padding}
use Rattle.taken_items.proofs.values.put_blanks.Given as goal

-- some blanks are stored
abbrev pub invariant-loop-filled : goal.invariant-loop-filled
invariant-loop-filled l = (l.filled ≤ l.blanks) × SameForms l.fn.run l.run × Padding l.pointer l.done l.filled l.fn.run l.run

abbrev pub decreases-loop-filled : goal.decreases-loop-filled
decreases-loop-filled l = l.blanks - l.filled
