use Rattle.std.proofs.Common.{◌-◌, ◌≡◌, ◌≤◌, ◌++◌, take, replicate}
use Rattle.internal_input.proofs.texts.put_blanks.Given as goal

-- some blanks stand behind the bytes
abbrev pub invariant-loop-filled : goal.invariant-loop-filled
invariant-loop-filled l = (l.done ≤ l.filled) × (l.filled ≤ l.size) × (take l.filled l.buffer ≡ take l.done l.fn.buffer ++ replicate (l.filled - l.done) 32)

abbrev pub decreases-loop-filled : goal.decreases-loop-filled
decreases-loop-filled l = l.size - l.filled
