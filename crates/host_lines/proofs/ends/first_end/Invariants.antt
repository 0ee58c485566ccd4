use Rattle.std.proofs.Common.{take}
use Rattle.host_lines.specs.Lines.{HasNoEnd}
use Rattle.host_lines.proofs.ends.first_end.Given as goal

-- none of the bytes that were looked at is a line feed
abbrev pub invariant-loop-number : goal.invariant-loop-number
invariant-loop-number l = HasNoEnd (take l.number l.bytes)
