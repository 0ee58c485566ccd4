use Rattle.std.proofs.Common.{take}
use Rattle.host_lines.specs.Lines.{IsLastEnd}
use Rattle.host_lines.proofs.ends.last_end.Given as goal

-- the last line feed among the bytes that were looked at
abbrev pub invariant-loop-number : goal.invariant-loop-number
invariant-loop-number l = IsLastEnd (take l.number l.bytes) l.found
