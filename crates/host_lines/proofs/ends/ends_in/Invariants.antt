use Rattle.std.proofs.Common.{◌≡◌, ◌+◌, ◌≤◌, drop}
use Rattle.host_lines.specs.Lines.{ends_in}
use Rattle.host_lines.proofs.ends.ends_in.Given as goal

-- the line feeds so far and those of the rest are all, and there are no more than bytes
abbrev pub invariant-loop-byte : goal.invariant-loop-byte
invariant-loop-byte l = (l.ends + ends_in (drop l.byte-index l.bytes) ≡ ends_in l.bytes) × (l.ends ≤ l.byte-index)
