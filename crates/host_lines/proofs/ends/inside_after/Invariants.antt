use Rattle.std.proofs.Common.{◌≡◌, drop}
use Rattle.host_lines.specs.Lines.{inside_after}
use Rattle.host_lines.proofs.ends.inside_after.Given as goal

-- the rest decides
abbrev pub invariant-loop-byte : goal.invariant-loop-byte
invariant-loop-byte l = inside_after l.is_inside (drop l.byte-index l.bytes) ≡ inside_after l.fn.was_inside l.bytes
