use Rattle.std.proofs.Common.{◌≤◌, length, take}
use Rattle.std.specs.Io.KnownBytes.{Appends}
use Rattle.host_lines.proofs.writing.put_all.Given as goal

-- a front of the bytes went out
abbrev pub invariant-loop : goal.invariant-loop
invariant-loop g l =
    (l.done ≤ length l.bytes) × Appends (g.W.Write.contents l.initial.writer) (g.W.Write.contents l.writer) (take l.done l.bytes)
