use Rattle.std.specs.Io.KnownBytes.{Consumes}
use Rattle.host_lines.specs.Lines.{HasNoEnd}
use Rattle.host_lines.proofs.reading.take_line.Given as goal

-- what was taken from the reader is the line so far
abbrev pub invariant-loop : goal.invariant-loop
invariant-loop g l = HasNoEnd l.line.items × Consumes (g.F.Read.remaining l.initial.reader) (g.F.Read.remaining l.reader) l.line.items
