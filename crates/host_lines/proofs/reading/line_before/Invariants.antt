use Rattle.std.proofs.Common.{◌≡◌, ◌+◌, ◌-◌, List, ℕ, length}
use Rattle.host_lines.specs.Lines.{HasNoEnd, ReadBack}
use Rattle.host_lines.proofs.reading.line_before.Given as goal

-- what was read backwards so far has no line feed
abbrev pub invariant-loop-end : goal.invariant-loop-end
invariant-loop-end g l =
    (seen : List ℕ)
    × ReadBack g.F.Seek.stream_position g.F.Seek.stream_bytes g.F.Read.remaining (l.offset - 1) l.initial.file l.end l.file seen
    × (l.end + length seen ≡ l.offset - 1)
    × HasNoEnd seen

abbrev pub decreases-loop-end : goal.decreases-loop-end
decreases-loop-end g l = l.end
