use Rattle.std.proofs.Common.{◌≡◌, List, ℕ, min, ◌-◌, ◌^◌, false}
use Rattle.std.specs.Io.KnownBytes.{Consumes}
use Rattle.host_lines.specs.Lines.{ends_in, inside_after}
use Rattle.host_lines.proofs.reading.count_lines.Given as goal

-- the line feeds of what was taken were counted
abbrev pub invariant-loop : goal.invariant-loop
invariant-loop g l =
    (taken : List ℕ)
    × Consumes (g.F.Read.remaining l.initial.reader) (g.F.Read.remaining l.reader) taken
    × (l.lines ≡ min (ends_in taken) (2 ^ 64 - 1))
    × (l.is_inside ≡ inside_after false taken)
