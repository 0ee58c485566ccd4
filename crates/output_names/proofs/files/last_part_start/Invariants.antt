use Rattle.std.proofs.Common.{◌≡◌, ◌≤◌, drop}
use Rattle.output_names.specs.OutputNames.{last_part_from}
use Rattle.output_names.proofs.files.last_part_start.Given as goal

-- the part of the bytes passed begins here
abbrev pub invariant-loop-place : goal.invariant-loop-place
invariant-loop-place l = (l.start ≤ l.place) × (last_part_from 0 0 l.bytes ≡ last_part_from l.start l.place (drop l.place l.bytes))
