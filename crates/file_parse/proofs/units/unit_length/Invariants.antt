use Rattle.std.proofs.Common.{◌≡◌, ◌+◌, drop}
use Rattle.file_parse.specs.ReadSoFar.{unit_length}
use Rattle.file_parse.proofs.units.unit_length.Given as goal

abbrev pub invariant-loop-place : goal.invariant-loop-place
invariant-loop-place l = unit_length l.sources ≡ l.place + unit_length (drop l.place l.sources)
