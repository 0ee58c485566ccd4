use Rattle.std.proofs.Common.{length}
use Rattle.file_parse.proofs.UnitLemmas.{GoingUnits}
use Rattle.file_parse.proofs.files.read_units.Given as goal

abbrev pub invariant-loop-rest : goal.invariant-loop-rest
invariant-loop-rest l = GoingUnits l.sources l.rest l.units

abbrev pub decreases-loop-rest : goal.decreases-loop-rest
decreases-loop-rest l = length l.rest
