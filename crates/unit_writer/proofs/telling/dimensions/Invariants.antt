use Rattle.std.proofs.Common.{◌≡◌, ◌-◌, ◌++◌}
use Rattle.unit_writer.specs.Told.{dimension_told, dimensions_told}
use Rattle.unit_writer.proofs.telling.dimensions.Given as goal

abbrev pub invariant-loop-place : goal.invariant-loop-place
invariant-loop-place l = dimensions_told (dimension_told l.kept l.name l.bounds) 0 l.rank ≡ l.found.items ++ dimensions_told (dimension_told l.kept l.name l.bounds) l.place (l.rank - l.place)
