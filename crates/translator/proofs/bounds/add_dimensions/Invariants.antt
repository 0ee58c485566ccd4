use Rattle.std.proofs.Common.{◌≡◌, ◌++◌, map, drop}
use Rattle.bound_values.specs.BoundValues.{dimensions_told}
use Rattle.unit_translation.specs.UnitBounds.{dimensions_kept}
use Rattle.unit_writer.specs.ToldUnits.{bound_told}
use Rattle.translator.proofs.bounds.add_dimensions.Given as goal

abbrev pub invariant-loop-place : goal.invariant-loop-place
invariant-loop-place l =
    map bound_told l.initial.found.items ++ dimensions_kept l.name 0 (dimensions_told l.table l.dimensions)
    ≡ map bound_told l.found.items ++ dimensions_kept l.name l.place (dimensions_told l.table (drop l.place l.dimensions))
