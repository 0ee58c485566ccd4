use Rattle.std.proofs.Common.{◌≡◌, drop}
use Rattle.declaration_rows.specs.NameRows.{are_dummy_bounds}
use Rattle.name_judge.specs.FactRows.{naming_in}
use Rattle.name_judge.proofs.bounds.are_dummy_bounds.Given as goal

abbrev pub invariant-loop-dimension : goal.invariant-loop-dimension
invariant-loop-dimension l = are_dummy_bounds (naming_in l.facts) l.dimensions ≡ are_dummy_bounds (naming_in l.facts) (drop l.dimension-index l.dimensions)
