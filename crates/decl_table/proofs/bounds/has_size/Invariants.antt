use Rattle.std.proofs.Common.{◌≡◌, drop}
use Rattle.decl_table.specs.UnitFacts.{all_closed}
use Rattle.decl_table.proofs.bounds.has_size.Given as goal

abbrev pub invariant-loop-dimension : goal.invariant-loop-dimension
invariant-loop-dimension l = all_closed (drop l.dimension-index l.dimensions) ≡ all_closed l.dimensions
