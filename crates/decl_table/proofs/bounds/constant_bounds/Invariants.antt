use Rattle.std.proofs.Common.{take, []}
use Rattle.name_table.specs.Named.{names_in}
use Rattle.decl_table.specs.UnitFacts.{AddsBounds}
use Rattle.decl_table.proofs.bounds.constant_bounds.Given as goal

abbrev pub invariant-loop-dimension : goal.invariant-loop-dimension
invariant-loop-dimension l = AddsBounds l.constants (names_in l.functions) [] l.bounds (take l.dimension-index l.dimensions)
