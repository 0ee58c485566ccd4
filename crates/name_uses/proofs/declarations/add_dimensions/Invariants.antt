use Rattle.std.proofs.Common.{◌≡◌, ◌++◌, drop}
use Rattle.f_tree.specs.Uses.{all_of, uses_of_dimension}
use Rattle.name_uses.specs.UsesSeen.{used_in}
use Rattle.name_uses.proofs.declarations.add_dimensions.Given as goal

abbrev pub invariant-loop-dimension : goal.invariant-loop-dimension
invariant-loop-dimension l =
    used_in l.initial.uses.items ++ all_of uses_of_dimension l.dimensions ≡ used_in l.uses.items ++ all_of uses_of_dimension (drop l.dimension-index l.dimensions)
