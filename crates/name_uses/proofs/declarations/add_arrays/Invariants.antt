use Rattle.std.proofs.Common.{◌≡◌, ◌++◌, drop}
use Rattle.f_tree.specs.Uses.{all_of, uses_of_array}
use Rattle.name_uses.specs.UsesSeen.{used_in}
use Rattle.name_uses.proofs.declarations.add_arrays.Given as goal

abbrev pub invariant-loop-array : goal.invariant-loop-array
invariant-loop-array l =
    used_in l.initial.uses.items ++ all_of uses_of_array l.arrays ≡ used_in l.uses.items ++ all_of uses_of_array (drop l.array-index l.arrays)
