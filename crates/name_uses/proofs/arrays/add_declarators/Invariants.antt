use Rattle.std.proofs.Common.{◌≡◌, ◌++◌, drop, map}
use Rattle.f_tree.specs.Attributes.{array_names}
use Rattle.name_uses.specs.UsesSeen.{shape_of}
use Rattle.name_table.specs.Named.{names_in, IsNameSet}
use Rattle.name_uses.proofs.arrays.add_declarators.Given as goal

abbrev pub invariant-loop-item : goal.invariant-loop-item
invariant-loop-item l = record {
  is_set : IsNameSet l.arrays;
  names : names_in l.initial.arrays ++ array_names (map shape_of l.items) ≡ names_in l.arrays ++ array_names (map shape_of (drop l.item-index l.items));
}
