use Rattle.std.proofs.Common.{◌≡◌, ◌++◌, drop, map}
use Rattle.f_tree.specs.Attributes.{array_names, shape_of_array, members_of}
use Rattle.name_table.specs.Named.{names_in, IsNameSet}
use Rattle.name_uses.proofs.arrays.add_groups.Given as goal

abbrev pub invariant-loop-group : goal.invariant-loop-group
invariant-loop-group l = record {
  is_set : IsNameSet l.arrays;
  names : names_in l.initial.arrays ++ array_names (map shape_of_array (members_of l.groups)) ≡ names_in l.arrays ++ array_names (map shape_of_array (members_of (drop l.group-index l.groups)));
}
