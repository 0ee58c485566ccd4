use Rattle.std.proofs.Common.{◌≡◌, drop, map}
use Rattle.f_tree.specs.Values.{Bytes}
use Rattle.f_tree.specs.Attributes.{dimensions_among, shape_of_array, members_of}
use Rattle.declared_types.specs.TypeTables.{shape_at, shape_or}
use Rattle.declared_types.proofs.shapes.note_groups.Given as goal

abbrev pub invariant-loop-group : goal.invariant-loop-group
invariant-loop-group l =
    (q : Bytes) → shape_or (shape_at l.initial.shapes q) (dimensions_among q (map shape_of_array (members_of l.groups))) ≡ shape_or (shape_at l.shapes q) (dimensions_among q (map shape_of_array (members_of (drop l.group-index l.groups))))
