use Rattle.std.proofs.Common.{◌≡◌, drop, map}
use Rattle.f_tree.specs.Values.{Bytes}
use Rattle.f_tree.specs.Attributes.{dimensions_among}
use Rattle.name_uses.specs.UsesSeen.{shape_of}
use Rattle.declared_types.specs.TypeTables.{shape_at, shape_or}
use Rattle.declared_types.proofs.shapes.note_declarators.Given as goal

abbrev pub invariant-loop-item : goal.invariant-loop-item
invariant-loop-item l =
    (q : Bytes) → shape_or (shape_at l.initial.shapes q) (dimensions_among q (map shape_of l.items)) ≡ shape_or (shape_at l.shapes q) (dimensions_among q (map shape_of (drop l.item-index l.items)))
