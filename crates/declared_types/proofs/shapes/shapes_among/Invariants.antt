use Rattle.std.proofs.Common.{◌≡◌, [], drop}
use Rattle.f_tree.specs.Values.{Bytes}
use Rattle.f_tree.specs.Attributes.{from_all, shaped_in, dimensions_among}
use Rattle.declared_types.specs.TypeTables.{shape_at, shape_or}
use Rattle.declared_types.proofs.shapes.shapes_among.Given as goal

abbrev pub invariant-loop-statement : goal.invariant-loop-statement
invariant-loop-statement l =
    (q : Bytes) → shape_or [] (dimensions_among q (from_all shaped_in l.statements)) ≡ shape_or (shape_at l.shapes q) (dimensions_among q (from_all shaped_in (drop l.statement-index l.statements)))
