use Rattle.std.proofs.Common.{◌≡◌, None, drop}
use Rattle.f_tree.specs.Values.{Bytes}
use Rattle.f_tree.specs.Attributes.{from_all, typed_in, type_among}
use Rattle.declared_types.specs.TypeTables.{type_at, type_or}
use Rattle.declared_types.proofs.types.types_among.Given as goal

abbrev pub invariant-loop-statement : goal.invariant-loop-statement
invariant-loop-statement l =
    (q : Bytes) → type_or None (type_among q (from_all typed_in l.statements)) ≡ type_or (type_at l.types q) (type_among q (from_all typed_in (drop l.statement-index l.statements)))
