use Rattle.std.proofs.Common.{◌≡◌, drop, map}
use Rattle.f_tree.specs.Values.{Bytes}
use Rattle.f_tree.specs.declared.statements.Declarator.{Declarator}
use Rattle.f_tree.specs.Attributes.{type_among}
use Rattle.declared_types.specs.TypeTables.{type_at, type_or}
use Rattle.declared_types.proofs.types.note_items.Given as goal

abbrev pub invariant-loop-item : goal.invariant-loop-item
invariant-loop-item l =
    (q : Bytes) → type_or (type_at l.initial.types q) (type_among q (map (λ (i : Declarator). record { spec = l.written; item = i }) l.items))
    ≡ type_or (type_at l.types q) (type_among q (map (λ (i : Declarator). record { spec = l.written; item = i }) (drop l.item-index l.items)))
