use Rattle.std.proofs.Common.{List, ◌∷◌, [], map, refl, arith}
use Rattle.f_tree.specs.declared.statements.Declarator.{Declarator}
use Rattle.declared_types.specs.TypeTables.{type_at}
use Rattle.declared_types.proofs.TypeLemmas.{notes_more, notes_end}
use Rattle.declared_types.proofs.types.note_items.Goals as goal

pub loop-item-preserved : goal.loop-item-preserved
loop-item-preserved c =
    notes_more (λ (ds : List Declarator). map (λ (i : Declarator). record { spec = c.args.written.now; item = i }) ds) (λ (i : Declarator). record { spec = c.args.written.now; item = i } ∷ [])
    (λ d ds. refl) c.args.items.now c.loop-item.item-index c.item-item.result _ (type_at c.args.types.now) _ _ c.loop-item-test.true c.item-item.is c.loop-item.invariant c.in_ok-note_item.ensures

pub returns : goal.returns
returns c = record {
  has = notes_end (λ (ds : List Declarator). map (λ (i : Declarator). record { spec = c.args.written.now; item = i }) ds) (λ (i : Declarator). record { spec = c.args.written.now; item = i } ∷ [])
      refl c.args.items.now c.loop-item.item-index (type_at c.args.types.now) _ (omega arith) c.loop-item.invariant;
}
