use Rattle.std.proofs.Common.{List, ◌∷◌, [], map, refl, sym, ap, ◌∙◌, arith}
use Rattle.f_tree.specs.Values.{Bytes}
use Rattle.name_places.proofs.NoteLemmas.{notes_more, notes_end, notes_as}
use Rattle.name_places.proofs.notes.note_texts.Goals as goal

pub loop-item-preserved : goal.loop-item-preserved
loop-item-preserved c =
    notes_more (λ (xs : List Bytes). xs) (λ (x : Bytes). x ∷ []) (λ x xs. refl) c.args.at c.args.items.now c.loop-item.item-index c.item-item.result _ _ _ _ c.loop-item-test.true c.item-item.is
    c.loop-item.invariant (notes_as c.args.at _ _ _ _ (ap (λ (x : Bytes). x ∷ []) c.as_slice.ensures) c.in_ok-note.ensures)

pub returns : goal.returns
returns c = notes_end (λ (xs : List Bytes). xs) (λ (x : Bytes). x ∷ []) refl c.args.at c.args.items.now c.loop-item.item-index _ _ (omega arith) c.loop-item.invariant
