use Rattle.std.proofs.Common.{List, ◌∷◌, [], map, refl, ap, ◌∙◌, arith}
use Rattle.f_tree.specs.declared.statements.Dimension.{Dimension as WrittenDimension}
use Rattle.f_tree.specs.Values.{Bytes}
use Rattle.f_tree.specs.declared.statements.Declarator.{Declarator}
use Rattle.name_uses.specs.UsesSeen.{shape_of}
use Rattle.declared_types.specs.TypeTables.{shape_at}
use Rattle.declared_types.proofs.ShapeLemmas.{notes_more, notes_end, shapes_as, declarator_is}
use Rattle.declared_types.proofs.shapes.note_declarators.Goals as goal

pub loop-item-preserved : goal.loop-item-preserved
loop-item-preserved c =
    notes_more (λ (xs : List Declarator). map shape_of xs) (λ (d : Declarator). shape_of d ∷ []) (λ d ds. refl) c.args.items.now c.loop-item.item-index c.item-item.result _ (shape_at c.args.shapes.now) _ _
    c.loop-item-test.true c.item-item.is c.loop-item.invariant (shapes_as _ _ _ _
    (ap (λ (x : Bytes). record { name = x; dimensions = c.as_slice-in-loop-item.result.now } ∷ []) c.as_slice.ensures
    ∙ ap (λ (ds : List WrittenDimension). record { name = c.item-item.result.name; dimensions = ds } ∷ []) c.as_slice-in-loop-item.ensures ∙ declarator_is c.item-item.result)
    c.in_ok-note_shape.ensures)

pub returns : goal.returns
returns c = record {
  has = notes_end (λ (xs : List Declarator). map shape_of xs) (λ (d : Declarator). shape_of d ∷ []) refl c.args.items.now c.loop-item.item-index (shape_at c.args.shapes.now) _ (omega arith) c.loop-item.invariant;
}
