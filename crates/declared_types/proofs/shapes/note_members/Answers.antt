use Rattle.std.proofs.Common.{List, ◌∷◌, [], map, refl, ap, ◌∙◌, arith}
use Rattle.f_tree.specs.declared.statements.Dimension.{Dimension as WrittenDimension}
use Rattle.f_tree.specs.Values.{Bytes}
use Rattle.f_tree.specs.declared.statements.ArrayDeclarator.{ArrayDeclarator}
use Rattle.f_tree.specs.Attributes.{shape_of_array}
use Rattle.declared_types.specs.TypeTables.{shape_at}
use Rattle.declared_types.proofs.ShapeLemmas.{notes_more, notes_end, shapes_as, member_is}
use Rattle.declared_types.proofs.shapes.note_members.Goals as goal

pub loop-item-preserved : goal.loop-item-preserved
loop-item-preserved c =
    notes_more (λ (xs : List ArrayDeclarator). map shape_of_array xs) (λ (d : ArrayDeclarator). shape_of_array d ∷ []) (λ d ds. refl) c.args.items.now c.loop-item.item-index c.item-item.result _ (shape_at c.args.shapes.now) _ _
    c.loop-item-test.true c.item-item.is c.loop-item.invariant (shapes_as _ _ _ _
    (ap (λ (x : Bytes). record { name = x; dimensions = c.as_slice-in-loop-item.result.now } ∷ []) c.as_slice.ensures
    ∙ ap (λ (ds : List WrittenDimension). record { name = c.item-item.result.name; dimensions = ds } ∷ []) c.as_slice-in-loop-item.ensures ∙ member_is c.item-item.result)
    c.in_ok-note_shape.ensures)

pub returns : goal.returns
returns c = record {
  has = notes_end (λ (xs : List ArrayDeclarator). map shape_of_array xs) (λ (d : ArrayDeclarator). shape_of_array d ∷ []) refl c.args.items.now c.loop-item.item-index (shape_at c.args.shapes.now) _ (omega arith) c.loop-item.invariant;
}
