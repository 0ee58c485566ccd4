use Rattle.std.proofs.Common.{◌++◌, ◌∷◌, [], List, sym, ap, ◌∙◌, arith}
use Rattle.found_rows.proofs.Walks.{each_more, each_end, put_two, put_as}
use Rattle.statement_parts.proofs.PartForms.{item-Item, item-Loop, items_step, items_end}
use Rattle.f_tree.specs.declared.statements.ListItem.{ListItem}
use Rattle.declaration_rows.specs.ReferenceRows.{expressions_of_control, expressions_of_items}
use Rattle.statement_parts.proofs.expressions.+items.Goals as goal

pub add_items-loop-item-preserved : goal.add_items-loop-item-preserved
add_items-loop-item-preserved t c =
    each_more (λ (xs : List ListItem). expressions_of_items xs) (λ (x : ListItem). expressions_of_items (x ∷ [])) items_step c.args.items.now c.loop-item.item-index c.item-item.result _ _ _ _ c.loop-item-test.true c.item-item.is c.loop-item.invariant
    c.in_ok-add_item.ensures

pub add_items-returns : goal.add_items-returns
add_items-returns t c = each_end (λ (xs : List ListItem). expressions_of_items xs) (λ (x : ListItem). expressions_of_items (x ∷ [])) items_end c.args.items.now c.loop-item.item-index _ _ (omega arith) c.loop-item.invariant

pub add_item-returns-in-Item : goal.add_item-returns-in-Item
add_item-returns-in-Item t c =
    put_as c.add_one.result _ _ (c.in-Item.e ∷ []) _ (sym (item-Item c.in-Item.e) ∙ ap (λ (i : ListItem). expressions_of_items (i ∷ [])) (sym c.in-Item.is)) c.add_one.ensures

pub add_item-returns-in_ok-add_items-in-Loop : goal.add_item-returns-in_ok-add_items-in-Loop
add_item-returns-in_ok-add_items-in-Loop t c =
    put_two c.add_control.result _ _ _ (expressions_of_items c.as_slice.result.now) (expressions_of_control c.in-Loop.control) _ c.in_ok-add_items-in-Loop.ensures c.add_control.ensures
    (ap (λ is. expressions_of_items is ++ expressions_of_control c.in-Loop.control) c.as_slice.ensures ∙ sym (item-Loop c.in-Loop.items c.in-Loop.control)
    ∙ ap (λ (i : ListItem). expressions_of_items (i ∷ [])) (sym c.in-Loop.is))
