use Rattle.std.proofs.Common.{◌++◌, ap, ◌∙◌, arith}
use Rattle.f_tree.specs.Uses.{all_of, uses_of_item}
use Rattle.std.proofs.Common.{sym}
use Rattle.found_rows.proofs.Walks.{put_two, put_as}
use Rattle.f_tree.specs.Uses.{uses_of, uses_of_control}
use Rattle.name_uses.proofs.ItemForms.{item-Item, item-Loop}
use Rattle.name_uses.proofs.UseWalks.{all_more, all_end}
use Rattle.name_uses.proofs.items.+items.Goals as goal

pub add_items-loop-item-preserved : goal.add_items-loop-item-preserved
add_items-loop-item-preserved t c =
    all_more uses_of_item c.args.items.now c.loop-item.item-index c.item-item.result _ _ _ _ c.loop-item-test.true c.item-item.is c.loop-item.invariant
    (c.in_ok-add_item.ensures)

pub add_items-returns : goal.add_items-returns
add_items-returns t c = all_end uses_of_item c.args.items.now c.loop-item.item-index _ _ (omega arith) c.loop-item.invariant

pub add_item-returns-in-Item : goal.add_item-returns-in-Item
add_item-returns-in-Item t c =
    put_as c.add_uses_of.result _ _ (uses_of c.in-Item.e) _ (sym (item-Item c.in-Item.e) ∙ ap uses_of_item (sym c.in-Item.is)) c.add_uses_of.ensures

pub add_item-returns-in_ok-add_items-in-Loop : goal.add_item-returns-in_ok-add_items-in-Loop
add_item-returns-in_ok-add_items-in-Loop t c =
    put_two c.add_control.result _ _ _ (all_of uses_of_item c.as_slice.result.now) (uses_of_control c.in-Loop.control) _ c.in_ok-add_items-in-Loop.ensures
    c.add_control.ensures
    (ap (λ is. all_of uses_of_item is ++ uses_of_control c.in-Loop.control) c.as_slice.ensures ∙ sym (item-Loop c.in-Loop.items c.in-Loop.control)
    ∙ ap uses_of_item (sym c.in-Loop.is))
