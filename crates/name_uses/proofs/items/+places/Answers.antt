use Rattle.std.proofs.Common.{ap, ◌∙◌, arith}
use Rattle.f_tree.specs.Uses.{uses_of_place}
use Rattle.name_uses.specs.UsesSeen.{used_in}
use Rattle.std.proofs.Common.{sym}
use Rattle.found_rows.proofs.Walks.{put_as}
use Rattle.f_tree.specs.Uses.{uses_of}
use Rattle.name_uses.proofs.ItemForms.{place-Item, place_loop}
use Rattle.name_uses.proofs.UseWalks.{all_more, all_end}
use Rattle.name_uses.proofs.items.+places.Goals as goal

pub add_places-loop-item-preserved : goal.add_places-loop-item-preserved
add_places-loop-item-preserved t c =
    all_more uses_of_place c.args.items.now c.loop-item.item-index c.item-item.result _ _ _ _ c.loop-item-test.true c.item-item.is c.loop-item.invariant
    (c.in_ok-add_place.ensures)

pub add_places-returns : goal.add_places-returns
add_places-returns t c = all_end uses_of_place c.args.items.now c.loop-item.item-index _ _ (omega arith) c.loop-item.invariant

pub add_place-returns-in-Item : goal.add_place-returns-in-Item
add_place-returns-in-Item t c =
    put_as c.add_uses_of.result _ _ (uses_of c.in-Item.e) _ (sym (place-Item c.in-Item.e) ∙ ap uses_of_place (sym c.in-Item.is)) c.add_uses_of.ensures

pub add_place-returns-in_ok-add_bounds-in-Loop : goal.add_place-returns-in_ok-add_bounds-in-Loop
add_place-returns-in_ok-add_bounds-in-Loop t c =
    put_as c.add_without.result _ _ _ _
    (place_loop c.in-Loop.items c.as_slice.result.now c.in-Loop.control c.args.item.now c.as_slice-in-Loop-2.result.now _ _ _ _ c.in-Loop.is c.as_slice-in-Loop-2.ensures
    (ap used_in c.new-inner.ensures.items) c.as_slice.ensures c.in_ok-add_places-in-Loop.ensures c.in_ok-add_bounds-in-Loop.ensures
    (ap used_in c.as_slice-in-Loop.ensures.value))
    c.add_without.ensures
