use Rattle.std.proofs.Common.{◌∷◌, [], List, map, sym, ap, ◌∙◌, arith}
use Rattle.found_rows.proofs.Walks.{each_more, each_end, put_as}
use Rattle.declaration_rows.specs.GivenRows as rows
use Rattle.declaration_rows.specs.GivenRows.{given, shaped_names, saved_names, owners, owners_of, owners_in, data_owners, tied_owners}
use Rattle.given_judge.specs.GiftsSeen.{gift_in}
use Rattle.f_tree.specs.declared.statements.ListItem.{ListItem}
use Rattle.given_judge.proofs.OwnerForms.{items_step, items_end, item-Item, item-Loop}
use Rattle.given_judge.proofs.owners.+places.Goals as goal

pub add_places-loop-item-preserved : goal.add_places-loop-item-preserved
add_places-loop-item-preserved t c =
    each_more (λ (xs : List ListItem). map (given rows.DataOf) (owners_in xs)) (λ (x : ListItem). map (given rows.DataOf) (owners_in (x ∷ []))) items_step
    c.args.items.now c.loop-item.item-index c.item-item.result _ _ _ _ c.loop-item-test.true c.item-item.is c.loop-item.invariant
    (c.in_ok-add_place.ensures)

pub add_places-returns : goal.add_places-returns
add_places-returns t c =
    each_end (λ (xs : List ListItem). map (given rows.DataOf) (owners_in xs)) (λ (x : ListItem). map (given rows.DataOf) (owners_in (x ∷ []))) items_end
    c.args.items.now c.loop-item.item-index _ _ (omega arith) c.loop-item.invariant

pub add_place-returns-in-Item : goal.add_place-returns-in-Item
unfolding gift_in
add_place-returns-in-Item t c =
    put_as c.add_owner.result _ _ (map (given rows.DataOf) (owners c.in-Item.e)) _
    (ap (map (given rows.DataOf)) (sym (item-Item c.in-Item.e) ∙ ap (λ (i : ListItem). owners_in (i ∷ [])) (sym c.in-Item.is))) c.add_owner.ensures

pub add_place-returns-in-Loop : goal.add_place-returns-in-Loop
add_place-returns-in-Loop t c =
    put_as c.add_places.result _ _ (map (given rows.DataOf) (owners_in c.as_slice.result.now)) _
    (ap (map (given rows.DataOf)) (ap owners_in c.as_slice.ensures ∙ sym (item-Loop c.in-Loop.items c.in-Loop.field-1) ∙ ap (λ (i : ListItem). owners_in (i ∷ [])) (sym c.in-Loop.is)))
    c.add_places.ensures
