use Rattle.std.proofs.Common.{◌∷◌, [], List, map, arith}
use Rattle.found_rows.proofs.Walks.{each_more, each_end}
use Rattle.declaration_rows.specs.GivenRows as rows
use Rattle.declaration_rows.specs.GivenRows.{given, shaped_names, saved_names, owners, owners_of, owners_in, data_owners, tied_owners}
use Rattle.f_tree.specs.declared.statements.SavedItem.{SavedItem}
use Rattle.given_judge.proofs.GivenForms.{saved_step, saved_end}
use Rattle.given_judge.proofs.givens.add_saved.Goals as goal

pub loop-item-preserved : goal.loop-item-preserved
loop-item-preserved c =
    each_more (λ (xs : List SavedItem). map (given rows.SavedOf) (saved_names xs)) (λ (x : SavedItem). map (given rows.SavedOf) (saved_names (x ∷ []))) saved_step
    c.args.items.now c.loop-item.item-index c.item-item.result _ _ _ _ c.loop-item-test.true c.item-item.is c.loop-item.invariant
    (c.in_ok-add_saved_item.ensures)

pub returns : goal.returns
returns c =
    each_end (λ (xs : List SavedItem). map (given rows.SavedOf) (saved_names xs)) (λ (x : SavedItem). map (given rows.SavedOf) (saved_names (x ∷ []))) saved_end
    c.args.items.now c.loop-item.item-index _ _ (omega arith) c.loop-item.invariant
