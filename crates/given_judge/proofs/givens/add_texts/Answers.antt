use Rattle.std.proofs.Common.{◌++◌, ◌∷◌, [], List, map, refl, ap, ◌∙◌, arith}
use Rattle.found_rows.proofs.Walks.{each_more, each_end}
use Rattle.f_tree.specs.Values.{Bytes}
use Rattle.declaration_rows.specs.GivenRows.{given}
use Rattle.given_judge.specs.GiftsSeen.{gift_in, givens_in}
use Rattle.given_judge.proofs.givens.add_texts.Goals as goal

pub loop-name-preserved : goal.loop-name-preserved
loop-name-preserved c =
    each_more (λ (xs : List Bytes). map (given (gift_in c.args.gift)) xs) (λ (x : Bytes). given (gift_in c.args.gift) x ∷ []) (λ x xs. refl)
    c.args.names.now c.loop-name.name-index c.name-item.result _ _ _ _ c.loop-name-test.true c.name-item.is c.loop-name.invariant
    (c.in_ok-add_given.ensures ∙ ap (λ (x : Bytes). givens_in c.loop-name.givens.items ++ given (gift_in c.args.gift) x ∷ []) c.as_slice.ensures)

pub returns : goal.returns
returns c =
    each_end (λ (xs : List Bytes). map (given (gift_in c.args.gift)) xs) (λ (x : Bytes). given (gift_in c.args.gift) x ∷ []) refl
    c.args.names.now c.loop-name.name-index _ _ (omega arith) c.loop-name.invariant
