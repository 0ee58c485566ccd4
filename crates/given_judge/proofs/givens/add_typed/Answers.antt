use Rattle.std.proofs.Common.{◌++◌, ◌∷◌, [], List, map, refl, ap, ◌∙◌, arith}
use Rattle.found_rows.proofs.Walks.{each_more, each_end}
use Rattle.f_tree.specs.Values.{Bytes}
use Rattle.declaration_rows.specs.GivenRows as rows
use Rattle.declaration_rows.specs.GivenRows.{given, shaped_names, saved_names, owners, owners_of, owners_in, data_owners, tied_owners}
use Rattle.given_judge.specs.GiftsSeen.{gift_in, givens_in}
use Rattle.f_tree.specs.declared.statements.Declarator.{Declarator}
use Rattle.given_judge.proofs.givens.add_typed.Goals as goal

pub loop-item-preserved : goal.loop-item-preserved
unfolding gift_in
loop-item-preserved c =
    each_more (λ (xs : List Declarator). map (λ (d : Declarator). given rows.TypeOf d.name) xs) (λ (x : Declarator). given rows.TypeOf x.name ∷ []) (λ x xs. refl)
    c.args.items.now c.loop-item.item-index c.item-item.result _ _ _ _ c.loop-item-test.true c.item-item.is c.loop-item.invariant
    (c.in_ok-add_given.ensures ∙ ap (λ (x : Bytes). givens_in c.loop-item.givens.items ++ given rows.TypeOf x ∷ []) c.as_slice.ensures)

pub returns : goal.returns
returns c =
    each_end (λ (xs : List Declarator). map (λ (d : Declarator). given rows.TypeOf d.name) xs) (λ (x : Declarator). given rows.TypeOf x.name ∷ []) refl
    c.args.items.now c.loop-item.item-index _ _ (omega arith) c.loop-item.invariant
