use Rattle.std.proofs.Common.{List, ◌∷◌, [], refl, ap, ◌∙◌, arith}
use Rattle.name_uses.proofs.found_rows.Walks.{each_more, each_end}
use Rattle.f_tree.specs.declared.statements.ImplicitGroup.{ImplicitGroup}
use Rattle.declared_types.specs.TypeTables.{groups_in}
use Rattle.declared_types.proofs.ImpliedLemmas.{groups_more}
use Rattle.declared_types.proofs.implied.add_groups.Goals as goal

pub loop-item-preserved : goal.loop-item-preserved
loop-item-preserved c =
    each_more (λ (xs : List ImplicitGroup). xs) (λ (x : ImplicitGroup). x ∷ []) (λ x xs. refl) c.args.items.now c.loop-item.item-index c.item-item.result _ _ _ _ c.loop-item-test.true c.item-item.is
    c.loop-item.invariant (ap groups_in c.in_ok-push.ensures.items ∙ groups_more c.loop-item.groups.items _)

pub returns : goal.returns
returns c = each_end (λ (xs : List ImplicitGroup). xs) (λ (x : ImplicitGroup). x ∷ []) refl c.args.items.now c.loop-item.item-index _ _ (omega arith) c.loop-item.invariant
