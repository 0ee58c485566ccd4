use Rattle.std.proofs.Common.{◌++◌, ap, ◌∙◌, arith}
use Rattle.f_tree.specs.Uses.{all_of, uses_of}
use Rattle.f_tree.specs.declared.statements.EquivalenceGroup.{EquivalenceGroup}
use Rattle.name_uses.specs.UsesSeen.{used_in}
use Rattle.name_uses.proofs.UseWalks.{all_more, all_end}
use Rattle.name_uses.proofs.declarations.add_equivalences.Goals as goal

pub loop-group-preserved : goal.loop-group-preserved
loop-group-preserved c =
    all_more (λ (g : EquivalenceGroup). all_of uses_of g.places) c.args.groups.now c.loop-group.group-index c.group-item.result _ _ _ _ c.loop-group-test.true c.group-item.is c.loop-group.invariant
    (c.in_ok-add_list_uses.ensures ∙ ap (λ xs. used_in c.loop-group.uses.items ++ all_of uses_of xs) c.as_slice.ensures)

pub returns : goal.returns
returns c = all_end (λ (g : EquivalenceGroup). all_of uses_of g.places) c.args.groups.now c.loop-group.group-index _ _ (omega arith) c.loop-group.invariant
