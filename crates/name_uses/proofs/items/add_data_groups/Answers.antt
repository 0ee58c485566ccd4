use Rattle.std.proofs.Common.{◌++◌, arith}
use Rattle.f_tree.specs.Uses.{all_of, uses_of_place, uses_of_data}
use Rattle.f_tree.specs.declared.statements.DataGroup.{DataGroup}
use Rattle.name_uses.proofs.UseWalks.{all_more, all_end}
use Rattle.name_uses.proofs.items.add_data_groups.Goals as goal

pub loop-group-preserved : goal.loop-group-preserved
loop-group-preserved c =
    all_more (λ (g : DataGroup). all_of uses_of_place g.places ++ all_of uses_of_data g.values) c.args.groups.now c.loop-group.group-index c.group-item.result _ _ _ _ c.loop-group-test.true c.group-item.is c.loop-group.invariant
    (c.in_ok-add_data_group.ensures)

pub returns : goal.returns
returns c = all_end (λ (g : DataGroup). all_of uses_of_place g.places ++ all_of uses_of_data g.values) c.args.groups.now c.loop-group.group-index _ _ (omega arith) c.loop-group.invariant
