use Rattle.std.proofs.Common.{arith}
use Rattle.f_tree.specs.Uses.{uses_of_data}
use Rattle.name_uses.proofs.UseWalks.{all_more, all_end}
use Rattle.name_uses.proofs.items.add_data_values.Goals as goal

pub loop-value-preserved : goal.loop-value-preserved
loop-value-preserved c =
    all_more uses_of_data c.args.values.now c.loop-value.value-index c.value-item.result _ _ _ _ c.loop-value-test.true c.value-item.is c.loop-value.invariant
    (c.in_ok-add_data_value.ensures)

pub returns : goal.returns
returns c = all_end uses_of_data c.args.values.now c.loop-value.value-index _ _ (omega arith) c.loop-value.invariant
