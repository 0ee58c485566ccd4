use Rattle.std.proofs.Common.{arith}
use Rattle.f_tree.specs.Uses.{uses_of_dummy}
use Rattle.name_uses.proofs.UseWalks.{all_more, all_end}
use Rattle.name_uses.proofs.declarations.add_dummies.Goals as goal

pub loop-dummy-preserved : goal.loop-dummy-preserved
loop-dummy-preserved c =
    all_more uses_of_dummy c.args.dummies.now c.loop-dummy.dummy-index c.dummy-item.result _ _ _ _ c.loop-dummy-test.true c.dummy-item.is c.loop-dummy.invariant
    (c.in_ok-add_dummy.ensures)

pub returns : goal.returns
returns c = all_end uses_of_dummy c.args.dummies.now c.loop-dummy.dummy-index _ _ (omega arith) c.loop-dummy.invariant
