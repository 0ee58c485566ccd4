use Rattle.std.proofs.Common.{arith}
use Rattle.unit_contents.proofs.ConstantLaws.{owns_more, owns_whole}
use Rattle.unit_contents.proofs.constants.add_own_values.Goals as goal

pub loop-operand-preserved : goal.loop-operand-preserved
loop-operand-preserved c =
    owns_more c.args.operands.now c.loop-operand.operand-index c.operand-item.result c.own_value.result _ _ _ c.loop-operand-test.true c.operand-item.is c.own_value.ensures c.in_ok-add_if.ensures c.loop-operand.invariant

pub returns : goal.returns
returns c = owns_whole c.args.operands.now c.loop-operand.operand-index c.loop-operand.values.keys _ (omega arith) c.loop-operand.invariant
