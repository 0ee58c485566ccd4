use Rattle.std.proofs.Common.{arith}
use Rattle.unit_contents.proofs.ProcedureLaws.{passed_begin, passed_more, passed_end}
use Rattle.unit_contents.proofs.procedures.add_operands.Goals as goal

pub loop-operand-init : goal.loop-operand-init
loop-operand-init c = passed_begin c.args.table.now c.args.operands.now c.args.names.now.items

pub loop-operand-preserved : goal.loop-operand-preserved
loop-operand-preserved c =
    passed_more c.args.table.now c.args.operands.now c.args.names.now.items c.loop-operand.operand-index c.operand-item.result c.loop-operand.names.items _ c.loop-operand-test.true
    c.operand-item.is c.in_ok-add_operand.ensures c.loop-operand.invariant

pub returns : goal.returns
returns c = passed_end c.args.table.now c.args.operands.now c.args.names.now.items c.loop-operand.operand-index c.loop-operand.names.items (omega arith) c.loop-operand.invariant
