use Rattle.item_emitter.proofs.FunctionWalks.{best-more, best-end}
use Rattle.item_emitter.proofs.functions.extreme_from.Goals as goal

pub loop-operand-preserved : goal.loop-operand-preserved
loop-operand-preserved c =
    best-more c.args.which c.loop-operand.best c.in_ok-best.best c.in-Some.operand c.loop-operand.operands.items c.pop_front.new.self.items _
    c.in-Some.ensures.items c.in_ok-best.ensures c.loop-operand.invariant

pub returns : goal.returns
returns c =
    best-end c.args.which c.loop-operand.best c.loop-operand.operands.items c.pop_front.new.self.items _
    c.in_default.ensures.items c.in_default.ensures.rest c.loop-operand.invariant
