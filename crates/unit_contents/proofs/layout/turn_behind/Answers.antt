use Rattle.std.proofs.Common.{arith}
use Rattle.unit_contents.proofs.LayoutLaws.{sought_found, sought_more, sought_none}
use Rattle.unit_contents.proofs.layout.turn_behind.Goals as goal

pub returns-then-goes_back_by : goal.returns-then-goes_back_by
returns-then-goes_back_by c =
    sought_found c.args.steps.now c.loop-count.count c.index-steps-count.result c.goes_back_by.result c.loop-count-test.true c.index-steps-count.is c.loop-count.invariant c.goes_back_by.ensures c.if-goes_back_by.true

pub loop-count-preserved : goal.loop-count-preserved
loop-count-preserved c =
    sought_more c.args.steps.now c.loop-count.count c.index-steps-count.result c.goes_back_by.result c.loop-count-test.true c.index-steps-count.is c.loop-count.invariant c.goes_back_by.ensures c.if-goes_back_by.false

pub returns : goal.returns
returns c = sought_none c.args.steps.now c.loop-count.count (omega arith) c.loop-count.invariant
