use Rattle.std.proofs.Common.{arith}
use Rattle.plain_procedures.proofs.Headings.{once-twice, once-more, once-end}
use Rattle.plain_procedures.proofs.dummies.stand_once.Goals as goal

pub returns-then-stands_again : goal.returns-then-stands_again
returns-then-stands_again c =
    once-twice c.args.dummies.now c.loop-index.index _ _ c.stands_again.result c.loop-index-test.true c.index-dummies-index.is c.stands_again.ensures c.if-stands_again.true c.loop-index.invariant

pub loop-index-preserved : goal.loop-index-preserved
loop-index-preserved c =
    once-more c.args.dummies.now c.loop-index.index _ _ c.stands_again.result c.loop-index-test.true c.index-dummies-index.is c.stands_again.ensures c.if-stands_again.false c.loop-index.invariant

pub returns : goal.returns
returns c = once-end c.args.dummies.now c.loop-index.index (omega arith) c.loop-index.invariant
