use Rattle.std.proofs.Common.{arith}
use Rattle.unit_contents.proofs.WalkLaws.{temporaries_more, temporaries_whole}
use Rattle.unit_contents.proofs.walks.temporaries_kept.Goals as goal

pub loop-step-preserved : goal.loop-step-preserved
loop-step-preserved c =
    temporaries_more c.args.steps.now c.loop-step.step-index c.step-item.result c.loop-step.count _ _ _ c.loop-step-test.true c.step-item.is c.in_ok-temporaries_by.ensures
    c.max-count.ensures c.loop-step.invariant

pub returns : goal.returns
returns c = temporaries_whole c.args.steps.now c.loop-step.step-index c.loop-step.count _ (omega arith) c.loop-step.invariant
