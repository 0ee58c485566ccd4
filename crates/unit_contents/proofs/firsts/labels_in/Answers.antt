use Rattle.std.proofs.Common.{arith}
use Rattle.unit_contents.proofs.FirstLaws.{labels_more, labels_whole}
use Rattle.unit_contents.proofs.firsts.labels_in.Goals as goal

pub loop-step-preserved : goal.loop-step-preserved
loop-step-preserved c =
    labels_more c.args.steps.now c.loop-step.step-index c.step-item.result c.label_in.result c.loop-step.labels.items _ _ c.loop-step-test.true c.step-item.is c.label_in.ensures
    c.in_ok-add_label.ensures c.loop-step.invariant

pub returns : goal.returns
returns c = labels_whole c.args.steps.now c.loop-step.step-index c.loop-step.labels.items _ (omega arith) c.loop-step.invariant
