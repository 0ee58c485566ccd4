use Rattle.std.proofs.Common.{◌∙◌}
use Rattle.prototype_outputs.proofs.FrontLemmas.{any_default}
use Rattle.prototype_outputs.proofs.OutputLemmas.{one_more, all_done}
use Rattle.prototype_outputs.proofs.outputs.outputs_of.Goals as goal

pub loop-file-preserved : goal.loop-file-preserved
loop-file-preserved c =
    one_more c.args.prototypes c.args.files.now c.loop-file.file-index c.file-item.result c.loop-file.texts c.in_ok-texts.texts c.loop-file-test.true
    (c.file-item.is ∙ any_default c.args.files.now c.loop-file.file-index _ c.file-item.result c.loop-file-test.true) c.loop-file.invariant c.in_ok-texts.ensures

pub returns : goal.returns
returns c = all_done c.args.prototypes c.args.files.now c.loop-file.file-index c.loop-file.texts c.loop-file-test.false c.loop-file.invariant
