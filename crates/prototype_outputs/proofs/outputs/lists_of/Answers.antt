use Rattle.std.proofs.Common.{◌∙◌}
use Rattle.prototype_outputs.proofs.FrontLemmas.{any_default}
use Rattle.prototype_outputs.proofs.OutputLemmas.{list_more, all_lists}
use Rattle.prototype_outputs.proofs.outputs.lists_of.Goals as goal

pub loop-file-preserved : goal.loop-file-preserved
loop-file-preserved c =
    list_more c.args.files.now c.loop-file.file-index c.file-item.result c.loop-file.lists c.push.new.self c.in_ok-protos_of.field-0 c.loop-file-test.true
    (c.file-item.is ∙ any_default c.args.files.now c.loop-file.file-index _ c.file-item.result c.loop-file-test.true) c.loop-file.invariant c.in_ok-protos_of.ensures.functions
    c.in_ok-push.ensures.ok

pub returns : goal.returns
returns c = all_lists c.args.files.now c.loop-file.file-index c.loop-file.lists c.loop-file-test.false c.loop-file.invariant
