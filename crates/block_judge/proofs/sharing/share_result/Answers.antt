use Rattle.std.proofs.Common.{◌∙◌}
use Rattle.block_judge.proofs.SharingLemmas.{share_is}
use Rattle.block_judge.proofs.sharing.share_result.Goals as goal

pub returns : goal.returns
returns c =
    c.share_by.ensures
    ∙ share_is c.args.unit.now c.args.facts.now c.args.own.now c.args.entry.now c.basic.result c.basic-2.result c.width.result c.width-2.result c.same_length-same.result c.requires
    c.basic.ensures c.basic-2.ensures c.width.ensures c.width-2.ensures c.same_length-same.ensures
