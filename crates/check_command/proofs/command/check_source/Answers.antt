use Rattle.std.proofs.Common.{ap, ◌∙◌, length}
use Rattle.check_command.proofs.Endings.{set_checked, not_checked}
use Rattle.check_command.proofs.command.check_source.Goals as goal

pub judge_source-requires : goal.judge_source-requires
judge_source-requires g c = ap length c.as_slice-included.ensures ∙ c.requires.counts

pub returns-in-Ok : goal.returns-in-Ok
returns-in-Ok g c = λ files named.
    set_checked c.args.options.now c.args.froms.now files c.args.read.now.named.names c.names-mentioned.result.now c.args.read.now.included c.as_slice-included.result.now
    c.args.prototypes.now c.in-Ok.set c.as_slice.result.now (g.H.Shelf.state c.args.shelf.now) (g.H.Shelf.state c.check_set.new.shelf) c.check_set.result
    c.names-mentioned.ensures c.as_slice-included.ensures c.as_slice.ensures (c.in-Ok.ensures files named) c.check_set.ensures

pub returns-in-Err : goal.returns-in-Err
returns-in-Err g c = λ files named.
    not_checked c.args.options.now c.args.froms.now files c.args.read.now.named.names c.names-mentioned.result.now c.args.read.now.included c.as_slice-included.result.now
    c.args.prototypes.now c.in-Err.why c.not_judged.result (g.H.Shelf.state c.args.shelf.now) c.names-mentioned.ensures c.as_slice-included.ensures
    (c.in-Err.ensures files named) c.not_judged.ensures
