use Rattle.check_command.proofs.Endings.{source_ended, not_read}
use Rattle.check_command.proofs.command.check.Goals as goal

pub returns-in_err-read : goal.returns-in_err-read
returns-in_err-read g c =
    not_read c.args.options.now c.args.froms.now c.args.prototypes.now (g.H.Shelf.state c.args.shelf.now) (g.H.Shelf.state c.read_source_from.new.shelf)
    c.in_err-read.field-0.0 c.from_residual.result c.from_residual.ensures.1 c.in_err-read.ensures.err

pub check_source-requires-clause-counts : goal.check_source-requires-clause-counts
check_source-requires-clause-counts g c = c.in_ok-read.ensures.ok.each_included

pub returns : goal.returns
returns g c =
    let its = c.in_ok-read.ensures.ok in
    source_ended c.args.options.now c.args.froms.now c.args.prototypes.now c.in_ok-read.read (g.H.Shelf.state c.args.shelf.now) (g.H.Shelf.state c.read_source_from.new.shelf)
    (g.H.Shelf.state c.check_source.new.shelf) its c.check_source.result (c.check_source.ensures its.files its.named)
