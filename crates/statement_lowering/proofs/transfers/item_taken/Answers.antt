use Rattle.std.proofs.Common.{◌∙◌}
use Rattle.lowered_tree.specs.Shapes.{layout_of}
use Rattle.statement_lowering.proofs.TransferLaws.{item-received, item-read, item-written}
use Rattle.statement_lowering.proofs.transfers.item_taken.Goals as goal

pub returns-in-Read : goal.returns-in-Read
returns-in-Read c = λ names told.
    c.received.ensures names told ∙ item-received names (layout_of c.args.how) c.args.e.now ∙ item-read names c.args.way (layout_of c.args.how) c.args.e.now c.in-Read.is

pub returns-in-Write : goal.returns-in-Write
returns-in-Write c = λ names told. c.sent.ensures names told ∙ item-written names c.args.way (layout_of c.args.how) c.args.e.now c.in-Write.is
