use Rattle.std.proofs.Common.{sym, ◌∙◌}
use Rattle.lowered_tree.specs.Shapes.{layout_of}
use Rattle.statement_lowering.proofs.TransferLaws.{item-listed, item-settled}
use Rattle.statement_lowering.proofs.transfers.sent.Goals as goal

pub returns-then-is_listed : goal.returns-then-is_listed
returns-then-is_listed c = λ names told.
    c.valued.ensures names told ∙ item-listed names (layout_of c.args.how) c.args.e.now (sym c.is_listed.ensures ∙ c.if-is_listed.true)

pub returns-else-is_listed : goal.returns-else-is_listed
returns-else-is_listed c = λ names told.
    c.settled.ensures names told ∙ item-settled names (layout_of c.args.how) c.args.e.now (sym c.is_listed.ensures ∙ c.if-is_listed.false)
