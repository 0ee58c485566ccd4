use Rattle.std.proofs.Common.{sym, ◌∙◌}
use Rattle.named_items.proofs.Forms.{sum-other}
use Rattle.statement_builder.proofs.growth.sum_in.Goals as goal

pub returns-in_default : goal.returns-in_default
returns-in_default c = c.nothing.ensures ∙ sym (sum-other c.args.e c.in_default.not-Binary)
