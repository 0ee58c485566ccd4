use Rattle.std.proofs.Common.{sym}
use Rattle.named_items.proofs.Forms.{array-other}
use Rattle.statement_builder.proofs.alike.array_in.Goals as goal

pub returns-in_default : goal.returns-in_default
returns-in_default c = sym (array-other c.args.e.now c.in_default.not-Index)
