use Rattle.std.proofs.Common.{sym}
use Rattle.named_items.proofs.Forms.{number-other}
use Rattle.item_emitter.proofs.arithmetic.number_in.Goals as goal

pub returns-in_default : goal.returns-in_default
returns-in_default c = sym (number-other c.args.e.now c.in_default.not-Number)
