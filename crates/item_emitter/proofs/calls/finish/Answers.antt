use Rattle.std.proofs.Common.{sym, arith}
use Rattle.item_emitter.proofs.CallForms.{finish-more-listed}
use Rattle.item_emitter.proofs.calls.finish.Goals as goal

pub returns-in-len1-up : goal.returns-in-len1-up
returns-in-len1-up c = sym (finish-more-listed c.args.row.now (omega arith))
