use Rattle.std.proofs.Common.{sym, arith}
use Rattle.item_emitter.proofs.CallForms.{units-none, units-more}
use Rattle.item_emitter.proofs.calls.is_unit_alone.Goals as goal

pub returns-in-empty : goal.returns-in-empty
returns-in-empty c = sym (units-none c.args.words.now (omega arith))

pub returns-in-len2-up : goal.returns-in-len2-up
returns-in-len2-up c = sym (units-more c.args.words.now (omega arith))
