use Rattle.std.proofs.Common.{◌≡◌, length, arith}
use Rattle.c_tree.specs.declared.outcome.CValue.TheVariants.{Pointer}
use Rattle.library_calls.proofs.NameLemmas.{zero-read, zero-unread}
use Rattle.library_calls.proofs.TextLemmas.{text-length}
use Rattle.library_calls.proofs.endings.is_zero.Goals as goal

pub bounds-text-0 : goal.bounds-text-0
bounds-text-0 c = let one : length c.in-Ok.text.now ≡ 1 = text-length c.args.run.now (Pointer c.args.object c.args.offset) 1 c.in-Ok.text.now c.in-Ok.ensures in omega arith

pub returns-in-Ok : goal.returns-in-Ok
returns-in-Ok c cells is = zero-read c.args.run.now c.args.object c.args.offset cells c.in-Ok.text.now is c.in-Ok.ensures

pub returns-in-Err : goal.returns-in-Err
returns-in-Err c cells is = zero-unread c.args.run.now c.args.object c.args.offset cells c.in-Err.field-0 is c.in-Err.ensures
