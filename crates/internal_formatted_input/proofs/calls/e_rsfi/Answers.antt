use Rattle.std.proofs.Common.{refl, rules, w32, to_z, of_z, Ok, Err}
use Rattle.std.proofs.Math.Facts.{to_z-of_z}
use mir.Val.{SFits}
use Rattle.internal_formatted_input.proofs.EndLaws.{end-answered, same-stop}
use Rattle.internal_formatted_input.proofs.calls.e_rsfi.Goals as goal

pub returns-in-Ok : goal.returns-in-Ok
returns-in-Ok c = end-answered c.args.format.now c.args.input c.close.new.file c.close.new.record c.args.run.now (Ok c.in-Ok.field-0) _ refl c.in-Ok.ensures

pub returns-in-Err : goal.returns-in-Err
returns-in-Err c =
    let on_error : SFits w32 c.args.input.on_error = search rules in
    let on_end : SFits w32 c.args.input.on_end = search rules in
    end-answered c.args.format.now c.args.input c.close.new.file c.close.new.record c.args.run.now (Err c.in-Err.stop) c.stopped.result
    (same-stop c.args.input.on_error (to_z w32 (of_z w32 c.args.input.on_error)) c.args.input.on_end (to_z w32 (of_z w32 c.args.input.on_end)) c.in-Err.stop c.stopped.result c.stopped.ensures
    (to_z-of_z on_error) (to_z-of_z on_end))
    c.in-Err.ensures
