use Rattle.std.proofs.Common.{refl, rules, w32, to_z, of_z, Ok, Err}
use Rattle.std.proofs.Math.Facts.{to_z-of_z}
use mir.Val.{SFits}
use Rattle.internal_formatted.proofs.EndLaws.{end-answered, recordless-ended, same-stop, same-number}
use Rattle.internal_formatted.proofs.calls.e_wsfi.Goals as goal

pub returns-in-Ok : goal.returns-in-Ok
returns-in-Ok c =
    end-answered c.args.format.now c.args.output c.finish.new.file c.args.run.now c.finish.new.run (Ok c.in-Ok.field-0) _ refl c.if-output-eq0.false c.in-Ok.ensures

pub returns-in-Err : goal.returns-in-Err
returns-in-Err c =
    let on_error : SFits w32 c.args.output.on_error = search rules in
    let on_end : SFits w32 c.args.output.on_end = search rules in
    end-answered c.args.format.now c.args.output c.finish.new.file c.args.run.now c.finish.new.run (Err c.in-Err.stop) c.stopped.result
    (same-stop c.args.output.on_error (to_z w32 (of_z w32 c.args.output.on_error)) c.args.output.on_end (to_z w32 (of_z w32 c.args.output.on_end)) c.in-Err.stop c.stopped.result c.stopped.ensures
    (to_z-of_z on_error) (to_z-of_z on_end))
    c.if-output-eq0.false c.in-Err.ensures

pub returns-then-output-eq0 : goal.returns-then-output-eq0
returns-then-output-eq0 c =
    let on_error : SFits w32 c.args.output.on_error = search rules in
    let on_end : SFits w32 c.args.output.on_end = search rules in
    recordless-ended c.args.format.now c.args.output c.args.run.now c.numbered.result
    (same-number c.args.output.on_error (to_z w32 (of_z w32 c.args.output.on_error)) c.args.output.on_end (to_z w32 (of_z w32 c.args.output.on_end)) c.numbered.result c.numbered.ensures
    (to_z-of_z on_error) (to_z-of_z on_end))
    c.if-output-eq0.true
