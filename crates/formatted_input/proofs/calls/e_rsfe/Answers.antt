use Rattle.std.proofs.Common.{rules, w32, to_z, of_z, refl, Ok, Err}
use Rattle.std.proofs.Math.Facts.{to_z-of_z}
use mir.Val.{SFits}
use Rattle.formatted_input.proofs.EndLaws.{end-answered, same-stop}
use Rattle.formatted_input.proofs.calls.e_rsfe.Goals as goal

pub returns-in-Ok : goal.returns-in-Ok
returns-in-Ok g c =
    let unit : SFits w32 c.args.input.unit = search rules in
    end-answered c.args.format.now c.args.input (to_z w32 (of_z w32 c.args.input.unit)) c.close.new.record _ _ (Ok c.in-Ok.field-0) _ refl (to_z-of_z unit) c.in-Ok.ensures

pub returns-in-Err : goal.returns-in-Err
returns-in-Err g c =
    let unit : SFits w32 c.args.input.unit = search rules in
    let on_error : SFits w32 c.args.input.on_error = search rules in
    let on_end : SFits w32 c.args.input.on_end = search rules in
    end-answered c.args.format.now c.args.input (to_z w32 (of_z w32 c.args.input.unit)) c.close.new.record _ _ (Err c.in-Err.stop) c.stopped.result
    (same-stop c.args.input.unit (to_z w32 (of_z w32 c.args.input.unit)) c.args.input.on_error (to_z w32 (of_z w32 c.args.input.on_error)) c.args.input.on_end
    (to_z w32 (of_z w32 c.args.input.on_end)) c.in-Err.stop c.stopped.result c.stopped.ensures (to_z-of_z unit) (to_z-of_z on_error) (to_z-of_z on_end))
    (to_z-of_z unit) c.in-Err.ensures
