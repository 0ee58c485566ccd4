use Rattle.std.proofs.Common.{rules, w32, to_z, of_z}
use Rattle.std.proofs.Math.Facts.{to_z-of_z}
use mir.Val.{SFits}
use Rattle.listed_input.proofs.CallLaws.{start-begins, start-refused, start-faulty}
use Rattle.listed_input.proofs.calls.s_rsle.Goals as goal

pub returns-then-is_connected : goal.returns-then-is_connected
returns-then-is_connected g c =
    let unit : SFits w32 c.in-Ok.control.unit = search rules in
    start-begins c.args.run.now c.args.pointer c.in-Ok.control (to_z w32 (of_z w32 c.in-Ok.control.unit)) _ _ c.begin_reading.result c.in-Ok.ensures (to_z-of_z unit)
    c.if-is_connected.ensures.means (c.begin_reading.ensures c.args.run.now)

pub returns-else-is_connected : goal.returns-else-is_connected
returns-else-is_connected g c =
    let unit : SFits w32 c.in-Ok.control.unit = search rules in
    let on_error : SFits w32 c.in-Ok.control.on_error = search rules in
    let on_end : SFits w32 c.in-Ok.control.on_end = search rules in
    start-refused c.args.run.now c.args.pointer c.in-Ok.control (to_z w32 (of_z w32 c.in-Ok.control.unit)) (to_z w32 (of_z w32 c.in-Ok.control.on_error))
    (to_z w32 (of_z w32 c.in-Ok.control.on_end)) c.numbered.result c.not_begun.result _
    (record { unit_is = to_z-of_z unit; error_is = to_z-of_z on_error; end_is = to_z-of_z on_end })
    c.numbered.ensures c.not_begun.ensures c.in-Ok.ensures c.if-is_connected.ensures.means

pub returns-in-Err : goal.returns-in-Err
returns-in-Err g c = start-faulty c.args.run.now c.args.pointer c.in-Err.fault _ c.in-Err.ensures
