use Rattle.std.proofs.Common.{rules, w32, to_z, of_z}
use Rattle.std.proofs.Math.Facts.{to_z-of_z}
use mir.Val.{SFits}
use Rattle.formatted_input.proofs.StartLaws.{start-under, start-refused, list-faulty, format-faulty}
use Rattle.formatted_input.proofs.calls.s_rsfe.Goals as goal

pub returns-then-is_connected : goal.returns-then-is_connected
returns-then-is_connected g c =
    let unit : SFits w32 c.in-Ok.control.unit = search rules in
    start-under c.args.run.now c.args.pointer c.in-Ok-unit_format.given c.in-Ok.control (to_z w32 (of_z w32 c.in-Ok.control.unit)) _ _ c.start_under.new.format c.start_under.result
    c.in-Ok.ensures c.in-Ok-unit_format.ensures (to_z-of_z unit) c.if-is_connected.ensures.means c.start_under.ensures

pub returns-else-is_connected : goal.returns-else-is_connected
returns-else-is_connected g c =
    let unit : SFits w32 c.in-Ok.control.unit = search rules in
    let on_error : SFits w32 c.in-Ok.control.on_error = search rules in
    let on_end : SFits w32 c.in-Ok.control.on_end = search rules in
    start-refused c.args.run.now c.args.pointer c.in-Ok-unit_format.given c.in-Ok.control (to_z w32 (of_z w32 c.in-Ok.control.unit)) (to_z w32 (of_z w32 c.in-Ok.control.on_error))
    (to_z w32 (of_z w32 c.in-Ok.control.on_end)) _ c.args.format.now c.numbered.result c.not_begun.result c.not_begun.ensures c.numbered.ensures c.in-Ok.ensures c.in-Ok-unit_format.ensures
    (record { unit_is = to_z-of_z unit; error_is = to_z-of_z on_error; end_is = to_z-of_z on_end })
    c.if-is_connected.ensures.means

pub returns-in-Err-unit_format : goal.returns-in-Err-unit_format
returns-in-Err-unit_format g c =
    format-faulty c.args.run.now c.args.pointer c.in-Ok.control c.in-Err-unit_format.fault _ c.args.format.now c.in-Ok.ensures c.in-Err-unit_format.ensures

pub returns-in-Err : goal.returns-in-Err
returns-in-Err g c = list-faulty c.args.run.now c.args.pointer c.in-Err.fault _ c.args.format.now c.in-Err.ensures
