use Rattle.std.proofs.Common.{rules, w32, to_z, of_z}
use Rattle.std.proofs.Math.Facts.{to_z-of_z}
use mir.Val.{SFits}
use Rattle.listed_output.proofs.CallLaws.{start-begins, start-refused, start-faulty}
use Rattle.listed_output.proofs.calls.s_wsle.Goals as goal

pub returns-then-is_connected : goal.returns-then-is_connected
returns-then-is_connected g c =
    let unit : SFits w32 c.in-Ok.control.unit = search rules in
    start-begins c.args.run.now _ c.args.pointer c.in-Ok.control (to_z w32 (of_z w32 c.in-Ok.control.unit)) c.begun.result c.in-Ok.ensures (to_z-of_z unit)
    c.if-is_connected.ensures.means c.begun.ensures

pub returns-else-is_connected : goal.returns-else-is_connected
returns-else-is_connected g c =
    let unit : SFits w32 c.in-Ok.control.unit = search rules in
    let on_error : SFits w32 c.in-Ok.control.on_error = search rules in
    let on_end : SFits w32 c.in-Ok.control.on_end = search rules in
    start-refused c.args.run.now _ c.args.pointer c.in-Ok.control (to_z w32 (of_z w32 c.in-Ok.control.unit)) (to_z w32 (of_z w32 c.in-Ok.control.on_error))
    (to_z w32 (of_z w32 c.in-Ok.control.on_end)) c.numbered.result c.not_begun.result c.not_begun.ensures c.numbered.ensures c.in-Ok.ensures (to_z-of_z unit)
    c.if-is_connected.ensures.means (to_z-of_z on_error) (to_z-of_z on_end)

pub returns-in-Err : goal.returns-in-Err
returns-in-Err g c = start-faulty c.args.run.now _ c.args.pointer c.in-Err.fault c.in-Err.ensures
