use Rattle.std.proofs.Common.{◌≤◌, arith}
use Rattle.runnable_programs.proofs.RoomLaws.{room-listed}
use Rattle.runnable_programs.proofs.rooms.argument_room.Goals as goal

pub loop-function-preserved : goal.loop-function-preserved
loop-function-preserved c =
    let greatest = c.max-room.ensures in
    let less : c.loop-function.room ≤ c.max-room.result = omega (arith, greatest) in
    let enough : c.code_room.result ≤ c.max-room.result = omega (arith, greatest) in
    room-listed c.loop-function.room c.code_room.result c.max-room.result c.loop-function.function-index c.args.program.now.functions c.as_slice-function-items.result.now c.function-item.result
    c.as_slice.result.now c.as_slice-function-items.ensures c.as_slice.ensures c.loop-function-test.true c.function-item.is c.loop-function.invariant c.code_room.ensures less enough
