use Rattle.std.proofs.Common.{◌≤◌, arith}
use Rattle.item_deeds.specs.Deeds.{argument_count}
use Rattle.runnable_programs.proofs.RoomLaws.{room-item}
use Rattle.runnable_programs.proofs.rooms.code_room.Goals as goal

pub loop-item-preserved : goal.loop-item-preserved
loop-item-preserved c =
    let greatest = c.max-room.ensures in
    let counted = c.argument_count.ensures in
    let less : c.loop-item.room ≤ c.max-room.result = omega (arith, greatest) in
    let enough : argument_count c.item-item.result ≤ c.max-room.result = omega (arith, greatest, counted) in
    room-item c.loop-item.room c.max-room.result c.loop-item.item-index c.args.code.now c.item-item.result c.loop-item-test.true c.item-item.is c.loop-item.invariant less enough
