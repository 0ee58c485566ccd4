use Rattle.std.proofs.Common.{take}
use Rattle.program_runner.specs.Events.{HasRoom}
use Rattle.runnable_programs.proofs.rooms.code_room.Given as goal

abbrev pub invariant-loop-item : goal.invariant-loop-item
invariant-loop-item l = HasRoom l.room (take l.item-index l.code)
