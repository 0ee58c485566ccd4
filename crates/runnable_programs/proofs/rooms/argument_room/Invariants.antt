use Rattle.std.proofs.Common.{◌≡◌, ℕ, take, Some}
use Rattle.std.specs.Prelude.{slice_get}
use Rattle.linked_programs.specs.declared.functions.LinkedFunction.{LinkedFunction}
use Rattle.program_runner.specs.Events.{HasRoom}
use Rattle.runnable_programs.proofs.rooms.argument_room.Given as goal

abbrev pub invariant-loop-function : goal.invariant-loop-function
invariant-loop-function l =
    (number : ℕ) → (function : LinkedFunction) → slice_get (take l.function-index l.program.functions) number ≡ Some function → HasRoom l.room function.code
