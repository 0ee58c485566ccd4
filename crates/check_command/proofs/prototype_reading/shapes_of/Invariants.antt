use Rattle.std.proofs.Common.{take}
use Rattle.check_command.specs.PrototypeFiles.{HaveShapes}
use Rattle.check_command.proofs.prototype_reading.shapes_of.Given as goal

-- the texts up to here are prototype files with these shapes
abbrev pub invariant-loop-number : goal.invariant-loop-number
invariant-loop-number l = HaveShapes (take l.number l.texts) l.shapes
