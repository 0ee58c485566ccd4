use Rattle.std.proofs.Common.{◌≡◌, take}
use Rattle.call_lines.specs.LineShapes.{arguments_for}
use Rattle.call_lines.proofs.shapes.arguments_for.Given as goal

abbrev pub invariant-loop-param : goal.invariant-loop-param
invariant-loop-param l = l.arguments ≡ arguments_for (take l.param-index l.params)
