use Rattle.std.proofs.Common.{◌≡◌, ◌++◌, take}
use Rattle.call_lines.specs.LineShapes.{line_shapes}
use Rattle.call_lines.proofs.shapes.with_lines.Given as goal

abbrev pub invariant-loop-line : goal.invariant-loop-line
invariant-loop-line l = l.more ≡ l.initial.more ++ line_shapes (take l.line-index l.line-items)
