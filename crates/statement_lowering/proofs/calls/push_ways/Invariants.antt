use Rattle.std.proofs.Common.{◌≡◌, ◌++◌, map, drop}
use Rattle.lowered_tree.specs.l_core.Steps as act
use Rattle.lowered_tree.specs.Shapes.{steps_of}
use Rattle.statement_lowering.proofs.calls.push_ways.Given as goal

abbrev pub invariant-loop-label : goal.invariant-loop-label
invariant-loop-label l = steps_of l.steps.items ++ map act.Way (drop l.label-index l.labels) ≡ steps_of l.initial.steps.items ++ map act.Way l.labels
