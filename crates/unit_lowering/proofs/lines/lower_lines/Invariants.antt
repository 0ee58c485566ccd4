use Rattle.std.proofs.Common.{◌≡◌, Some}
use Rattle.f_tree.specs.Lines.{Naming}
use Rattle.lowered_tree.specs.Shapes.{steps_of}
use Rattle.expression_lowering.specs.TableNames.{AreFactsOf}
use Rattle.unit_lowering.specs.LineSteps.{lines_steps}
use Rattle.unit_lowering.proofs.lines.lower_lines.Given as goal

abbrev pub invariant-loop-at : goal.invariant-loop-at
invariant-loop-at l = (names : Naming) → AreFactsOf names l.table → lines_steps l.once l.assigned names l.statements l.places l.at ≡ Some (steps_of l.steps.items)
