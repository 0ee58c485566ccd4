use Rattle.std.proofs.Common.{◌≡◌, ◌++◌, drop}
use Rattle.f_tree.specs.Lines.{Naming}
use Rattle.lowered_tree.specs.Shapes.{steps_of}
use Rattle.expression_lowering.specs.TableNames.{AreFactsOf}
use Rattle.unit_lowering.specs.LineSteps.{turns_steps}
use Rattle.unit_lowering.proofs.turns.add_turns.Given as goal

abbrev pub invariant-loop-turn : goal.invariant-loop-turn
invariant-loop-turn l = (names : Naming) → AreFactsOf names l.table →
    steps_of l.steps.items ++ turns_steps l.once names l.statements l.places (drop l.turn-index l.turns)
    ≡ steps_of l.initial.steps.items ++ turns_steps l.once names l.statements l.places l.turns
