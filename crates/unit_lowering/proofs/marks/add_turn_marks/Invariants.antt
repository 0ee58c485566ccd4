use Rattle.std.proofs.Common.{◌≡◌, ◌++◌, map, drop}
use Rattle.lowered_text.specs.Texts.{marked_of}
use Rattle.unit_lowering.specs.LineMarks.{turns_marks}
use Rattle.unit_lowering.proofs.marks.add_turn_marks.Given as goal

abbrev pub invariant-loop-turn : goal.invariant-loop-turn
invariant-loop-turn l =
    map marked_of l.marks.items ++ turns_marks l.statements (drop l.turn-index l.turns) ≡ map marked_of l.initial.marks.items ++ turns_marks l.statements l.turns
