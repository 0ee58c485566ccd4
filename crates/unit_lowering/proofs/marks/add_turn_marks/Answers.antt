use Rattle.std.proofs.Common.{◌++◌, map, ap, ◌∙◌, refl, arith}
use Rattle.lowered_text.specs.Texts.{marked_of}
use Rattle.unit_lowering.specs.LineMarks.{turn_marks, turns_marks}
use Rattle.unit_lowering.proofs.Appending.{each_more, each_end}
use Rattle.unit_lowering.proofs.MarkLemmas.{turns_marks-none, turns_marks-more}
use Rattle.unit_lowering.proofs.marks.add_turn_marks.Goals as goal

pub loop-turn-preserved : goal.loop-turn-preserved
loop-turn-preserved c =
    let ss = c.args.statements.now in
    each_more (turns_marks ss) (turn_marks ss) (turns_marks-more ss) c.args.turns.now c.loop-turn.turn-index _ _ _ _ _ c.loop-turn-test.true refl
    c.loop-turn.invariant (c.in_ok-push_mark.ensures ∙ ap (λ xs. map marked_of c.loop-turn.marks.items ++ xs) c.turn_mark.ensures)

pub returns : goal.returns
returns c =
    let ss = c.args.statements.now in
    each_end (turns_marks ss) (turn_marks ss) (turns_marks-none ss) c.args.turns.now c.loop-turn.turn-index _ _ (omega arith) c.loop-turn.invariant
