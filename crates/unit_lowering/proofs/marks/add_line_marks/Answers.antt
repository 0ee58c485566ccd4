use Rattle.std.proofs.Common.{map}
use Rattle.lowered_text.specs.Texts.{marked_of}
use Rattle.unit_lowering.proofs.Appending.{then_ok}
use Rattle.unit_lowering.proofs.MarkLemmas.{line_put}
use Rattle.unit_lowering.proofs.marks.add_line_marks.Goals as goal

pub returns : goal.returns
returns c =
    then_ok _ _ c.add_turn_marks.result
    (line_put c.args.once c.args.statements.now c.args.statement.now c.args.place.now (map marked_of c.args.marks.now.items) _ _ _ _ _ _ _ _
    c.in_ok-add_mark.ensures c.arm_mark.ensures c.in_ok-add_mark-2.ensures c.card_mark.ensures c.in_ok-add_mark-3.ensures c.loop_mark.ensures c.as_slice.ensures.value)
    c.add_turn_marks.ensures
