use Rattle.loop_marks.proofs.Whole.{each_text_marks_its_loops, each_branch_is_named}
use Rattle.loop_marks.proofs.marked.lowered_units_mark_loops.Goals as goal

pub returns : goal.returns
returns c = record { loops = each_text_marks_its_loops; labels = each_branch_is_named }
