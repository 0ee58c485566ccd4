use Rattle.std.proofs.Common.{◌≡◌, map}
use Rattle.lowered_text.specs.Texts.{marked_of}
use Rattle.unit_lowering.specs.LineMarks as spec
use Rattle.unit_lowering.proofs.marks.lines_marks.Given as goal

abbrev pub invariant-loop-at : goal.invariant-loop-at
invariant-loop-at l = map marked_of l.marks.items ≡ spec.lines_marks l.once l.statements l.places l.at
