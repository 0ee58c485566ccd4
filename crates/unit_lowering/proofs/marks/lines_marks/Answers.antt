use Rattle.std.proofs.Common.{◌≡◌, ◌++◌, map, length, sym, ap, ◌∙◌, arith}
use Rattle.lowered_text.specs.Texts.{marked_of}
use Rattle.unit_lowering.specs.LineMarks as spec
use Rattle.unit_lowering.proofs.MarkLemmas.{lines_marks-none, lines_marks-more}
use Rattle.unit_lowering.proofs.marks.lines_marks.Goals as goal

pub loop-at-init : goal.loop-at-init
loop-at-init c = ap (map marked_of) c.new-marks.ensures.items ∙ sym (lines_marks-none c.args.once c.args.statements.now c.args.places.now)

pub loop-at-preserved : goal.loop-at-preserved
loop-at-preserved c =
    let ss = c.args.statements.now in
    let places = c.args.places.now in
    let i = c.loop-at.at in
    c.in_ok-add_marks_at.ensures ∙ ap (λ ms. ms ++ spec.line_at c.args.once ss places i) c.loop-at.invariant ∙ sym (lines_marks-more c.args.once ss places i)

pub returns : goal.returns
returns c =
    c.loop-at.invariant ∙ ap (spec.lines_marks c.args.once c.args.statements.now c.args.places.now) (let e : c.loop-at.at ≡ length c.args.statements.now = omega arith in e)
