use Rattle.std.proofs.Common.{refl, arith}
use Rattle.text_behind.proofs.BehindLemmas.{marks-more, marks-end}
use Rattle.text_behind.proofs.steps.marks_behind.Goals as goal

pub loop-marked-preserved : goal.loop-marked-preserved
loop-marked-preserved c =
    marks-more c.args.first c.args.marks.now c.loop-marked.marked-index _ _ c.in_ok-mark_behind.field-0 c.loop-marked.behind.items c.push.new.self.items c.loop-marked-test.true refl
    c.in_ok-push.ensures.items c.in_ok-mark_behind.ensures c.loop-marked.invariant

pub returns : goal.returns
returns c = marks-end c.args.first c.args.marks.now c.loop-marked.marked-index c.loop-marked.behind.items (omega (arith, c.loop-marked-test.false)) c.loop-marked.invariant
