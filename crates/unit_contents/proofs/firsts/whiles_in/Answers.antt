use Rattle.std.proofs.Common.{sym, ap, ◌∙◌, arith}
use Rattle.lowered_text.specs.declared.text.Mark.TheVariants as mark
use Rattle.unit_contents.proofs.FirstLaws.{while_put, while_kept, whiles_whole}
use Rattle.unit_contents.proofs.firsts.whiles_in.Goals as goal
use Rattle.unit_contents.proofs.firsts.whiles_in.Goals.{then-opens_while+in_ok-push, else-opens_while}

pub loop-marked-preserved : goal.loop-marked-preserved
loop-marked-preserved c =
    let marks = c.args.marks.now in
    let i = c.loop-marked.marked-index in
    elim c.if-opens_while.branch [
      | then-opens_while+in_ok-push w ↦
          while_put marks i (record { at = 0; mark = mark.Card 0 }) c.loop-marked.places.items _ _ c.loop-marked-test.true (sym c.opens_while.ensures ∙ w.if-opens_while.true)
          (ap (λ v. v.items) w.places-is ∙ w.in_ok-push.ensures.items) c.loop-marked.invariant
      | else-opens_while w ↦
          while_kept marks i (record { at = 0; mark = mark.Card 0 }) c.loop-marked.places.items _ _ c.loop-marked-test.true (sym c.opens_while.ensures ∙ w.if-opens_while.false)
          (ap (λ v. v.items) w.places-is) c.loop-marked.invariant
    ]

pub returns : goal.returns
returns c = whiles_whole c.args.marks.now c.loop-marked.marked-index c.loop-marked.places.items _ (omega arith) c.loop-marked.invariant
