use Rattle.std.proofs.Common.{sym, ap, ◌∙◌, arith}
use Rattle.unit_contents.proofs.WalkLaws.{string_put, string_kept, strings_whole}
use Rattle.unit_contents.proofs.walks.string_positions.Goals as goal
use Rattle.unit_contents.proofs.walks.string_positions.Goals.{then-stops_run+in_ok-push, else-stops_run}

pub loop-position-preserved : goal.loop-position-preserved
loop-position-preserved c =
    let steps = c.args.steps.now in
    let i = c.loop-position.position in
    let s = c.index-steps-position.result in
    elim c.if-stops_run.branch [
      | then-stops_run+in_ok-push w ↦
          string_put steps i s _ _ _ c.loop-position-test.true c.index-steps-position.is (sym c.stops_run.ensures ∙ w.if-stops_run.true) (ap (λ v. v.items) w.positions-is ∙ w.in_ok-push.ensures.items) c.loop-position.invariant
      | else-stops_run w ↦
          string_kept steps i s _ _ _ c.loop-position-test.true c.index-steps-position.is (sym c.stops_run.ensures ∙ w.if-stops_run.false) (ap (λ v. v.items) w.positions-is) c.loop-position.invariant
    ]

pub returns : goal.returns
returns c = strings_whole c.args.steps.now c.loop-position.position c.loop-position.positions.items _ (omega arith) c.loop-position.invariant
