use Rattle.std.proofs.Common.{◌+◌, length, sym, ap, subst, ◌∙◌, arith}
use Rattle.f_tree.specs.declared.statements.Stmt.{Stmt}
use Rattle.f_tree.specs.Lines.{mark_of}
use Rattle.order_judge.specs.NestSteps.{mark_in}
use Rattle.block_judge.specs.Arms.{IsWithin, arm_at}
use Rattle.block_judge.proofs.ArmLemmas.{within_none, at_within, behind_within, reaches_first, reaches_more, numbered_none, known_none, numbered_more, known_more, count_more}
use Rattle.block_judge.proofs.arms.innermost_arms.Goals as goal

pub loop-place-init : goal.loop-place-init
loop-place-init c =
    let none = c.new-arms.ensures.items in
    record {
      count = ap length none;
      numbered = numbered_none _ none;
      known = known_none c.args.statements.now _ none;
      within = within_none 0;
      reaches = reaches_first c.args.statements.now;
    }

pub loop-place-preserved : goal.loop-place-preserved
loop-place-preserved c =
    let ss = c.args.statements.now in
    let place = c.loop-place.place in
    let inv = c.loop-place.invariant in
    let arms = c.loop-place.arms.items in
    let after = c.push.new.self.items in
    let s = c.index-statements-place.result in
    let mark = mark_in c.mark_of-mark.result in
    let stands = c.arm_at-stands_in.result in
    let stands_is = c.arm_at-stands_in.ensures ∙ ap (λ xs. arm_at xs mark c.loop-place.inner) c.as_slice.ensures.value in
    let put = c.in_ok-push.ensures.items in
    let reads = c.mark_of-mark.ensures ∙ ap (λ (t : Stmt). mark_of t.body) (sym c.index-statements-place.is) in
    let stands_within : IsWithin stands place = subst (λ o. IsWithin o place) (sym stands_is) (at_within arms mark c.loop-place.inner place inv.count inv.numbered inv.within) in
    record {
      count = count_more arms after stands place inv.count put;
      numbered = numbered_more arms after stands put inv.numbered (subst (IsWithin stands) (sym inv.count) stands_within);
      known = known_more ss arms after place s c.loop-place.inner stands mark c.loop-place-test.true c.index-statements-place.is reads inv.count inv.known inv.within stands_is
          put inv.reaches;
      within = subst (λ o. IsWithin o (place + 1)) (sym c.arm_behind-inner.ensures) (behind_within mark place c.loop-place.inner stands inv.within stands_within);
      reaches = reaches_more ss arms place s c.loop-place.inner stands c.arm_behind-inner.result mark c.loop-place-test.true c.index-statements-place.is reads inv.count inv.known
          inv.within stands_is c.arm_behind-inner.ensures inv.reaches;
    }

pub returns-clause-count : goal.returns-clause-count
returns-clause-count c = c.loop-place.invariant.count ∙ (omega arith)

pub returns-clause-numbered : goal.returns-clause-numbered
returns-clause-numbered c = c.loop-place.invariant.numbered

pub returns-clause-arms : goal.returns-clause-arms
returns-clause-arms c = c.loop-place.invariant.known
