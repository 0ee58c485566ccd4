use Rattle.std.proofs.Common.{◌<◌, ◌≤◌, get_or, length, arith, refl, sym, ap, subst, ◌∙◌}
use Rattle.placing_judge.proofs.FrontLaws.{ties_length}
use Rattle.placing_judge.proofs.RowLaws.{fault_start, walk_start, walk_on, walk_end}
use Rattle.placing_judge.proofs.judge.rows.Goals as goal

pub loop-at-init : goal.loop-at-init
loop-at-init c = record { walk = walk_start c.args.unit.now _ c.new-found.ensures.items; before = fault_start c.args.unit.now }

pub next_fault-requires-clause-at : goal.next_fault-requires-clause-at
next_fault-requires-clause-at c = subst (λ ss. c.loop-at.at < length ss) c.as_slice-statements.ensures c.loop-at-test.true

pub bounds-ties-at : goal.bounds-ties-at
bounds-ties-at c =
    subst (λ n. c.loop-at.at < n) (sym (ties_length c.args.unit.now c.args.ties.now c.requires.ties))
    (subst (λ ss. c.loop-at.at < length ss) c.as_slice-statements.ensures c.loop-at-test.true)

pub bounds-ties-at-in_ok-now : goal.bounds-ties-at-in_ok-now
bounds-ties-at-in_ok-now c =
    subst (λ n. c.loop-at.at < n) (sym (ties_length c.args.unit.now c.args.ties.now c.requires.ties))
    (subst (λ ss. c.loop-at.at < length ss) c.as_slice-statements.ensures c.loop-at-test.true)

pub loop-at-preserved : goal.loop-at-preserved
loop-at-preserved c =
    let u = c.args.unit.now in
    let i = c.loop-at.at in
    let s = c.index-statements-at.result in
    record {
      walk = walk_on u c.args.ties.now i s s (get_or c.args.ties.now i c.index-ties-at.result) c.index-ties-at.result c.loop-at.before _ c.loop-at.found.items _ c.requires.ties
          (subst (λ ss. i < length ss) c.as_slice-statements.ensures c.loop-at-test.true)
          (c.index-statements-at.is ∙ ap (λ ss. get_or ss i s) c.as_slice-statements.ensures) refl c.loop-at.invariant.before c.in_ok-now.ensures
          c.in_ok-add_rows.ensures c.loop-at.invariant.walk;
      before = c.in_ok-now.ensures;
    }

pub returns : goal.returns
returns c =
    walk_end c.args.unit.now c.loop-at.at c.loop-at.found.items (subst (λ ss. length ss ≤ c.loop-at.at) c.as_slice-statements.ensures (omega arith)) c.loop-at.invariant.walk
