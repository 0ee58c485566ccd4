use Rattle.std.proofs.Common.{◌<◌, ◌||◌, length, nat_eq, sym, ap, ◌∙◌, arith}
use Rattle.std.specs.List.{list_any}
use Rattle.block_judge.specs.Arms.{arms_in}
use Rattle.block_judge.proofs.ArmLemmas.{same_arm, other_arm, read_within, within_some, to_of, to_within, among_here, among_some, among_none}
use Rattle.block_judge.proofs.arms.stands_in_arm.Goals as goal

pub loop-inner-init : goal.loop-inner-init
loop-inner-init c = record {
  within = read_within c.args.arms.now c.args.place (length c.args.arms.now) c.place_at-inner.result _ c.requires.numbered c.requires.place (omega arith) c.place_at-inner.ensures;
  known = λ ss known. among_here ss c.args.arms.now c.args.place c.args.arm c.place_at-inner.result _ known c.requires.place c.place_at-inner.ensures;
}

pub loop-inner-preserved : goal.loop-inner-preserved
loop-inner-preserved c =
    let arms = c.args.arms.now in
    let other = c.in-Some.other in
    let next = c.place_at-outer.result in
    let low : other < length arms = within_some c.loop-inner.inner (length arms) other c.loop-inner.invariant.within c.in-Some.is in
    record {
      within = read_within arms other (length arms) next _ c.requires.numbered low (omega (arith, low)) c.place_at-outer.ensures;
      known = λ ss known.
          c.loop-inner.invariant.known ss known ∙ among_some ss c.args.arm other c.loop-inner.inner c.in-Some.is ∙ ap (λ b. b || list_any (nat_eq c.args.arm) (arms_in ss other)) (other_arm c.args.arm other c.if-arm-other.false)
          ∙ among_here ss arms other c.args.arm next _ known low c.place_at-outer.ensures;
    }

pub loop-inner-smaller : goal.loop-inner-smaller
loop-inner-smaller c =
    let arms = c.args.arms.now in
    let other = c.in-Some.other in
    let next = c.place_at-outer.result in
    let low : other < length arms = within_some c.loop-inner.inner (length arms) other c.loop-inner.invariant.within c.in-Some.is in
    let e = to_within next other (read_within arms other other next _ c.requires.numbered low (omega arith) c.place_at-outer.ensures) in
    let f = to_of c.loop-inner.inner other c.in-Some.is in
    omega (arith, e, f)

pub returns-then-arm-other : goal.returns-then-arm-other
returns-then-arm-other c = λ ss known.
    sym
    (c.loop-inner.invariant.known ss known ∙ among_some ss c.args.arm c.in-Some.other c.loop-inner.inner c.in-Some.is
    ∙ ap (λ b. b || list_any (nat_eq c.args.arm) (arms_in ss c.in-Some.other)) (same_arm c.args.arm c.in-Some.other c.if-arm-other.true))

pub returns : goal.returns
returns c = λ ss known. sym (c.loop-inner.invariant.known ss known ∙ among_none ss c.args.arm c.loop-inner.inner c.in_default.is)
