use Rattle.std.proofs.Common.{◌≡◌, ◌<◌, ◌≤◌, ◌^◌, length, take, [], nat_abs, arith, refl, sym, subst}
use Rattle.offset_classes.specs.Standing.{AreBelow, links_of, link_of, reach}
use Rattle.offset_classes.specs.Forest.{equation_at}
use Rattle.offset_classes.proofs.Tying.{walk_start, walk_spread, walk_more, walk_end, walk_stops, links_in, equation_near, below_take, told_true, told_false}
use Rattle.offset_classes.proofs.solving.tie_all.Goals as goal

pub loop-at-init : goal.loop-at-init
loop-at-init c = walk_start c.args.equations.now c.args.nodes.now c.requires.single

pub tie-requires-clause-one_in : goal.tie-requires-clause-one_in
tie-requires-clause-one_in c =
    let e = equation_at c.args.equations.now c.loop-at.at in
    let same : length c.loop-at.nodes ≡ length c.args.nodes.now = c.loop-at.auto.nodes in
    let both = c.requires.below.each (link_of e) (links_in c.args.equations.now c.loop-at.at e (equation_at [] 0) c.loop-at-test.true refl) in
    subst (λ n. e.one < n) (sym same) both.0

pub tie-requires-clause-other_in : goal.tie-requires-clause-other_in
tie-requires-clause-other_in c =
    let e = equation_at c.args.equations.now c.loop-at.at in
    let same : length c.loop-at.nodes ≡ length c.args.nodes.now = c.loop-at.auto.nodes in
    let both = c.requires.below.each (link_of e) (links_in c.args.equations.now c.loop-at.at e (equation_at [] 0) c.loop-at-test.true refl) in
    subst (λ n. e.other < n) (sym same) both.1

pub tie-requires-clause-spread : goal.tie-requires-clause-spread
tie-requires-clause-spread c = walk_spread c.args.equations.now c.loop-at.nodes c.loop-at.at (2 ^ 61) c.loop-at.invariant c.requires.near

pub tie-requires-clause-near : goal.tie-requires-clause-near
tie-requires-clause-near c =
    let e = equation_at c.args.equations.now c.loop-at.at in
    let near : nat_abs e.by ≤ reach (links_of c.args.equations.now) = equation_near c.args.equations.now c.loop-at.at e (equation_at [] 0) c.loop-at-test.true refl in
    let all : reach (links_of c.args.equations.now) ≤ 2 ^ 61 = c.requires.near in
    omega arith

pub loop-at-preserved : goal.loop-at-preserved
loop-at-preserved c =
    let e = equation_at c.args.equations.now c.loop-at.at in
    walk_more c.args.equations.now c.loop-at.nodes c.tie.new.nodes c.loop-at.at e (equation_at [] 0) c.loop-at-test.true refl
    (told_true _ c.tie.result c.if-not-tie.false (c.tie.ensures.tied (links_of (take c.loop-at.at c.args.equations.now))
    (subst (λ n. AreBelow n (links_of (take c.loop-at.at c.args.equations.now))) (sym c.loop-at.auto.nodes) (below_take (length c.args.nodes.now) c.args.equations.now c.loop-at.at c.requires.below)) c.loop-at.invariant))

pub returns-then-not-tie-clause-contradicts : goal.returns-then-not-tie-clause-contradicts
returns-then-not-tie-clause-contradicts c =
    let e = equation_at c.args.equations.now c.loop-at.at in
    walk_stops (length c.args.nodes.now) c.args.equations.now c.loop-at.nodes c.loop-at.at e (equation_at [] 0) c.loop-at-test.true refl (sym c.loop-at.auto.nodes)
    c.requires.below c.loop-at.invariant (told_false _ c.tie.result c.if-not-tie.true (c.tie.ensures.contradicts _ c.loop-at.invariant))

pub returns-clause-solved : goal.returns-clause-solved
returns-clause-solved c =
    let low : c.loop-at.at ≤ length c.args.equations.now = c.loop-at.auto.at-end in
    let high : length c.args.equations.now ≤ c.loop-at.at = c.loop-at-test.false in
    walk_end c.args.equations.now c.loop-at.nodes c.loop-at.at (omega arith) c.loop-at.invariant
