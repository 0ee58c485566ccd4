use Rattle.std.proofs.Common.{◌≡◌, ◌+◌, suc, sym, ap, ◌∙◌, arith}
use Rattle.block_judge.specs.Ranges.{innermost}
use Rattle.block_judge.proofs.RangeChains.{to_some, places_of, found_lasting, look_further, next_within, none_further}
use Rattle.block_judge.proofs.ranges.range_behind.Goals as goal

pub loop-range-init : goal.loop-range-init
loop-range-init c =
    let e : suc c.args.place ≡ c.args.place + 1 = omega arith in
    let f = to_some c.args.place in
    record { within = omega (arith, f); known = ap (innermost c.args.ends.now (c.args.place + 1)) (f ∙ e) }

pub loop-range-preserved : goal.loop-range-preserved
loop-range-preserved c =
    let first = c.in-Some.first in
    let f = places_of c.loop-range.range first c.in-Some.is in
    let low = c.loop-range.invariant.within in
    let g = next_within c.args.ends.now c.args.around.now first c.place_at-outer.result _ (omega (arith, f, low)) c.requires.around c.place_at-outer.ensures in
    record {
      within = omega (arith, f, low, g);
      known = look_further c.args.ends.now c.args.around.now (c.args.place + 1) first c.loop-range.range c.place_at-outer.result c.place_at.result _ _ _ (omega (arith, f, low))
          (omega (arith, f, low)) (omega (arith, f, low)) c.requires.around c.in-Some.is c.place_at.ensures (sym c.lasts_to.ensures ∙ c.if-lasts_to.false) c.place_at-outer.ensures
          c.loop-range.invariant.known;
    }

pub loop-range-smaller : goal.loop-range-smaller
loop-range-smaller c =
    let first = c.in-Some.first in
    let f = places_of c.loop-range.range first c.in-Some.is in
    let low = c.loop-range.invariant.within in
    let g = next_within c.args.ends.now c.args.around.now first c.place_at-outer.result _ (omega (arith, f, low)) c.requires.around c.place_at-outer.ensures in
    omega (arith, f, g)

pub returns-then-lasts_to : goal.returns-then-lasts_to
returns-then-lasts_to c =
    let first = c.in-Some.first in
    let f = places_of c.loop-range.range first c.in-Some.is in
    let low = c.loop-range.invariant.within in
    sym c.in-Some.is
    ∙ found_lasting c.args.ends.now (c.args.place + 1) first c.loop-range.range c.place_at.result _ _ (omega (arith, f, low)) c.in-Some.is c.place_at.ensures
    (sym c.lasts_to.ensures ∙ c.if-lasts_to.true) c.loop-range.invariant.known

pub returns : goal.returns
returns c = none_further c.args.ends.now (c.args.place + 1) c.loop-range.range _ c.in_default.is c.loop-range.invariant.known
