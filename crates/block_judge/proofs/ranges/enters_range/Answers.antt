use Rattle.std.proofs.Common.{arith}
use Rattle.block_judge.proofs.RangeChains.{places_of, next_within, first_below, comes_first, comes_in, comes_on, comes_out}
use Rattle.block_judge.proofs.ranges.enters_range.Goals as goal

pub loop-range-init : goal.loop-range-init
loop-range-init c = comes_first c.args.ends.now c.args.around.now c.args.from c.args.to c.place_at-range.result _ c.requires.to c.requires.count c.requires.around c.place_at-range.ensures

pub loop-range-preserved : goal.loop-range-preserved
loop-range-preserved c =
    comes_on c.args.ends.now c.args.around.now c.args.from c.args.to c.in-Some.first c.loop-range.range c.place_at-outer.result c.place_at.result _ _ c.goes_into.result
    c.loop-range.invariant (omega arith) c.requires.count c.requires.around c.in-Some.is c.place_at.ensures c.place_at-outer.ensures c.goes_into.ensures c.if-goes_into.false

pub loop-range-smaller : goal.loop-range-smaller
loop-range-smaller c =
    let first = c.in-Some.first in
    let f = places_of c.loop-range.range first c.in-Some.is in
    let low = first_below c.args.ends.now c.args.from c.args.to first c.loop-range.range c.loop-range.invariant c.in-Some.is in
    let g = next_within c.args.ends.now c.args.around.now first c.place_at-outer.result _ (omega (arith, low)) c.requires.around c.place_at-outer.ensures in
    omega (arith, f, g)

pub returns-then-goes_into : goal.returns-then-goes_into
returns-then-goes_into c =
    comes_in c.args.ends.now c.args.from c.args.to c.in-Some.first c.loop-range.range c.place_at.result _ c.goes_into.result c.loop-range.invariant (omega arith) c.in-Some.is
    c.place_at.ensures c.goes_into.ensures c.if-goes_into.true

pub returns : goal.returns
returns c = comes_out c.args.ends.now c.args.from c.args.to c.loop-range.range c.loop-range.invariant (omega arith) c.in_default.is
