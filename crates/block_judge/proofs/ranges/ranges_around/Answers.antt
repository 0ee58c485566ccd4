use Rattle.std.proofs.Common.{length, sym, ap, subst, ◌∙◌, arith}
use Rattle.block_judge.specs.Ranges.{AreAround}
use Rattle.block_judge.proofs.ArmLemmas.{count_more}
use Rattle.block_judge.proofs.RangeChains.{begin_around, around_none, around_more}
use Rattle.block_judge.proofs.ranges.ranges_around.Goals as goal

pub loop-place-init : goal.loop-place-init
loop-place-init c = record {
  count = ap length c.new-around.ensures.items;
  known = around_none c.args.ends.now _ c.new-around.ensures.items;
  next = begin_around c.args.ends.now;
}

pub range_behind-range-requires-clause-count : goal.range_behind-range-requires-clause-count
range_behind-range-requires-clause-count c =
    ap length c.as_slice.ensures.value ∙ count_more c.loop-place.around.items _ c.loop-place.range c.loop-place.place c.loop-place.invariant.count c.in_ok-push.ensures.items

pub range_behind-range-requires-clause-around : goal.range_behind-range-requires-clause-around
range_behind-range-requires-clause-around c =
    subst (AreAround c.args.ends.now) (sym c.as_slice.ensures.value)
    (around_more c.args.ends.now c.loop-place.around.items _ c.loop-place.range c.loop-place.place c.loop-place.invariant.count c.in_ok-push.ensures.items c.loop-place.invariant.known
    c.loop-place.invariant.next)

pub loop-place-preserved : goal.loop-place-preserved
loop-place-preserved c = record {
  count = count_more c.loop-place.around.items _ c.loop-place.range c.loop-place.place c.loop-place.invariant.count c.in_ok-push.ensures.items;
  known = around_more c.args.ends.now c.loop-place.around.items _ c.loop-place.range c.loop-place.place c.loop-place.invariant.count c.in_ok-push.ensures.items c.loop-place.invariant.known
      c.loop-place.invariant.next;
  next = c.range_behind-range.ensures;
}

pub returns-clause-count : goal.returns-clause-count
returns-clause-count c = c.loop-place.invariant.count ∙ (omega arith)

pub returns-clause-around : goal.returns-clause-around
returns-clause-around c = c.loop-place.invariant.known
