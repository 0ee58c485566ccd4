use Rattle.std.proofs.Common.{arith}
use Rattle.name_table.specs.Named.{labelled}
use Rattle.loop_ranges.specs.LoopEnds.{is_named}
use Rattle.loop_ranges.proofs.EndLemmas.{ends_more, closers_more, ends_begin, closers_begin, ends_whole}
use Rattle.loop_ranges.proofs.ends.ends_backwards.Goals as goal

pub loop-behind-init : goal.loop-behind-init
loop-behind-init c = record {
  ends = ends_begin (labelled c.args.labels.now.places) (is_named c.args.labels.now) c.args.statements.now _ c.new-ends.ensures.items;
  closers = closers_begin (is_named c.args.labels.now) c.args.statements.now _ c.new-closers.ensures.items;
}

pub loop-behind-preserved : goal.loop-behind-preserved
loop-behind-preserved c =
    let ss = c.args.statements.now in
    let i = c.loop-behind.behind in
    let inv = c.loop-behind.invariant in
    let s = c.index-statements-place.result in
    record {
      ends = ends_more (labelled c.args.labels.now.places) (is_named c.args.labels.now) ss i s s c.loop-behind.ends.items _ _ _ c.loop-behind-test.true c.index-statements-place.is inv.ends inv.closers
          c.in_ok-end.ensures.end c.in_ok-push.ensures.items;
      closers = closers_more (is_named c.args.labels.now) ss i s s _ _ c.loop-behind-test.true c.index-statements-place.is inv.closers c.in_ok-end.ensures.closers;
    }

pub returns : goal.returns
returns c = ends_whole (labelled c.args.labels.now.places) (is_named c.args.labels.now) c.args.statements.now c.loop-behind.behind c.loop-behind.ends.items (omega arith) c.loop-behind.invariant.ends
