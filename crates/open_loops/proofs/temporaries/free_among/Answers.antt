use Rattle.open_loops.proofs.TemporaryLemmas.{among_none, among_more}
use Rattle.open_loops.proofs.temporaries.free_among.Goals as goal

pub loop-range-init : goal.loop-range-init
loop-range-init c = among_none c.args.table.now c.args.statements.now

pub loop-range-preserved : goal.loop-range-preserved
loop-range-preserved c =
    among_more c.args.table.now c.args.statements.now c.args.loops.now c.loop-range.range-index c.loop-range.free c.in_ok-free.free _ c.loop-range-test.true c.loop-range.invariant c.in_ok-free.ensures.free
