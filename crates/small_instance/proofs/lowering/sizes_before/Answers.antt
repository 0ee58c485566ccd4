use Rattle.std.proofs.Common.{arith, ◌∙◌}
use Rattle.small_instance.proofs.Counting.{begun, one_counted, not_counted, all_counted}
use Rattle.small_instance.proofs.lowering.sizes_before.Goals as goal
use Rattle.small_instance.proofs.lowering.sizes_before.Goals.{then-i-n, else-i-n}

pub loop-i-init : goal.loop-i-init
loop-i-init c = (begun c.args.body.now c.args.n, omega arith)

pub loop-i-preserved : goal.loop-i-preserved
loop-i-preserved c = elim c.if-i-n.branch [
  | then-i-n w ↦ one_counted c.args.body.now c.args.n c.loop-i.i c.loop-i.total w.size_of-total.result c.if-i-n.total _ c.loop-i-test.true w.if-i-n.true c.loop-i.invariant.0 c.loop-i.invariant.1 w.size_of-total.ensures w.total-is
  | else-i-n w ↦ (w.total-is ∙ not_counted c.args.body.now c.args.n c.loop-i.i c.loop-i.total w.if-i-n.false c.loop-i.invariant.0, omega arith)
]

pub returns-clause-same : goal.returns-clause-same
returns-clause-same c = all_counted c.args.body.now c.args.n c.loop-i.i c.loop-i.total c.loop-i-test.false c.loop-i.invariant.0
