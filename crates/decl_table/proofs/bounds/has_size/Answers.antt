use Rattle.std.proofs.Common.{arith}
use Rattle.decl_table.proofs.BoundLemmas.{closed-not, closed-on, closed-end}
use Rattle.decl_table.proofs.bounds.has_size.Goals as goal

pub returns-then-is_open : goal.returns-then-is_open
returns-then-is_open c =
    closed-not c.args.dimensions.now c.loop-dimension.dimension-index c.dimension-item.result _ c.is_open.result _ c.loop-dimension-test.true c.dimension-item.is c.loop-dimension.invariant
    c.is_open.ensures c.if-is_open.true

pub loop-dimension-preserved : goal.loop-dimension-preserved
loop-dimension-preserved c =
    closed-on c.args.dimensions.now c.loop-dimension.dimension-index c.dimension-item.result _ c.is_open.result _ c.loop-dimension-test.true c.dimension-item.is c.loop-dimension.invariant
    c.is_open.ensures c.if-is_open.false

pub returns : goal.returns
returns c = closed-end c.args.dimensions.now c.loop-dimension.dimension-index _ (omega arith) c.loop-dimension.invariant
