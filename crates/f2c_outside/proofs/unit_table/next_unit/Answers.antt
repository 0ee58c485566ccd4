use Rattle.f2c_outside.proofs.FinishLaws.{next-step}
use Rattle.f2c_outside.proofs.unit_table.next_unit.Goals as goal

pub loop-row-preserved : goal.loop-row-preserved
loop-row-preserved g c =
    next-step c.args.last c.args.rows.now c.loop-row.row-index c.row-item.result c.loop-row.least c.next-least.result
    c.loop-row-test.true c.row-item.is c.next-least.ensures c.loop-row.invariant
