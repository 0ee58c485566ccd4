use Rattle.std.proofs.Common.{arith}
use Rattle.unit_judge.proofs.SetLemmas.{first_begin, units_more, units_end}
use Rattle.unit_judge.proofs.set.units_fault.Goals as goal

pub loop-unit-init : goal.loop-unit-init
loop-unit-init c = first_begin _

pub loop-unit-preserved : goal.loop-unit-preserved
loop-unit-preserved c =
    let u = c.unit-item.result in
    units_more c.args.options c.args.units.now c.loop-unit.unit-index u u c.loop-unit.first c.in_ok-found.found c.earlier_of-first.result _ c.loop-unit-test.true c.unit-item.is
    c.loop-unit.invariant c.in_ok-found.ensures c.earlier_of-first.ensures

pub returns : goal.returns
returns c = units_end c.args.options c.args.units.now c.loop-unit.unit-index c.loop-unit.first _ (omega arith) c.loop-unit.invariant
