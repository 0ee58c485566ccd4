use Rattle.source_reader.proofs.TreeLemmas.{units_start, units_go_on}
use Rattle.source_reader.proofs.trees.deep_in_units.Goals as goal

pub loop-unit-init : goal.loop-unit-init
loop-unit-init c = units_start c.args.units.now

pub loop-unit-preserved : goal.loop-unit-preserved
loop-unit-preserved c =
    units_go_on c.args.units.now c.loop-unit.unit-index c.unit-item.result c.loop-unit.found c.first_of-found.result c.in_ok-first_deep.field-0
    c.loop-unit-test.true c.unit-item.is c.loop-unit.invariant c.in_ok-first_deep.ensures c.first_of-found.ensures
