use Rattle.translator.proofs.ListLemmas.{no_constants_yet, contents_known, more_constants, all_constants}
use Rattle.translator.proofs.functions.constants_among.Goals as goal

pub add_constants-requires : goal.add_constants-requires
add_constants-requires c = contents_known c.args.units.now c.loop-unit.unit-index c.unit-item.result _ c.requires c.loop-unit-test.true c.unit-item.is

pub loop-unit-init : goal.loop-unit-init
loop-unit-init c us told = no_constants_yet us c.new-constants.result.keys c.new-constants.ensures.empty

pub loop-unit-preserved : goal.loop-unit-preserved
loop-unit-preserved c us told =
    more_constants us c.args.units.now c.loop-unit.unit-index c.unit-item.result _ c.loop-unit.constants.keys _ _ told c.loop-unit-test.true c.unit-item.is c.in_ok-add_constants.ensures
    (c.loop-unit.invariant us told)

pub returns : goal.returns
returns c us told = all_constants us c.args.units.now c.loop-unit.unit-index c.loop-unit.constants.keys told c.loop-unit-test.false (c.loop-unit.invariant us told)
