use Rattle.std.proofs.Common.{refl}
use Rattle.translator.proofs.NameLemmas.{more_names, all_names_added}
use Rattle.translator.proofs.procedures.add_procedures.Goals as goal

pub loop-unit-init : goal.loop-unit-init
loop-unit-init c = (refl, c.requires)

pub loop-unit-preserved : goal.loop-unit-preserved
loop-unit-preserved c = (
  more_names c.args.units.now c.loop-unit.unit-index c.unit-item.result _ _ _ _ c.loop-unit-test.true c.unit-item.is c.in_ok-add_procedure.ensures c.loop-unit.invariant.0,
  c.in_ok-add_procedure.ensures.is_set,
)

pub returns : goal.returns
returns c = all_names_added c.args.units.now c.loop-unit.unit-index c.args.names.now c.loop-unit.names c.loop-unit-test.false c.loop-unit.invariant.0 c.loop-unit.invariant.1
