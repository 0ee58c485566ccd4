use Rattle.std.proofs.Common.{refl, arith}
use Rattle.found_rows.proofs.Walks.{each_more, each_end}
use Rattle.declaration_rows.specs.GlobalRows.{globals_of, globals_of_unit}
use Rattle.set_judge.proofs.NameLemmas.{units_step}
use Rattle.set_judge.proofs.globals.add_units_names.Goals as goal

pub loop-unit-preserved : goal.loop-unit-preserved
loop-unit-preserved c =
    each_more globals_of globals_of_unit units_step c.args.units.now c.loop-unit.unit-index c.unit-item.result _ _ _ _ c.loop-unit-test.true c.unit-item.is
    c.loop-unit.invariant c.in_ok-add_unit_names.ensures

pub returns : goal.returns
unfolding globals_of
returns c = each_end globals_of globals_of_unit refl c.args.units.now c.loop-unit.unit-index _ _ (omega arith) c.loop-unit.invariant
