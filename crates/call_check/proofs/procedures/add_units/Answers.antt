use Rattle.std.proofs.Common.{arith}
use Rattle.statement_parts.proofs.found_rows.Walks.{each_more, each_end}
use Rattle.call_shapes.specs.ProcedureShapes.{unit_procedures, procedures_of}
use Rattle.call_check.proofs.ProcedureLaws.{units_step, units_end}
use Rattle.call_check.proofs.procedures.add_units.Goals as goal

pub loop-unit-preserved : goal.loop-unit-preserved
loop-unit-preserved c =
    each_more procedures_of unit_procedures units_step c.args.units.now c.loop-unit.unit-index c.unit-item.result
    _ _ _ _ c.loop-unit-test.true c.unit-item.is c.loop-unit.invariant c.in_ok-add_unit.ensures

pub returns : goal.returns
returns c = each_end procedures_of unit_procedures units_end c.args.units.now c.loop-unit.unit-index _ _ (omega arith) c.loop-unit.invariant
