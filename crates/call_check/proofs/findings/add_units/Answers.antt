use Rattle.std.proofs.Common.{[], arith}
use Rattle.statement_parts.proofs.found_rows.Walks.{each_more, each_end}
use Rattle.f_tree.specs.declared.units.Unit.{Unit as WrittenUnit}
use Rattle.call_shapes.specs.Disagreements.{unit_findings, units_findings}
use Rattle.call_check.proofs.FindingLaws.{units_step, units_end}
use Rattle.call_check.proofs.findings.add_units.Goals as goal

pub loop-unit-preserved : goal.loop-unit-preserved
loop-unit-preserved c =
    let ps = c.args.counterparts.procedures.now in
    let ls = c.args.counterparts.lines.now in
    each_more (units_findings ps ls) (λ (u : WrittenUnit). unit_findings ps ls u [] u.statements) (units_step ps ls) c.args.units.now c.loop-unit.unit-index c.unit-item.result
    _ _ _ _ c.loop-unit-test.true c.unit-item.is c.loop-unit.invariant c.in_ok-add_unit.ensures

pub returns : goal.returns
returns c =
    let ps = c.args.counterparts.procedures.now in
    let ls = c.args.counterparts.lines.now in
    each_end (units_findings ps ls) (λ (u : WrittenUnit). unit_findings ps ls u [] u.statements) (units_end ps ls) c.args.units.now c.loop-unit.unit-index _ _ (omega arith)
    c.loop-unit.invariant
