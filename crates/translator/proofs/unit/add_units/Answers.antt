use Rattle.name_table.specs.Named.{names_in}
use Rattle.translator.proofs.FileLemmas.{no_unit_yet, unit_added, units_end}
use Rattle.translator.proofs.unit.add_units.Goals as goal

pub loop-unit-init : goal.loop-unit-init
loop-unit-init c = no_unit_yet c.args.options (names_in c.args.procedures.now) c.args.units.now c.args.found.now.items

pub loop-unit-preserved : goal.loop-unit-preserved
loop-unit-preserved c =
    unit_added c.args.options (names_in c.args.procedures.now) c.args.units.now c.loop-unit.unit-index c.unit-item.result _ c.args.found.now.items c.loop-unit.found.items _ c.loop-unit.refusal c.in_ok-row.row
    c.earlier_of-refusal.result c.loop-unit-test.true c.unit-item.is c.loop-unit.invariant c.in_ok-row.ensures c.earlier_of-refusal.ensures

pub returns : goal.returns
returns c =
    units_end c.args.options (names_in c.args.procedures.now) c.args.units.now c.loop-unit.unit-index c.args.found.now.items c.loop-unit.found.items c.loop-unit.refusal c.loop-unit-test.false
    c.loop-unit.invariant
