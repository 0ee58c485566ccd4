use Rattle.std.proofs.Common.{◌∙◌}
use Rattle.expression_lowering.specs.Purposes.{purpose_of}
use Rattle.statement_lowering.specs.declared.controls.Manner.TheVariants as manner
use Rattle.statement_lowering.proofs.ControlOperands.{by-value, by-place, by-taken, settled-same}
use Rattle.statement_lowering.proofs.controls.lower_by.Goals as goal

pub returns-in-Value : goal.returns-in-Value
returns-in-Value c =
    by-value c.args.table.now c.args.manner c.args.purpose c.args.free c.args.e.now c.args.steps.now.items c.value_for.new.steps.items c.value_for.result
    c.in-Value.is c.value_for.ensures

pub returns-in-Place : goal.returns-in-Place
returns-in-Place c =
    by-place c.args.table.now c.args.manner c.args.purpose c.args.free c.args.e.now c.args.steps.now.items c.place_for.new.steps.items c.place_for.result
    c.in-Place.is c.place_for.ensures

pub returns-in-Settled : goal.returns-in-Settled
returns-in-Settled c =
    by-taken c.args.table.now c.args.manner manner.Settled c.settled-taken.result (purpose_of c.args.purpose) c.args.free c.args.e.now c.args.steps.now.items
    c.lower_taken.new.steps.items c.lower_taken.result c.in-Settled.is (λ names told. c.settled-taken.ensures names told ∙ settled-same names c.args.e.now) c.lower_taken.ensures

pub returns-in-Unit : goal.returns-in-Unit
returns-in-Unit c =
    by-taken c.args.table.now c.args.manner manner.Unit c.unit_taken-taken.result (purpose_of c.args.purpose) c.args.free c.args.e.now c.args.steps.now.items
    c.lower_taken-in-Unit.new.steps.items c.lower_taken-in-Unit.result c.in-Unit.is c.unit_taken-taken.ensures c.lower_taken-in-Unit.ensures
