use Rattle.statement_lowering.proofs.ControlOperands.{taken-value, taken-whole}
use Rattle.statement_lowering.proofs.controls.lower_taken.Goals as goal

pub returns-in-Value : goal.returns-in-Value
returns-in-Value c =
    taken-value c.args.table.now c.args.taken c.args.purpose c.args.free c.args.e.now c.args.steps.now.items c.value_for.new.steps.items c.value_for.result
    c.in-Value.is c.value_for.ensures

pub returns-in-Whole : goal.returns-in-Whole
returns-in-Whole c =
    taken-whole c.args.table.now c.args.taken c.args.purpose c.args.free c.args.e.now c.args.steps.now.items c.all_of.result c.in-Whole.is
    c.all_of.ensures
