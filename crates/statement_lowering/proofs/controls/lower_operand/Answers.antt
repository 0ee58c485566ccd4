use Rattle.f_tree.specs.Lines.{way_of}
use Rattle.f_tree.specs.declared.statements.ControlValue.TheVariants as value
use Rattle.expression_lowering.specs.Purposes.{purpose_of}
use Rattle.statement_lowering.proofs.ControlOperands.{as-value, label-none, covered-after, after-done}
use Rattle.statement_lowering.proofs.controls.lower_operand.Goals as goal

pub lower_after-requires : goal.lower_after-requires
lower_after-requires c = covered-after c.args.table.now c.args.control.now.value c.in-Value.e c.in-Value.is c.requires

pub returns-in-Star : goal.returns-in-Star
returns-in-Star c = λ names told.
    as-value (way_of c.args.way) names c.args.control.now.word c.args.control.now.value value.Star (purpose_of c.args.purpose) c.args.free c.args.steps.now.items
    c.args.steps.now.items c.star_operand.result c.in-Star.is (c.star_operand.ensures names (purpose_of c.args.purpose) c.args.steps.now.items)

pub returns-in-Label : goal.returns-in-Label
returns-in-Label c = λ names told.
    label-none (way_of c.args.way) names c.args.control.now.word c.args.control.now.value c.in-Label.field-0 (purpose_of c.args.purpose) c.args.free c.args.steps.now.items c.in-Label.is

pub returns-in-Value : goal.returns-in-Value
returns-in-Value c =
    after-done (way_of c.args.way) c.args.table.now c.args.control.now.word c.args.control.now.value (value.Value c.in-Value.e) (purpose_of c.args.purpose) c.args.free
    c.args.steps.now.items c.lower_after.new.steps.items c.lower_after.result c.in-Value.is c.lower_after.ensures
