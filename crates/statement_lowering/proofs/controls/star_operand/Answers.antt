use Rattle.std.proofs.Common.{sym, ◌∙◌}
use Rattle.f_tree.specs.Lines.{way_of}
use Rattle.statement_lowering.proofs.ControlOperands.{star-unit, star-other}
use Rattle.statement_lowering.proofs.controls.star_operand.Goals as goal

pub returns-then-is_unit : goal.returns-then-is_unit
returns-then-is_unit c = λ names q steps.
    star-unit (way_of c.args.way) names c.args.word q c.args.free steps c.standard_unit.result (sym c.is_unit.ensures ∙ c.if-is_unit.true) c.standard_unit.ensures

pub returns-else-is_unit : goal.returns-else-is_unit
returns-else-is_unit c = λ names q steps.
    star-other (way_of c.args.way) names c.args.word q c.args.free steps (sym c.is_unit.ensures ∙ c.if-is_unit.false)
