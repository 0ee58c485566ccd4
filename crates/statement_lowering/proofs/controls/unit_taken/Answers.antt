use Rattle.std.proofs.Common.{sym, ◌∙◌}
use Rattle.statement_lowering.proofs.ControlLaws.{unit-settled, unit-valued}
use Rattle.statement_lowering.proofs.controls.unit_taken.Goals as goal

pub returns-then-is_text_target : goal.returns-then-is_text_target
returns-then-is_text_target c = λ names told.
    c.settled.ensures names told ∙ unit-settled names c.args.table.now c.args.e.now told c.requires (sym c.is_text_target.ensures ∙ c.if-is_text_target.true)

pub returns-else-is_text_target : goal.returns-else-is_text_target
returns-else-is_text_target c = λ names told.
    unit-valued names c.args.table.now c.args.e.now told c.requires (sym c.is_text_target.ensures ∙ c.if-is_text_target.false)
