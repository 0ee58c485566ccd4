use Rattle.std.proofs.Common.{sym, ◌∙◌}
use Rattle.statement_lowering.proofs.ControlLaws.{settled-whole, settled-alone, settled-value}
use Rattle.statement_lowering.proofs.controls.settled.Goals as goal

pub returns-then-names_array : goal.returns-then-names_array
returns-then-names_array c = λ names told.
    settled-whole names c.args.table.now c.args.e.now told c.requires (sym (c.names_array.ensures names told) ∙ c.if-names_array.true)

pub returns-then-is_placed : goal.returns-then-is_placed
returns-then-is_placed c = λ names told.
    settled-alone names c.args.table.now c.args.e.now told c.requires (sym (c.names_array.ensures names told) ∙ c.if-names_array.false)
    (sym c.is_placed.ensures ∙ c.if-is_placed.true)

pub returns-else-is_placed : goal.returns-else-is_placed
returns-else-is_placed c = λ names told.
    settled-value names c.args.table.now c.args.e.now told c.requires (sym (c.names_array.ensures names told) ∙ c.if-names_array.false)
    (sym c.is_placed.ensures ∙ c.if-is_placed.false)
