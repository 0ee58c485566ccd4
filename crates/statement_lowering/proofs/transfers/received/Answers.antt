use Rattle.std.proofs.Common.{sym, ◌∙◌}
use Rattle.statement_lowering.specs.declared.controls.Taken.TheVariants as taken
use Rattle.statement_lowering.proofs.ControlLaws.{or-whole, or-other}
use Rattle.statement_lowering.proofs.transfers.received.Goals as goal

pub returns-then-names_array : goal.returns-then-names_array
returns-then-names_array c = λ names told.
    or-whole names c.args.table.now c.args.e.now taken.Alone told c.requires (sym (c.names_array.ensures names told) ∙ c.if-names_array.true)

pub returns-else-names_array : goal.returns-else-names_array
returns-else-names_array c = λ names told.
    or-other names c.args.table.now c.args.e.now taken.Alone told c.requires (sym (c.names_array.ensures names told) ∙ c.if-names_array.false)
