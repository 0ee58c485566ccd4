use Rattle.std.proofs.Common.{sym, ◌∙◌}
use Rattle.statement_lowering.proofs.TransferLaws.{fetched-purpose, valued-purpose}
use Rattle.statement_lowering.proofs.transfers.value_purpose.Goals as goal

pub returns-then-is_fetched : goal.returns-then-is_fetched
returns-then-is_fetched c = λ names told. fetched-purpose names c.args.table.now told c.args.e.now c.requires (sym c.is_fetched.ensures ∙ c.if-is_fetched.true)

pub returns-else-is_fetched : goal.returns-else-is_fetched
returns-else-is_fetched c = λ names told. valued-purpose names c.args.table.now told c.args.e.now c.requires (sym c.is_fetched.ensures ∙ c.if-is_fetched.false)
