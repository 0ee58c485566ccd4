use Rattle.std.proofs.Common.{ap, sym, ◌∙◌}
use Rattle.lowering.specs.Statements.{item_purpose}
use Rattle.statement_lowering.specs.TransferForms.{taking}
use Rattle.statement_lowering.proofs.TransferLaws.{alone-purpose, whole-purpose}
use Rattle.statement_lowering.proofs.transfers.item_purpose.Goals as goal

pub returns-in-Value : goal.returns-in-Value
returns-in-Value c = λ names told. c.value_purpose.ensures names told ∙ ap (λ t. item_purpose (taking t c.args.e.now names)) (sym c.in-Value.is)

pub returns-in-Alone : goal.returns-in-Alone
returns-in-Alone c = λ names told. alone-purpose names c.args.e.now ∙ ap (λ t. item_purpose (taking t c.args.e.now names)) (sym c.in-Alone.is)

pub returns-in-Whole : goal.returns-in-Whole
returns-in-Whole c = λ names told. whole-purpose names c.args.e.now ∙ ap (λ t. item_purpose (taking t c.args.e.now names)) (sym c.in-Whole.is)
