use Rattle.statement_lowering.specs.StatementForms as form
use Rattle.statement_lowering.specs.StatementOutcomes.{IsOutcome}
use Rattle.statement_lowering.proofs.Additions.{pass-lowered}
use Rattle.statement_lowering.proofs.StatementCodes.{code-passing}
use Rattle.statement_lowering.proofs.statement.pass.Goals as goal

pub returns : goal.returns
unfolding IsOutcome
returns c = pass-lowered c.args.table.now c.args.around form.passing c.args.steps.now.items (λ names told. code-passing c.args.around.once c.args.around.free c.args.around.room names)
