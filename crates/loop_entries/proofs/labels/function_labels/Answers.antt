use Rattle.std.proofs.Common.{◌∙◌}
use Rattle.loop_entries.proofs.TellsLemmas.{functions_one, functions_other}
use Rattle.loop_entries.proofs.labels.function_labels.Goals as goal

pub returns-in-StatementFunction : goal.returns-in-StatementFunction
returns-in-StatementFunction c = c.get.ensures ∙ functions_one _ _ c.in-StatementFunction.ensures

pub returns-in_default : goal.returns-in_default
returns-in_default c = functions_other _ _ (λ is. c.in_default.not-StatementFunction (c.class.ensures ∙ is))
