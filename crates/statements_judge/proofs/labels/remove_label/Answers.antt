use Rattle.statements_judge.proofs.LabelLemmas.{removed_some, removed_none}
use Rattle.statements_judge.proofs.labels.remove_label.Goals as goal

pub returns-in-Some : goal.returns-in-Some
returns-in-Some c = λ l. removed_some c.args.label c.in-Some.label l _ _ c.in-Some.is (c.swap_remove.ensures.updates.0 l)

pub returns-in_default : goal.returns-in_default
returns-in_default c = λ l. removed_none c.args.label l _ c.in_default.is
