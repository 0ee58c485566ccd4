use Rattle.loop_ranges.proofs.found_rows.Walks.{then_ok}
use Rattle.statements_judge.proofs.LabelLemmas.{added_some, added_none}
use Rattle.statements_judge.proofs.labels.add_label.Goals as goal

pub returns-in-Some : goal.returns-in-Some
returns-in-Some c = then_ok _ _ c.insert_label.result (λ put l. added_some c.args.label c.in-Some.label l _ _ c.in-Some.is (put l)) c.insert_label.ensures

pub returns-in-None : goal.returns-in-None
returns-in-None c = λ l. added_none c.args.label l _ c.in-None.is
