use Rattle.order_judge.proofs.LabelLemmas.{label_row, no_label_row, label_noted, no_label_noted}
use Rattle.found_rows.proofs.Walks.{then_ok}
use Rattle.order_judge.proofs.labels.add_label_row.Goals as goal

pub returns-in_ok-add_unless-in-Some-clause-rows : goal.returns-in_ok-add_unless-in-Some-clause-rows
returns-in_ok-add_unless-in-Some-clause-rows c =
    then_ok _ _ c.put.result
    (λ put before known.
    label_row c.args.seen.now before c.args.statement.now c.in-Some.label c.is_taken-is_new.result _ _ known c.in-Some.is c.is_taken-is_new.ensures
    c.in_ok-add_unless-in-Some.ensures)
    c.put.ensures

pub returns-in_ok-add_unless-in-Some-clause-noted : goal.returns-in_ok-add_unless-in-Some-clause-noted
returns-in_ok-add_unless-in-Some-clause-noted c =
    then_ok _ _ c.put.result (λ put before known. label_noted c.args.seen.now c.put.new.self before c.args.statement.now c.in-Some.label known c.in-Some.is put) c.put.ensures

pub returns-in-None-clause-rows : goal.returns-in-None-clause-rows
returns-in-None-clause-rows c = λ before known. no_label_row before c.args.statement.now c.args.found.now.items c.in-None.is

pub returns-in-None-clause-noted : goal.returns-in-None-clause-noted
returns-in-None-clause-noted c = λ before known. no_label_noted c.args.seen.now before c.args.statement.now known c.in-None.is
