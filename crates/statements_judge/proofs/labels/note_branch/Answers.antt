use Rattle.std.proofs.Common.{sym, ◌∙◌}
use Rattle.loop_ranges.proofs.found_rows.Walks.{then_ok}
use Rattle.f_tree.specs.Places.{has_label}
use Rattle.declaration_rows.specs.UnitRows.{may_be_entered}
use Rattle.statements_judge.proofs.LabelLemmas.{entered_by, passed_by}
use Rattle.statements_judge.proofs.labels.note_branch.Goals as goal

pub returns-then-may_be_entered : goal.returns-then-may_be_entered
returns-then-may_be_entered c =
    let s = c.args.statement.now in
    then_ok _ _ c.add_label.result
    (λ put l. entered_by (has_label s.label l) (may_be_entered s.body) _ _ (sym c.may_be_entered.ensures ∙ c.if-may_be_entered.true) (put l)) c.add_label.ensures

pub returns : goal.returns
returns c = λ l.
    let s = c.args.statement.now in
    passed_by (has_label s.label l) (may_be_entered s.body) _ _ (sym c.may_be_entered.ensures ∙ c.if-may_be_entered.false) (c.remove_label.ensures l)
