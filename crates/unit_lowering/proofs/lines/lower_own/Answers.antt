use Rattle.std.proofs.Common.{◌≡◌, Err, sym, ◌∙◌, rules}
use Rattle.unit_lowering.proofs.Appending.{then_ok}
use Rattle.unit_lowering.proofs.LineLemmas.{statement_added, statement_refused, own_passed, own_alone}
use Rattle.unit_lowering.proofs.lines.lower_own.Goals as goal
use Rattle.unit_lowering.proofs.lines.lower_own.Goals.{else-place-via-then-place+else-len-before, else-place-via-else-place}

pub returns-in_err-lower_statement-clause-refused : goal.returns-in_err-lower_statement-clause-refused
returns-in_err-lower_statement-clause-refused c = λ none.
    statement_refused c.args.table.now c.args.assigned.now _ c.args.statement.now.body c.args.steps.now.items c.lower_statement.new.steps.items c.lower_statement.result c.lower_statement.ensures
    (c.in_err-lower_statement.was ∙ sym (let e : c.from_residual.result ≡ Err c.in_err-lower_statement.field-0.0 = search rules in e) ∙ none)

pub returns-then-len-before-clause-added : goal.returns-then-len-before-clause-added
returns-then-len-before-clause-added c =
    then_ok _ _ c.add_step.result
    (λ put names told.
    own_passed c.args.once c.args.assigned.now names c.args.statement.now c.args.place.now c.args.steps.now.items c.lower_statement.new.steps.items c.add_step.new.steps.items
    (statement_added c.args.table.now c.args.assigned.now _ c.args.statement.now.body c.args.steps.now.items c.lower_statement.new.steps.items _ c.in_ok-lower_statement.ensures names told)
    c.if-place.true
    (sym c.lower_statement.new.steps.ok.0 ∙ sym c.len.ensures ∙ c.if-len-before.true ∙ c.len-before.ensures ∙ c.args.steps.now.ok.0) put)
    c.add_step.ensures.added

pub returns-else-place-clause-added : goal.returns-else-place-clause-added
returns-else-place-clause-added c = λ names told.
    own_alone c.args.once c.args.assigned.now names c.args.statement.now c.args.place.now c.args.steps.now.items c.lower_statement.new.steps.items
    (statement_added c.args.table.now c.args.assigned.now _ c.args.statement.now.body c.args.steps.now.items c.lower_statement.new.steps.items _ c.in_ok-lower_statement.ensures names told)
    (λ named same. elim c.else-place.branch [
      | else-place-via-then-place+else-len-before w ↦ w.if-len-before.false (w.len.ensures ∙ c.lower_statement.new.steps.ok.0 ∙ same ∙ sym c.args.steps.now.ok.0 ∙ sym c.len-before.ensures)
      | else-place-via-else-place w ↦ let off = w.if-place.false in cc
    ])
