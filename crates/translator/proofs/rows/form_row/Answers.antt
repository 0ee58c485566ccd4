use Rattle.std.proofs.Common.{sym, ◌∙◌}
use Rattle.translator.proofs.RowLemmas.{row_here, row_behind, row_at_end}
use Rattle.translator.proofs.rows.form_row.Goals as goal

pub returns-then-not-is_translated_form : goal.returns-then-not-is_translated_form
returns-then-not-is_translated_form c =
    row_here c.args.unit.now c.as_slice-statements.result.now c.loop-statement.statement-index c.statement-item.result _ c.row_at.result _ c.loop-statement-test.true c.statement-item.is
    (sym c.is_translated_form.ensures ∙ c.if-not-is_translated_form.true) c.row_at.ensures c.loop-statement.invariant

pub loop-statement-preserved : goal.loop-statement-preserved
loop-statement-preserved c =
    row_behind c.args.unit.now c.as_slice-statements.result.now c.loop-statement.statement-index c.statement-item.result _ _ c.loop-statement-test.true c.statement-item.is
    (sym c.is_translated_form.ensures ∙ c.if-not-is_translated_form.false) c.loop-statement.invariant

pub returns : goal.returns
returns c = row_at_end c.args.unit.now c.as_slice-statements.result.now c.loop-statement.statement-index c.row_at-2.result _ c.loop-statement-test.false c.row_at-2.ensures c.loop-statement.invariant
