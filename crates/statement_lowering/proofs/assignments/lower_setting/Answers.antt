use Rattle.std.specs.Prelude.{◌≡◌, true, false}
use Rattle.std.proofs.Common.{ap, ◌∙◌, rules}
use Rattle.lowering.specs.Expressions as low
use Rattle.expression_lowering.specs.declared.purpose.Purpose.TheVariants.{ForUse}
use Rattle.expression_lowering.specs.declared.purpose.Aspect.TheVariants.{Value, Actual}
use Rattle.expression_lowering.specs.TableNames.{is_lowered_value}
use Rattle.expression_lowering.proofs.CoveredForms.{and-left, and-right}
use Rattle.statement_lowering.specs.StatementForms as form
use Rattle.statement_lowering.specs.LoweredStatements.{both_lower}
use Rattle.statement_lowering.proofs.Additions.{lowered-failed, not-lowered, as-lowered-for}
use Rattle.statement_lowering.proofs.AssignmentLaws.{set-outcome, both-is}
use Rattle.statement_lowering.proofs.assignments.lower_setting.Goals as goal

pub returns-then-not-both_lower : goal.returns-then-not-both_lower
returns-then-not-both_lower c =
    let said = c.both_lower.ensures in
    let tested = c.if-not-both_lower.true in
    let refused : both_lower c.args.table.now c.args.e.now c.args.target.now ≡ false = first_of (cc (said, tested), search rules) in
    not-lowered c.args.table.now c.args.around (both_lower c.args.table.now c.args.e.now c.args.target.now) (form.setting c.args.target.now c.args.e.now) c.args.steps.now.items refused

pub has_reference-requires : goal.has_reference-requires
has_reference-requires c =
    let said = c.both_lower.ensures in
    let tested = c.if-not-both_lower.false in
    let both : both_lower c.args.table.now c.args.e.now c.args.target.now ≡ true = first_of (cc (said, tested), search rules) in
    and-right (is_lowered_value c.args.table.now c.args.e.now) (is_lowered_value c.args.table.now c.args.target.now) (both-is c.args.table.now c.args.target.now c.args.e.now ∙ both)

pub returns-in-Err : goal.returns-in-Err
returns-in-Err c =
    let said = c.both_lower.ensures in
    let tested = c.if-not-both_lower.false in
    let both : both_lower c.args.table.now c.args.e.now c.args.target.now ≡ true = first_of (cc (said, tested), search rules) in
    lowered-failed c.args.table.now c.args.around (both_lower c.args.table.now c.args.e.now c.args.target.now) (form.setting c.args.target.now c.args.e.now) Value _ _ c.args.e.now
    c.args.steps.now.items _ _ _ c.in-Err.error
    (and-left (is_lowered_value c.args.table.now c.args.e.now) (is_lowered_value c.args.table.now c.args.target.now) (both-is c.args.table.now c.args.target.now c.args.e.now ∙ both)) c.in-Err.ensures

pub returns-in-Err-lower_actual : goal.returns-in-Err-lower_actual
returns-in-Err-lower_actual c =
    let said = c.both_lower.ensures in
    let tested = c.if-not-both_lower.false in
    let both : both_lower c.args.table.now c.args.e.now c.args.target.now ≡ true = first_of (cc (said, tested), search rules) in
    lowered-failed c.args.table.now c.args.around (both_lower c.args.table.now c.args.e.now c.args.target.now) (form.setting c.args.target.now c.args.e.now) Actual _ _ c.args.target.now
    c.args.steps.now.items _ _ _ c.in-Err-lower_actual.error
    (and-right (is_lowered_value c.args.table.now c.args.e.now) (is_lowered_value c.args.table.now c.args.target.now) (both-is c.args.table.now c.args.target.now c.args.e.now ∙ both))
    c.in-Err-lower_actual.ensures

pub returns-in-Ok-lower_actual : goal.returns-in-Ok-lower_actual
returns-in-Ok-lower_actual c =
    let T = c.args.table.now in
    let said = c.both_lower.ensures in
    let tested = c.if-not-both_lower.false in
    let both : both_lower c.args.table.now c.args.e.now c.args.target.now ≡ true = first_of (cc (said, tested), search rules) in
    let before = c.args.steps.now.items in
    let mid = c.lower_value.new.steps.items in
    let later = c.lower_actual.new.steps.items in
    let value = c.in-Ok.value in
    let place = c.in-Ok-lower_actual.place in
    let q = c.ahead-purpose.result in
    set-outcome T c.args.around q c.args.target.now c.args.e.now before mid later c.append.new.steps.items value place c.append.result both
    (λ names told. c.ahead-purpose.ensures ∙ ap (low.ahead low.ForUse) (c.has_reference.ensures names told))
    (as-lowered-for T Value q c.args.around.free c.args.e.now before mid value c.in-Ok.ensures)
    (as-lowered-for T Actual ForUse value.free c.args.target.now mid later place c.in-Ok-lower_actual.ensures) c.append.ensures
