use Rattle.std.specs.Prelude.{[], Result}
use Rattle.std.proofs.Common.{refl, subst}
use Rattle.expression_lowering.specs.declared.answers.LowerError.{LowerError}
use Rattle.expression_lowering.specs.declared.purpose.Purpose.TheVariants.{ForUse}
use Rattle.expression_lowering.specs.declared.purpose.Aspect.TheVariants.{Value}
use Rattle.expression_lowering.specs.TableNames.{is_lowered_value}
use Rattle.statement_lowering.specs.StatementForms as form
use Rattle.statement_lowering.specs.StatementOutcomes.{within, IsOutcome}
use Rattle.statement_lowering.proofs.Additions.{as-lowered-for, as-lowered-form, inner-failed, condition-failed}
use Rattle.statement_lowering.proofs.AssignmentLaws.{guard-outcome}
use Rattle.statement_lowering.proofs.conditions.lower_guard.Goals as goal

pub returns-in-Err : goal.returns-in-Err
returns-in-Err c = λ lowers inner is.
    let under = c.args.under.items in
    inner-failed c.args.table.now c.args.around (within c.args.around) lowers (is_lowered_value c.args.table.now c.args.e.now) inner (form.guarding c.args.e.now inner) [] under
    c.args.steps.now.items c.in-Err.error
    (subst (λ (r : Result (Unit {0}) LowerError). IsOutcome c.args.table.now (within c.args.around) lowers inner [] under r) c.in-Err.is is)

pub returns-in-Ok-lower_value : goal.returns-in-Ok-lower_value
unfolding within
returns-in-Ok-lower_value c = λ lowers inner is.
    let T = c.args.table.now in
    let around = c.args.around in
    let e = c.args.e.now in
    let under = c.args.under.items in
    let before = c.args.steps.now.items in
    let mid = c.lower_value.new.steps.items in
    let condition = c.in-Ok-lower_value.condition in
    guard-outcome T around (within around) e lowers inner [] under before mid c.append_guard.new.steps.items condition c.append_guard.result refl refl refl refl
    (as-lowered-form T (within around) lowers inner [] under tt (subst (λ (r : Result (Unit {0}) LowerError). IsOutcome T (within around) lowers inner [] under r) c.in-Ok.is is))
    (as-lowered-for T Value ForUse around.free e before mid condition c.in-Ok-lower_value.ensures) c.append_guard.ensures

pub returns-in-Err-lower_value : goal.returns-in-Err-lower_value
returns-in-Err-lower_value c = λ lowers inner is.
    let T = c.args.table.now in
    let around = c.args.around in
    let e = c.args.e.now in
    let under = c.args.under.items in
    condition-failed T around (within around) lowers inner (form.guarding e inner) [] under Value ForUse around.free e c.args.steps.now.items c.lower_value.new.steps.items
    c.in-Err-lower_value.error
    (as-lowered-form T (within around) lowers inner [] under tt (subst (λ (r : Result (Unit {0}) LowerError). IsOutcome T (within around) lowers inner [] under r) c.in-Ok.is is))
    c.in-Err-lower_value.ensures
