use Rattle.std.specs.Prelude.{[], ◌∷◌, Some}
use Rattle.lowered_tree.specs.l_core.Steps as act
use Rattle.lowering.specs.Statements.{back_code}
use Rattle.lowered_tree.specs.Shapes.{pure_of}
use Rattle.expression_lowering.specs.declared.purpose.Purpose.TheVariants.{ForUse}
use Rattle.expression_lowering.specs.declared.purpose.Aspect.TheVariants.{Value}
use Rattle.statement_lowering.specs.StatementForms as form
use Rattle.statement_lowering.proofs.Additions.{one-outcome, value-failed, as-lowered-for}
use Rattle.statement_lowering.proofs.StatementCodes.{code-returning, closes-back}
use Rattle.statement_lowering.proofs.branches.lower_answer.Goals as goal

pub returns-in-Ok : goal.returns-in-Ok
returns-in-Ok c =
    let T = c.args.table.now in
    let around = c.args.around in
    let e = c.args.e.now in
    let before = c.args.steps.now.items in
    let mid = c.lower_value.new.steps.items in
    let number = c.in-Ok.number in
    one-outcome T around ForUse e (form.returning (Some e)) back_code (act.BackBy (pure_of number.value) ∷ []) before mid c.append.new.steps.items number c.append.result
    (λ names told. code-returning around.once around.free around.room e names)
    (as-lowered-for T Value ForUse around.free e before mid number c.in-Ok.ensures) (closes-back (pure_of number.value)) c.append.ensures

pub returns-in-Err : goal.returns-in-Err
returns-in-Err c =
    value-failed c.args.table.now c.args.around (form.returning (Some c.args.e.now)) Value ForUse c.args.around.free c.args.e.now c.args.steps.now.items
    c.lower_value.new.steps.items c.in-Err.error c.in-Err.ensures
