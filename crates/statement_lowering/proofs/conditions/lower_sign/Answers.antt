use Rattle.std.specs.Prelude.{[], ◌∷◌, pos}
use Rattle.f_tree.specs.Values.{IsInt}
use Rattle.f_tree.specs.Terms.{IsLess, IsEqual}
use Rattle.lowered_tree.specs.l_core.Pures as core
use Rattle.lowered_tree.specs.l_core.Steps as act
use Rattle.lowering.specs.Statements.{sign_code}
use Rattle.lowered_tree.specs.Shapes.{pure_of}
use Rattle.expression_lowering.specs.declared.purpose.Purpose.TheVariants.{ForLater}
use Rattle.expression_lowering.specs.declared.purpose.Aspect.TheVariants.{Value}
use Rattle.statement_lowering.specs.StatementForms as form
use Rattle.statement_lowering.proofs.Additions.{one-outcome, value-failed, as-lowered-for}
use Rattle.statement_lowering.proofs.StatementCodes.{code-going_by_sign, closes-sign}
use Rattle.statement_lowering.proofs.conditions.lower_sign.Goals as goal

pub returns-in-Ok : goal.returns-in-Ok
returns-in-Ok c =
    let T = c.args.table.now in
    let around = c.args.around in
    let e = c.args.e.now in
    let before = c.args.steps.now.items in
    let mid = c.lower_value.new.steps.items in
    let number = c.in-Ok.number in
    let p = pure_of number.value in
    one-outcome T around ForLater e (form.going_by_sign e c.args.below c.args.at c.args.above) (sign_code c.args.below c.args.at c.args.above)
    (act.Unless (core.Operated IsLess p (core.Constant (IsInt (pos 0)))) 1 ∷ act.Jump c.args.below ∷ act.Unless (core.Operated IsEqual p (core.Constant (IsInt (pos 0)))) 1
    ∷ act.Jump c.args.at ∷ act.Jump c.args.above ∷ [])
    before mid c.append_branches.new.steps.items number c.append_branches.result
    (λ names told. code-going_by_sign around.once around.free around.room e c.args.below c.args.at c.args.above names)
    (as-lowered-for T Value ForLater around.free e before mid number c.in-Ok.ensures) (closes-sign c.args.below c.args.at c.args.above p) c.append_branches.ensures

pub returns-in-Err : goal.returns-in-Err
returns-in-Err c =
    value-failed c.args.table.now c.args.around (form.going_by_sign c.args.e.now c.args.below c.args.at c.args.above) Value ForLater c.args.around.free c.args.e.now
    c.args.steps.now.items c.lower_value.new.steps.items c.in-Err.error c.in-Err.ensures
