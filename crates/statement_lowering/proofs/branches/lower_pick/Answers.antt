use Rattle.std.specs.Prelude.{◌∷◌, length, map}
use Rattle.lowered_tree.specs.l_core.Steps as act
use Rattle.lowering.specs.Statements.{select_code}
use Rattle.lowered_tree.specs.Shapes.{pure_of}
use Rattle.expression_lowering.specs.declared.purpose.Purpose.TheVariants.{ForUse}
use Rattle.expression_lowering.specs.declared.purpose.Aspect.TheVariants.{Value}
use Rattle.statement_lowering.specs.StatementForms as form
use Rattle.statement_lowering.proofs.Additions.{one-outcome, value-failed, as-lowered-for}
use Rattle.statement_lowering.proofs.StatementCodes.{code-picking, closes-select}
use Rattle.statement_lowering.proofs.branches.lower_pick.Goals as goal

pub returns-in-Ok : goal.returns-in-Ok
returns-in-Ok c =
    let T = c.args.table.now in
    let around = c.args.around in
    let e = c.args.e.now in
    let labels = c.args.labels.now in
    let before = c.args.steps.now.items in
    let mid = c.lower_value.new.steps.items in
    let after = c.append_select.new.steps.items in
    let number = c.in-Ok.number in
    one-outcome T around ForUse e (form.picking labels e) (select_code labels) (act.Select (pure_of number.value) (length labels) ∷ map act.Jump labels) before mid after number
    c.append_select.result (λ names told. code-picking around.once around.free around.room labels e names) (as-lowered-for T Value ForUse around.free e before mid number c.in-Ok.ensures)
    (closes-select labels (pure_of number.value)) c.append_select.ensures

pub returns-in-Err : goal.returns-in-Err
returns-in-Err c =
    value-failed c.args.table.now c.args.around (form.picking c.args.labels.now c.args.e.now) Value ForUse c.args.around.free c.args.e.now c.args.steps.now.items
    c.lower_value.new.steps.items c.in-Err.error c.in-Err.ensures
