use Rattle.std.specs.Prelude.{None}
use Rattle.std.proofs.Common.{refl}
use Rattle.expression_lowering.specs.TableNames.{is_lowered_value}
use Rattle.statement_lowering.specs.StatementForms as form
use Rattle.statement_lowering.proofs.Additions.{by-form}
use Rattle.statement_lowering.proofs.StatementCodes.{code-while}
use Rattle.statement_lowering.proofs.conditions.lower_while.Goals as goal

pub returns : goal.returns
returns c =
    let around = c.args.around in
    let lowers = is_lowered_value c.args.table.now c.args.e.now in
    by-form c.args.table.now around lowers lowers (form.entering c.args.e.now) (form.testing None c.args.e.now) c.args.steps.now.items c.lower_arm.new.steps.items c.lower_arm.result refl
    (code-while around.once around.free around.room None c.args.e.now) c.lower_arm.ensures
