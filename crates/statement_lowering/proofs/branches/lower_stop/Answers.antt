use Rattle.std.specs.Prelude.{[], ◌∷◌}
use Rattle.std.proofs.Common.{subst}
use Rattle.f_tree.specs.Values.{Bytes}
use Rattle.lowered_tree.specs.l_core.Steps as act
use Rattle.statement_lowering.specs.StatementForms as form
use Rattle.statement_lowering.specs.StatementOutcomes.{IsAppended}
use Rattle.statement_lowering.proofs.Additions.{plain-outcome, memory-failed}
use Rattle.statement_lowering.proofs.StatementCodes.{code-stopping}
use Rattle.statement_lowering.proofs.branches.lower_stop.Goals as goal

pub returns-in-Ok : goal.returns-in-Ok
returns-in-Ok c =
    let around = c.args.around in
    plain-outcome c.args.table.now around (form.stopping c.args.text.now) (act.Halt c.args.text.now ∷ []) c.args.steps.now.items c.append.new.steps.items c.append.result
    (code-stopping around.once around.free around.room c.args.text.now)
    (subst (λ (text : Bytes). IsAppended (act.Halt text ∷ []) c.args.steps.now.items c.append.new.steps.items c.append.result) c.in-Ok.ensures c.append.ensures)

pub returns-in-Err : goal.returns-in-Err
returns-in-Err c = memory-failed c.args.table.now c.args.around _ (form.stopping c.args.text.now) c.args.steps.now.items c.args.steps.now.items
