use Rattle.std.specs.Prelude.{[], ◌∷◌}
use Rattle.std.proofs.Common.{subst}
use Rattle.lowered_tree.specs.l_core.Pures as core
use Rattle.lowered_tree.specs.l_core.Steps as act
use Rattle.statement_lowering.specs.StatementForms as form
use Rattle.statement_lowering.specs.StatementOutcomes.{IsAppended}
use Rattle.statement_lowering.proofs.Additions.{plain-outcome, memory-failed}
use Rattle.statement_lowering.proofs.StatementCodes.{code-assigning_label}
use Rattle.statement_lowering.proofs.assignments.lower_label_assignment.Goals as goal

pub returns-in-Ok : goal.returns-in-Ok
returns-in-Ok c =
    let around = c.args.around in
    let x = c.args.name.now in
    let label = c.args.label in
    let before = c.args.steps.now.items in
    let after = c.append.new.steps.items in
    plain-outcome c.args.table.now around (form.assigning_label label x) (act.PutLabel (core.Name x) label ∷ []) before after c.append.result
    (code-assigning_label around.once around.free around.room label x)
    (subst (λ (step : act.Step). IsAppended (step ∷ []) before after c.append.result) c.in-Ok.ensures c.append.ensures)

pub returns-in-Err : goal.returns-in-Err
returns-in-Err c = memory-failed c.args.table.now c.args.around _ (form.assigning_label c.args.label c.args.name.now) c.args.steps.now.items c.args.steps.now.items
