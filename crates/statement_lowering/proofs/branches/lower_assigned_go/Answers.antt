use Rattle.std.specs.Prelude.{◌∷◌, map}
use Rattle.lowered_tree.specs.l_core.Pures as core
use Rattle.lowered_tree.specs.l_core.Steps as act
use Rattle.lowering.specs.Statements.{each_once}
use Rattle.statement_lowering.specs.StatementForms as form
use Rattle.statement_lowering.proofs.Additions.{plain-outcome}
use Rattle.statement_lowering.proofs.StatementCodes.{code-going_assigned}
use Rattle.statement_lowering.proofs.branches.lower_assigned_go.Goals as goal

pub returns : goal.returns
returns c =
    let around = c.args.around in
    let x = c.args.name.now in
    let labels = c.args.labels.now in
    plain-outcome c.args.table.now around (form.going_assigned x labels) (act.JumpBy (core.Name x) (each_once labels) ∷ map act.Jump (each_once labels)) c.args.steps.now.items
    c.append_jump_by.new.steps.items c.append_jump_by.result (code-going_assigned around.once around.free around.room x labels) c.append_jump_by.ensures
