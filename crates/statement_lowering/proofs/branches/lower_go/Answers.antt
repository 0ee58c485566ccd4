use Rattle.std.specs.Prelude.{[], ◌∷◌}
use Rattle.lowered_tree.specs.l_core.Steps as act
use Rattle.statement_lowering.specs.StatementForms as form
use Rattle.statement_lowering.proofs.Additions.{plain-outcome}
use Rattle.statement_lowering.proofs.StatementCodes.{code-going}
use Rattle.statement_lowering.proofs.branches.lower_go.Goals as goal

pub returns : goal.returns
returns c =
    let around = c.args.around in
    plain-outcome c.args.table.now around (form.going c.args.label) (act.Jump c.args.label ∷ []) c.args.steps.now.items c.append.new.steps.items c.append.result
    (code-going around.once around.free around.room c.args.label) c.append.ensures
