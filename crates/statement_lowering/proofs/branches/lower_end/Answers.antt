use Rattle.std.specs.Prelude.{[], ◌∷◌}
use Rattle.lowered_tree.specs.l_core.Steps as act
use Rattle.statement_lowering.specs.StatementForms as form
use Rattle.statement_lowering.proofs.Additions.{plain-outcome}
use Rattle.statement_lowering.proofs.StatementCodes.{code-ending}
use Rattle.statement_lowering.proofs.branches.lower_end.Goals as goal

pub returns : goal.returns
returns c =
    let around = c.args.around in
    plain-outcome c.args.table.now around form.ending (act.Back ∷ []) c.args.steps.now.items c.append.new.steps.items c.append.result
    (code-ending around.once around.free around.room) c.append.ensures
