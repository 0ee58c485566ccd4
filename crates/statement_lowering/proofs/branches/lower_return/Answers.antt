use Rattle.std.specs.Prelude.{true, [], ◌∷◌, Some, None}
use Rattle.std.proofs.Common.{ap}
use Rattle.lowered_tree.specs.l_core.Steps as act
use Rattle.expression_lowering.specs.TableNames.{is_lowered_value}
use Rattle.statement_lowering.specs.StatementForms as form
use Rattle.statement_lowering.specs.LoweredStatements.{optional_lowers}
use Rattle.statement_lowering.proofs.Additions.{by-equation, plain-outcome}
use Rattle.statement_lowering.proofs.StatementCodes.{code-answering}
use Rattle.statement_lowering.proofs.branches.lower_return.Goals as goal

pub returns-in-None : goal.returns-in-None
unfolding optional_lowers
returns-in-None c =
    let T = c.args.table.now in
    let around = c.args.around in
    by-equation T around true (optional_lowers T c.args.e.now) (form.returning None) (form.returning c.args.e.now) c.args.steps.now.items c.append.new.steps.items c.append.result
    (ap (optional_lowers T) c.in-None.is) (ap form.returning c.in-None.is)
    (plain-outcome T around (form.returning None) (act.Back ∷ []) c.args.steps.now.items c.append.new.steps.items c.append.result
    (code-answering around.once around.free around.room) c.append.ensures)

pub returns-in-Some : goal.returns-in-Some
unfolding optional_lowers
returns-in-Some c =
    let T = c.args.table.now in
    by-equation T c.args.around (is_lowered_value T c.in-Some.e) (optional_lowers T c.args.e.now) (form.returning (Some c.in-Some.e)) (form.returning c.args.e.now) c.args.steps.now.items
    c.lower_answer.new.steps.items c.lower_answer.result (ap (optional_lowers T) c.in-Some.is) (ap form.returning c.in-Some.is) c.lower_answer.ensures
