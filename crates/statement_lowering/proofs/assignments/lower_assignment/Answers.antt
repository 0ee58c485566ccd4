use Rattle.std.proofs.Common.{sym, ◌∙◌}
use Rattle.statement_lowering.specs.StatementForms as form
use Rattle.statement_lowering.specs.LoweredStatements.{assignment_lowers}
use Rattle.statement_lowering.proofs.Additions.{not-lowered, lowered-outcome}
use Rattle.statement_lowering.proofs.AssignmentLaws.{definition-lowered, text-refused, assignment-set}
use Rattle.statement_lowering.proofs.assignments.lower_assignment.Goals as goal

pub returns-then-is_definition : goal.returns-then-is_definition
returns-then-is_definition c =
    let T = c.args.table.now in
    lowered-outcome T c.args.around (assignment_lowers T c.args.target.now c.args.e.now) (form.assigning c.args.target.now c.args.e.now) c.args.steps.now.items c.args.steps.now.items tt
    (definition-lowered T c.args.around c.args.target.now c.args.e.now c.args.steps.now.items (sym c.is_definition.ensures ∙ c.if-is_definition.true))

pub returns-then-is_text_target : goal.returns-then-is_text_target
returns-then-is_text_target c =
    let T = c.args.table.now in
    not-lowered T c.args.around (assignment_lowers T c.args.target.now c.args.e.now) (form.assigning c.args.target.now c.args.e.now) c.args.steps.now.items
    (text-refused T c.args.target.now c.args.e.now (sym c.is_definition.ensures ∙ c.if-is_definition.false) (sym c.is_text_target.ensures ∙ c.if-is_text_target.true))

pub returns : goal.returns
returns c =
    let T = c.args.table.now in
    assignment-set T c.args.around c.args.target.now c.args.e.now c.args.steps.now.items c.lower_setting.new.steps.items c.lower_setting.result
    (sym c.is_definition.ensures ∙ c.if-is_definition.false) (sym c.is_text_target.ensures ∙ c.if-is_text_target.false) c.lower_setting.ensures
