use Rattle.std.proofs.Common.{sym, ◌∙◌}
use Rattle.direct_lines.proofs.Expansions.{assigns-Assign, assigns-other}
use Rattle.direct_lines.proofs.definitions.assigns_with_list.Goals as goal

pub returns-in-Assign : goal.returns-in-Assign
returns-in-Assign c = c.is_applied.ensures ∙ sym (assigns-Assign c.args.name.now c.args.statement.now c.in-Assign.target c.in-Assign.field-1 c.in-Assign.is)

pub returns-in_default : goal.returns-in_default
returns-in_default c = sym (assigns-other c.args.name.now c.args.statement.now c.in_default.not-Assign)
