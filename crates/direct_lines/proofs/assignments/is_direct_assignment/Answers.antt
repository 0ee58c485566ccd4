use Rattle.std.proofs.Common.{not, sym, ap, ◌∙◌}
use Rattle.direct_lines.proofs.ReferenceSteps.{defined-step, number-step, text-step}
use Rattle.direct_lines.proofs.assignments.is_direct_assignment.Goals as goal

pub returns-then-is_definition : goal.returns-then-is_definition
returns-then-is_definition c = defined-step c.args.unit.now c.args.table.now c.args.target.now c.requires (sym c.is_definition.ensures ∙ c.if-is_definition.true)

pub returns-then-not-is_text_target : goal.returns-then-not-is_text_target
returns-then-not-is_text_target c =
    ap not c.if-not-is_text_target.true
    ∙ number-step c.args.unit.now c.args.table.now c.args.target.now c.requires (sym c.is_definition.ensures ∙ c.if-is_definition.false) (sym c.is_text_target.ensures ∙ c.if-not-is_text_target.true)

pub returns-else-not-is_text_target : goal.returns-else-not-is_text_target
returns-else-not-is_text_target c =
    text-step c.args.unit.now c.args.table.now c.args.target.now c.len.result c.has_reference.result c.requires c.len.ensures (sym c.is_definition.ensures ∙ c.if-is_definition.false)
    (sym c.is_text_target.ensures ∙ c.if-not-is_text_target.false) c.has_reference.ensures
