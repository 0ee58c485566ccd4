use Rattle.std.proofs.Common.{sym, ap, ◌∙◌}
use Rattle.found_rows.proofs.Walks.{put_as}
use Rattle.f_tree.specs.declared.statements.Body.{Body}
use Rattle.f_tree.specs.Attributes.{arrays_of, definitions_in}
use Rattle.declaration_rows.specs.NameRows.{stood}
use Rattle.declaration_rows.specs.UndeclaredRows.{undeclared_in_definitions}
use Rattle.unit_names.proofs.RowLemmas.{definition_Assign, rows_other}
use Rattle.unit_names.proofs.definition_rows.add_statement_rows.Goals as goal

pub returns-in-Assign : goal.returns-in-Assign
returns-in-Assign c =
    let u = c.args.unit.now in
    put_as c.add_definition_rows.result _ _ _ _
    (ap (stood c.args.statement.now)
    (sym (definition_Assign u c.in-Assign.target c.in-Assign.field-1) ∙ ap (λ (b : Body). undeclared_in_definitions u (definitions_in (arrays_of u) b)) (sym c.in-Assign.is)))
    c.add_definition_rows.ensures

pub returns-in_default : goal.returns-in_default
returns-in_default c = rows_other c.args.unit.now c.args.statement.now _ c.in_default.not-Assign
