use Rattle.std.proofs.Common.{List, ◌<◌, ◌≤◌, length, get_or, ap, subst, ◌∙◌}
use Rattle.found_rows.proofs.Walks.{each_more, each_end}
use Rattle.f_tree.specs.declared.statements.Stmt.{Stmt}
use Rattle.f_tree.specs.Attributes.{arrays_of, definitions_in}
use Rattle.declaration_rows.specs.NameRows.{stood}
use Rattle.declaration_rows.specs.UndeclaredRows.{undeclared_in_definitions, undeclared_definition_rows}
use Rattle.unit_names.proofs.RowLemmas.{definitions_step, definitions_none}
use Rattle.unit_names.proofs.definition_rows.add_definitions_rows.Goals as goal

pub loop-statement-preserved : goal.loop-statement-preserved
loop-statement-preserved c =
    let u = c.args.unit.now in
    let i = c.loop-statement.statement-index in
    let s = c.statement-item.result in
    let h = subst (λ (ts : List Stmt). i < length ts) c.as_slice-statement-items.ensures c.loop-statement-test.true in
    let is = c.statement-item.is ∙ ap (λ (ts : List Stmt). get_or ts i s) c.as_slice-statement-items.ensures in
    each_more (undeclared_definition_rows u) (λ (t : Stmt). stood t (undeclared_in_definitions u (definitions_in (arrays_of u) t.body))) (λ t ts. definitions_step u t ts) u.statements i s s _ _ _ h is
    c.loop-statement.invariant c.in_ok-add_statement_rows.ensures

pub returns : goal.returns
returns c =
    let u = c.args.unit.now in
    let h = subst (λ (ts : List Stmt). length ts ≤ c.loop-statement.statement-index) c.as_slice-statement-items.ensures c.loop-statement-test.false in
    each_end (undeclared_definition_rows u) (λ (t : Stmt). stood t (undeclared_in_definitions u (definitions_in (arrays_of u) t.body))) (definitions_none u) u.statements
    c.loop-statement.statement-index _ _ h c.loop-statement.invariant
