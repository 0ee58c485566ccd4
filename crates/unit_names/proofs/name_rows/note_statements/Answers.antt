use Rattle.std.proofs.Common.{List, ◌++◌, ◌<◌, ◌≤◌, length, get_or, ap, subst, ◌∙◌}
use Rattle.f_tree.specs.declared.statements.Stmt.{Stmt}
use Rattle.f_tree.specs.declared.refusals.Refusal.{Refusal}
use Rattle.name_table.specs.Named.{names_in}
use Rattle.unit_names.proofs.RowLemmas.{statements_step, statements_rest, statements_over}
use Rattle.unit_names.proofs.name_rows.note_statements.Goals as goal

pub loop-statement-preserved : goal.loop-statement-preserved
loop-statement-preserved c =
    let u = c.args.unit.now in
    let i = c.loop-statement.statement-index in
    let s = c.statement-item.result in
    let known = c.loop-statement.invariant in
    let noted = c.in_ok-note_statement.ensures in
    let h = subst (λ (ts : List Stmt). i < length ts) c.as_slice-statement-items.ensures c.loop-statement-test.true in
    let is = c.statement-item.is ∙ ap (λ (ts : List Stmt). get_or ts i s) c.as_slice-statement-items.ensures in
    record {
      is_set = noted.seen.is_set;
      rows = statements_step u _ _ s _ _ _ _ noted.seen
          (known.rows ∙ ap (λ (rs : List Refusal). c.loop-statement.found.items ++ rs) (statements_rest u (names_in c.loop-statement.seen) u.statements i s s h is)) noted.rows;
    }

pub returns : goal.returns
returns c =
    let h = subst (λ (ts : List Stmt). length ts ≤ c.loop-statement.statement-index) c.as_slice-statement-items.ensures c.loop-statement-test.false in
    statements_over c.args.unit.now (names_in c.loop-statement.seen) c.args.unit.now.statements c.loop-statement.statement-index _ _ h c.loop-statement.invariant.rows
