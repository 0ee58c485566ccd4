use Rattle.std.proofs.Common.{◌++◌, [], List, refl, ap, ◌∙◌, append_assoc, arith}
use Rattle.found_rows.proofs.Walks.{walk_more, walk_end}
use Rattle.f_tree.specs.declared.statements.Stmt.{Stmt}
use Rattle.declaration_rows.specs.GivenRows.{Given, heading_rows, heading_givens, kept_from, given_rows_from}
use Rattle.given_judge.specs.KeptSeen.{statement_rows, kept_behind}
use Rattle.given_judge.proofs.KeptLemmas.{nothing_kept}
use Rattle.given_judge.proofs.RowForms.{given_rows_step, given_rows_end}
use Rattle.given_judge.proofs.given_rows.add_given_rows.Goals as goal

pub add_heading_row-requires : goal.add_heading_row-requires
add_heading_row-requires c = nothing_kept c.new-kept.result c.new-kept.ensures

pub loop-statement-init : goal.loop-statement-init
loop-statement-init c =
    record { before = (kept_from [] (heading_givens c.args.unit.now)).givens; is_kept = c.in_ok-add_heading_row.ensures.kept; rows = refl }

pub loop-statement-preserved : goal.loop-statement-preserved
loop-statement-preserved c =
    let u = c.args.unit.now in
    let inv = c.loop-statement.invariant in
    let s = c.statement-item.result in
    record {
      before = kept_behind u inv.before s;
      is_kept = c.in_ok-add_statement_row.ensures.kept inv.before inv.is_kept;
      rows = walk_more (given_rows_from u) (statement_rows u) (kept_behind u) (given_rows_step u) c.as_slice-statement-items.result.now c.loop-statement.statement-index s _ inv.before _ _ _ _
          c.loop-statement-test.true c.statement-item.is inv.rows (c.in_ok-add_statement_row.ensures.rows inv.before inv.is_kept) refl;
    }

pub returns : goal.returns
returns c =
    let u = c.args.unit.now in
    let inv = c.loop-statement.invariant in
    let found = c.args.found.now.items in
    let first : List Given = (kept_from [] (heading_givens u)).givens in
    walk_end (given_rows_from u) (statement_rows u) (kept_behind u) (given_rows_end u) c.as_slice-statement-items.result.now c.loop-statement.statement-index inv.before _ _ (omega arith) inv.rows
    ∙ ap (λ rs. rs ++ given_rows_from u first c.as_slice-statement-items.result.now) c.in_ok-add_heading_row.ensures.rows
    ∙ ap (λ (ss : List Stmt). (found ++ heading_rows u) ++ given_rows_from u first ss) c.as_slice-statement-items.ensures
    ∙ append_assoc found (heading_rows u) (given_rows_from u first u.statements)
