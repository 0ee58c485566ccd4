use Rattle.std.proofs.Common.{arith}
use Rattle.found_rows.proofs.Walks.{each_more, each_end}
use Rattle.f_tree.specs.declared.statements.Stmt.{Stmt}
use Rattle.declaration_rows.specs.NameRows.{stood}
use Rattle.format_judge.specs.FormatsFound.{body_found, rows_found}
use Rattle.format_judge.proofs.FormatForms.{rows_step, rows_end}
use Rattle.format_judge.proofs.judge.add_rows.Goals as goal

pub loop-statement-preserved : goal.loop-statement-preserved
loop-statement-preserved c =
    let names = c.args.names.now in
    each_more (rows_found names) (λ (s : Stmt). stood s (body_found names s.body)) (rows_step names) c.args.statements.now c.loop-statement.statement-index c.statement-item.result
    _ _ _ _ c.loop-statement-test.true c.statement-item.is c.loop-statement.invariant c.in_ok-add_body_rows.ensures

pub returns : goal.returns
returns c =
    let names = c.args.names.now in
    each_end (rows_found names) (λ (s : Stmt). stood s (body_found names s.body)) (rows_end names) c.args.statements.now c.loop-statement.statement-index _ _ (omega arith)
    c.loop-statement.invariant
