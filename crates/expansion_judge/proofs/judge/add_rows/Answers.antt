use Rattle.std.proofs.Common.{arith}
use Rattle.found_rows.proofs.Walks.{each_more, each_end}
use Rattle.expansion_judge.specs.NodesCounted.{statement_rows, rows_by}
use Rattle.expansion_judge.proofs.CountForms.{rows_step, rows_end}
use Rattle.expansion_judge.proofs.judge.add_rows.Goals as goal

pub loop-statement-preserved : goal.loop-statement-preserved
loop-statement-preserved c =
    let t = c.args.functions.now in
    each_more (rows_by t) (statement_rows t) (rows_step t) c.args.statements.now c.loop-statement.statement-index c.statement-item.result _ _ _ _ c.loop-statement-test.true
    c.statement-item.is c.loop-statement.invariant c.in_ok-add_statement_row.ensures

pub returns : goal.returns
returns c =
    let t = c.args.functions.now in
    each_end (rows_by t) (statement_rows t) (rows_end t) c.args.statements.now c.loop-statement.statement-index _ _ (omega arith) c.loop-statement.invariant
