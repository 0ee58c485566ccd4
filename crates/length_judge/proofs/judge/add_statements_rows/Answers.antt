use Rattle.std.proofs.Common.{arith}
use Rattle.found_rows.proofs.Walks.{each_more, each_end}
use Rattle.declaration_rows.specs.LengthRows.{length_rows_from}
use Rattle.length_judge.specs.FaultsSeen.{statement_rows}
use Rattle.length_judge.proofs.FaultForms.{rows_step, rows_end}
use Rattle.length_judge.proofs.judge.add_statements_rows.Goals as goal

pub loop-statement-preserved : goal.loop-statement-preserved
loop-statement-preserved c =
    let u = c.args.unit.now in
    each_more (length_rows_from u) (statement_rows u) (rows_step u) c.args.statements.now c.loop-statement.statement-index c.statement-item.result _ _ _ _ c.loop-statement-test.true
    c.statement-item.is c.loop-statement.invariant c.in_ok-add_statement_rows.ensures

pub returns : goal.returns
returns c =
    let u = c.args.unit.now in
    each_end (length_rows_from u) (statement_rows u) (rows_end u) c.args.statements.now c.loop-statement.statement-index _ _ (omega arith) c.loop-statement.invariant
