use Rattle.std.proofs.Common.{arith}
use Rattle.found_rows.proofs.Walks.{each_more, each_end}
use Rattle.reference_judge.specs.PassedFunctions.{passed_row, passed_from}
use Rattle.reference_judge.proofs.PassedLaws.{passed_step, passed_end}
use Rattle.reference_judge.proofs.functions.add_passed_rows.Goals as goal

pub loop-statement-preserved : goal.loop-statement-preserved
loop-statement-preserved c =
    let signs = c.args.signs.now in
    let names = c.args.names.now in
    each_more (passed_from signs names) (passed_row signs names) (passed_step signs names) c.args.statements.now c.loop-statement.statement-index c.statement-item.result _ _ _ _
    c.loop-statement-test.true c.statement-item.is c.loop-statement.invariant c.in_ok-add_passed_row.ensures

pub returns : goal.returns
returns c =
    let signs = c.args.signs.now in
    let names = c.args.names.now in
    each_end (passed_from signs names) (passed_row signs names) (passed_end signs names) c.args.statements.now c.loop-statement.statement-index _ _ (omega arith) c.loop-statement.invariant
