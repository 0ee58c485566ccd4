use Rattle.std.proofs.Common.{length, arith, ap}
use Rattle.std.proofs.lemmas.Result.{IfOk-weaker}
use Rattle.placing_judge.proofs.RowLaws.{rows_settled}
use Rattle.placing_judge.proofs.judge.all_rows.Goals as goal

pub fault_at-requires-clause-front : goal.fault_at-requires-clause-front
fault_at-requires-clause-front c = let e = ap length c.as_slice-statements.ensures in omega arith

pub returns-in-Nothing : goal.returns-in-Nothing
returns-in-Nothing c =
    IfOk-weaker c.settled_rows.result _ _
    (λ found settled. rows_settled c.args.unit.now (length c.as_slice-statements.result.now) _ found.items c.in-Nothing.is (ap length c.as_slice-statements.ensures)
    c.in_ok-fault_at.ensures settled)
    c.settled_rows.ensures
