use Rattle.placing_judge.proofs.RowLaws.{fault_told}
use Rattle.placing_judge.proofs.faults.fault_at.Goals as goal

pub returns : goal.returns
returns c = fault_told c.args.unit.now c.args.front _ c.fault_of.result c.fault_of.ensures c.in_ok-standing.ensures
