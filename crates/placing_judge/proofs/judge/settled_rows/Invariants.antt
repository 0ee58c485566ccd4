use Rattle.placing_judge.proofs.RowLaws.{IsSettledWalk}
use Rattle.placing_judge.proofs.judge.settled_rows.Given as goal

abbrev pub invariant-loop-at : goal.invariant-loop-at
invariant-loop-at l = IsSettledWalk l.unit l.at l.found.items
