use Rattle.placing_judge.specs.Walked.{IsFaultAt}
use Rattle.placing_judge.proofs.RowLaws.{IsWalk}
use Rattle.placing_judge.proofs.judge.rows.Given as goal

abbrev pub invariant-loop-at : goal.invariant-loop-at
invariant-loop-at l = record {
  walk : IsWalk l.unit l.at l.found.items;
  before : IsFaultAt l.unit l.at l.before;
}
