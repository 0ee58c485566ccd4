use Rattle.behind_bounds.proofs.StepsBehind.{steps_stand_behind}
use Rattle.behind_bounds.proofs.steps_stand_behind.Goals as goal

pub returns : goal.returns
returns c = steps_stand_behind
