use Rattle.behind_bounds.proofs.ItemsBehind.{items_stand_behind}
use Rattle.behind_bounds.proofs.items_stand_behind.Goals as goal

pub returns : goal.returns
returns c = items_stand_behind
