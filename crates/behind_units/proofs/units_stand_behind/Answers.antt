use Rattle.behind_units.proofs.UnitsBehind.{units_stand_behind}
use Rattle.behind_units.proofs.units_stand_behind.Goals as goal

pub returns : goal.returns
returns c = units_stand_behind
