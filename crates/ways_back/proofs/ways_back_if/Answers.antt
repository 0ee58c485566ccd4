use Rattle.ways_back.proofs.UnitWays.{ways_back_if}
use Rattle.ways_back.proofs.ways_back_if.Goals as goal

pub returns : goal.returns
returns c = ways_back_if
