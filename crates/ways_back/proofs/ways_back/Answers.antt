use Rattle.ways_back.proofs.UnitWays.{ways_back}
use Rattle.ways_back.proofs.ways_back.Goals as goal

pub returns : goal.returns
returns c = ways_back
