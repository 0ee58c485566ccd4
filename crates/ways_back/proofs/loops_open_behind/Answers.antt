use Rattle.ways_back.proofs.UnitMarks.{loops_open_behind}
use Rattle.ways_back.proofs.loops_open_behind.Goals as goal

pub returns : goal.returns
returns c = loops_open_behind
