-- What the start, an item or the end of a transfer comes to, and OPEN and its kin: told of what all procedures share
-- alone, so that it does not matter where the statement stands. ANSI X3.9-1978, sections 12.6 to 12.10.
use Rattle.std.specs.Prelude.{ℕ, ℤ}
use Rattle.f_tree.specs.Values.{Act}
use Rattle.f_tree.specs.World.{World}

pub data Course : Type 0 where
  -- the transfer goes on: the rest of its list follows
  Further : World → Course
  -- the statement is done: the next one follows
  IsDone : World → Course
  -- control goes to the label of ERR or END
  Branches : ℕ → World → Course
  -- the run ends with a number that no control word asks for
  StopsWith : ℤ → World → Course
  -- an act of which nothing is said
  NotSaid : Act → Course
