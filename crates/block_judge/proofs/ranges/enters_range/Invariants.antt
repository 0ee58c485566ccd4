use Rattle.block_judge.specs.Arms.{places_to}
use Rattle.block_judge.specs.Ranges.{Comes}
use Rattle.block_judge.proofs.ranges.enters_range.Given as goal

abbrev pub invariant-loop-range : goal.invariant-loop-range
invariant-loop-range l = Comes l.ends l.from l.to l.range

abbrev pub decreases-loop-range : goal.decreases-loop-range
decreases-loop-range l = places_to l.range
