use Rattle.std.proofs.Common.{◌≡◌, ◌++◌, drop, map}
use Rattle.loop_entries.specs.LoopRanges.{range_of, ranges_to}
use Rattle.loop_entries.proofs.ranges.ranges_between.Given as goal

abbrev pub invariant-loop-place : goal.invariant-loop-place
invariant-loop-place l = ranges_to 0 l.ends ≡ map range_of l.ranges.items ++ ranges_to l.place (drop l.place l.ends)
