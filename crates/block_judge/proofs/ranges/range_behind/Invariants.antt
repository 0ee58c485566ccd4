use Rattle.std.proofs.Common.{◌≡◌, ◌≤◌, ◌+◌}
use Rattle.block_judge.specs.Arms.{places_to}
use Rattle.block_judge.specs.Ranges.{innermost}
use Rattle.block_judge.proofs.ranges.range_behind.Given as goal

abbrev pub invariant-loop-range : goal.invariant-loop-range
invariant-loop-range l = record {
  within : places_to l.range ≤ l.place + 1;
  known : innermost l.ends (l.place + 1) (places_to l.range) ≡ innermost l.ends (l.place + 1) (l.place + 1);
}

abbrev pub decreases-loop-range : goal.decreases-loop-range
decreases-loop-range l = places_to l.range
