use Rattle.std.proofs.Common.{◌≡◌, length}
use Rattle.loop_ranges.specs.OpenRanges.{innermost_first, without_ended}
use Rattle.loop_ranges.proofs.crossing.forget_ended.Given as goal

abbrev pub invariant-loop-open_ranges : goal.invariant-loop-open_ranges
invariant-loop-open_ranges l = without_ended l.place (innermost_first l.open_ranges.items) ≡ without_ended l.place (innermost_first l.initial.open_ranges.items)

abbrev pub decreases-loop-open_ranges : goal.decreases-loop-open_ranges
decreases-loop-open_ranges l = length l.open_ranges.items
