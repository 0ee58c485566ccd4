use Rattle.std.proofs.Common.{◌≡◌, ◌++◌, take, drop}
use Rattle.found_rows.specs.declaration_rows.UnitRows.{crossing_rows}
use Rattle.loop_ranges.specs.OpenRanges.{ranges_at, AreRanges}
use Rattle.loop_ranges.proofs.crossing.add_range_rows.Given as goal

abbrev pub invariant-loop-place : goal.invariant-loop-place
invariant-loop-place l = record {
  ranges : AreRanges (take l.place l.ends) l.place l.ranges;
  rows : l.initial.found.items ++ crossing_rows (ranges_at 0 l.ends) 0 l.statements ≡ l.found.items ++ crossing_rows (ranges_at 0 l.ends) l.place (drop l.place l.statements);
}
