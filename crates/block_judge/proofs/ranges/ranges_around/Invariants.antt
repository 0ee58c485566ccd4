use Rattle.std.proofs.Common.{◌≡◌, length}
use Rattle.block_judge.specs.Ranges.{innermost, AreAround}
use Rattle.block_judge.proofs.ranges.ranges_around.Given as goal

abbrev pub invariant-loop-place : goal.invariant-loop-place
invariant-loop-place l = record {
  count : length l.around.items ≡ l.place;
  known : AreAround l.ends l.around.items;
  next : l.range ≡ innermost l.ends l.place l.place;
}
