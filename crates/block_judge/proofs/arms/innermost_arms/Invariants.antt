use Rattle.std.proofs.Common.{◌≡◌, length}
use Rattle.block_judge.specs.Arms.{IsWithin, AreNumbered, AreArms}
use Rattle.block_judge.proofs.ArmLemmas.{Reaches}
use Rattle.block_judge.proofs.arms.innermost_arms.Given as goal

abbrev pub invariant-loop-place : goal.invariant-loop-place
invariant-loop-place l = record {
  count : length l.arms.items ≡ l.place;
  numbered : AreNumbered l.arms.items;
  known : AreArms l.statements l.arms.items;
  within : IsWithin l.inner l.place;
  reaches : Reaches l.statements l.place l.inner;
}
