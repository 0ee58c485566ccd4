use Rattle.std.proofs.Common.{◌≡◌, List, length, nat_eq}
use Rattle.std.specs.List.{list_any}
use Rattle.f_tree.specs.declared.statements.Stmt.{Stmt}
use Rattle.block_judge.specs.Arms.{arms_in, with_arm, IsWithin, AreArms, places_to}
use Rattle.block_judge.proofs.arms.stands_in_arm.Given as goal

abbrev pub invariant-loop-inner : goal.invariant-loop-inner
invariant-loop-inner l = record {
  within : IsWithin l.inner (length l.arms);
  known : (ss : List Stmt) → AreArms ss l.arms → list_any (nat_eq l.arm) (arms_in ss l.place) ≡ list_any (nat_eq l.arm) (with_arm ss l.inner);
}

abbrev pub decreases-loop-inner : goal.decreases-loop-inner
decreases-loop-inner l = places_to l.inner
