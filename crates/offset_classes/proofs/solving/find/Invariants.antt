use Rattle.std.proofs.Common.{◌<◌, ◌≤◌, ◌-◌, ◌^◌, length, ℕ, ℤ, ◌+ℤ◌, nat_abs}
use Rattle.offset_classes.specs.Forest.{Rises, node_at}
use Rattle.offset_classes.proofs.solving.find.Given as goal

abbrev pub invariant-loop-root : goal.invariant-loop-root
invariant-loop-root l = record {
  inside : l.root < length l.nodes;
  near : nat_abs l.offset ≤ 2 ^ 61;
  way : (c : ℤ) (r : ℕ) → Rises l.nodes l.root c r → Rises l.nodes l.fn.number (c +ℤ l.offset) r;
}

abbrev pub decreases-loop-root : goal.decreases-loop-root
decreases-loop-root l = l.height - (node_at l.nodes l.root).rank
