use Rattle.std.proofs.Common.{◌≡◌, ◌≤◌, ℕ, length, drop, nat_eq}
use Rattle.std.specs.HashMap.{get_by}
use Rattle.text_behind.proofs.BehindLemmas.{noted}
use Rattle.text_behind.proofs.labels.labels_behind.Given as goal

abbrev pub invariant-loop-place : goal.invariant-loop-place
invariant-loop-place l = record {
  within : l.place ≤ length l.labels.entries;
  noted : (q : ℕ) → get_by (nat_eq q) l.found ≡ noted l.first q (drop l.place l.labels.entries);
}

abbrev pub decreases-loop-place : goal.decreases-loop-place
decreases-loop-place l = l.place
