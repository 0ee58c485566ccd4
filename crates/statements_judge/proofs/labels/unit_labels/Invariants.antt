use Rattle.std.proofs.Common.{◌≡◌, ℕ, ◌-◌, nat_eq, length, drop}
use Rattle.std.specs.HashSet.{contains}
use Rattle.statements_judge.specs.UnitLabels.{is_entered, has_format}
use Rattle.statements_judge.proofs.labels.unit_labels.Given as goal

abbrev pub invariant-loop-behind : goal.invariant-loop-behind
invariant-loop-behind l = record {
  branches : (q : ℕ) → contains nat_eq l.branches q ≡ is_entered (drop (length l.statements - l.behind) l.statements) q;
  formats : (q : ℕ) → contains nat_eq l.formats q ≡ has_format (drop (length l.statements - l.behind) l.statements) q;
}
