use Rattle.std.proofs.Common.{◌≡◌, ℕ, nat_eq}
use Rattle.std.specs.HashMap.{get_by}
use Rattle.unit_lowering.specs.LabelStarts.{label_start}
use Rattle.unit_lowering.proofs.labels.label_starts.Given as goal

abbrev pub invariant-loop-at : goal.invariant-loop-at
invariant-loop-at l = (q : ℕ) → get_by (nat_eq q) l.labels ≡ label_start q l.statements l.places l.at
