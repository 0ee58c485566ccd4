use Rattle.std.proofs.Common.{◌≡◌, ℕ, drop, nat_eq, ◌||◌, is_some}
use Rattle.std.specs.List.{list_any}
use Rattle.name_table.specs.Named.{labelled}
use Rattle.statement_places.proofs.labels.label_set.Given as goal

abbrev pub invariant-loop-label : goal.invariant-loop-label
invariant-loop-label l = (n : ℕ) → (is_some (labelled l.set n) || list_any (nat_eq n) (drop l.label-index l.labels)) ≡ list_any (nat_eq n) l.labels
