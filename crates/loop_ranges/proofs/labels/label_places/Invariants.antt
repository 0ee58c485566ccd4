use Rattle.std.proofs.Common.{◌≡◌, ℕ, drop}
use Rattle.f_tree.specs.Attributes.{first_of_two}
use Rattle.name_table.specs.Named.{labelled}
use Rattle.loop_ranges.specs.LoopEnds.{labelled_at}
use Rattle.loop_ranges.proofs.labels.label_places.Given as goal

abbrev pub invariant-loop-place : goal.invariant-loop-place
invariant-loop-place l = (q : ℕ) → first_of_two (labelled l.places q) (labelled_at l.place (drop l.place l.statements) q) ≡ labelled_at 0 l.statements q
