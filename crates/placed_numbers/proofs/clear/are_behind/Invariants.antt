use Rattle.std.proofs.Common.{◌≡◌, ◌<◌, ℕ, false}
use Rattle.offset_classes.specs.Forest.{place_at}
use Rattle.placed_numbers.specs.Owned.{stands_before}
use Rattle.placed_numbers.proofs.clear.are_behind.Given as goal

abbrev pub invariant-loop-place : goal.invariant-loop-place
invariant-loop-place l = (y : ℕ) → y < l.place-index → stands_before l.places l.owners (place_at l.places y) ≡ false
