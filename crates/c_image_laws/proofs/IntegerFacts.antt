-- Facts of signed numbers and of numbers of 32 bits.
use Rattle.std.specs.Prelude.{◌≡◌, ℕ, ◌<◌, ◌≤◌, ℤ, pos, negsuc, ◌+ℤ◌, ◌-ℤ◌, neg_ℤ, nat_abs, unsigned_abs, int_lt, int_le, Bool, true, false, if◌then◌else◌}
use Rattle.std.proofs.Common.{refl, arith}
use Rattle.std.proofs.lemmas.Bool.{le-leb}
use Rattle.std.proofs.lemmas.Int.{ints}
use Rattle.c_laws.specs.c_tree.Values.{in_range}

-- a difference that is not negative
pub difference_up : (z l : ℤ) → int_le l z ≡ true → pos (nat_abs (z -ℤ l)) ≡ z -ℤ l
difference_up z l above = grind (arith, ints)

-- a dimension with an element has at least one
pub has_elements : (l z u : ℤ) → int_le l z ≡ true → int_le z u ≡ true → 1 ≤ nat_abs ((u -ℤ l) +ℤ pos 1)
has_elements l z u above below = grind (arith, ints)

pub small_in_range : (n : ℕ) → n < 2147483648 → in_range (pos n) ≡ true
small_in_range n small = le-leb n 2147483647 (omega (arith, small))

pub magnitude_is : (z : ℤ) → (if int_lt z (pos 0) then neg_ℤ z else z) ≡ pos (nat_abs z)
magnitude_is z = by (int_lt z (pos 0)) refl
  where
    by : (test : Bool) → int_lt z (pos 0) ≡ test → (if test then neg_ℤ z else z) ≡ pos (nat_abs z)
    by true less = grind (arith, ints)
    by false less = grind (arith, ints)

pub same_magnitude : (z : ℤ) → unsigned_abs z ≡ nat_abs z
same_magnitude (pos n) = refl
same_magnitude (negsuc n) = refl
