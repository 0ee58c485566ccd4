-- Numbers of 32 bits with their sign turned.
use Rattle.std.proofs.Common.{◌≡◌, sym, ap, ◌∙◌, subst, ℕ, zero, suc, ◌<◌, ◌≤◌, ℤ, pos, arith}
use Rattle.std.specs.Prelude.{◌-ℤ◌, neg_ℤ, FitsSigned}
use Rattle.std.specs.Int.{w32, cast_signed, cast_unsigned}
use Rattle.std.proofs.lemmas.Int.{ints, to_z_pos, to_z-of_z}
use Rattle.c_readers.specs.ValueReader.{negative}

pub fits-plain : (n : ℕ) → n ≤ 2147483647 → FitsSigned w32 (pos n)
fits-plain n h = let k : n < 2147483648 = omega arith in record { sfits = k }

fits-negative : (n : ℕ) → n ≤ 2147483647 → FitsSigned w32 (negative n)
fits-negative zero h = fits-plain 0 h
fits-negative (suc n) h = let k : n < 2147483648 = omega arith in record { sfits = k }

zero-minus : (z : ℤ) → (pos 0 -ℤ z) ≡ neg_ℤ z
zero-minus z = grind (arith, ints)

turned : (n : ℕ) → (pos 0 -ℤ pos n) ≡ negative n
turned zero = zero-minus (pos 0)
turned (suc n) = zero-minus (pos (suc n))

pub turned-cast : (n : ℕ) → n ≤ 2147483647 → (pos 0 -ℤ cast_signed w32 n) ≡ negative n
turned-cast n h = let k : n < 2147483648 = omega arith in ap (λ z. pos 0 -ℤ z) (to_z_pos w32 n k) ∙ turned n

pub fits-turned : (n : ℕ) → n ≤ 2147483647 → FitsSigned w32 (pos 0 -ℤ cast_signed w32 n)
fits-turned n h = subst (λ z. FitsSigned w32 z) (sym (turned-cast n h)) (fits-negative n h)

pub kept-turned : (n : ℕ) → n ≤ 2147483647 → cast_signed w32 (cast_unsigned w32 (pos 0 -ℤ cast_signed w32 n)) ≡ negative n
kept-turned n h = to_z-of_z w32 (pos 0 -ℤ cast_signed w32 n) (fits-turned n h) ∙ turned-cast n h
