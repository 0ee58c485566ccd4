-- The bit functions, as the code computes them.
use Rattle.std.proofs.Common.{◌≡◌, ℕ, suc, ◌*◌, ◌/◌, ◌%◌, ◌^◌, ◌≤◌, ◌<◌, ℤ, pos, negsuc, true, false, Option, Some, None, if◌then◌else◌, refl, ap, sym, ◌∙◌, arith, ◌≢◌}
use Rattle.std.specs.Prelude.{◌<ℤ◌, nat_le, nat_lt, nat_eq, SomeIff}
use Rattle.std.specs.Int.{w32, int_shl, cast_signed, cast_unsigned}
use Rattle.std.proofs.lemmas.Bool.Decides.{nat_tests}
use Rattle.std.proofs.lemmas.Int.{ints}
use Rattle.run_state.specs.Bits.{shifted, bit_at, has_bit}

le-true : (n : ℕ) → n ≤ 32 → nat_le n 32 ≡ true
le-true n h = grind (arith, nat_tests)

le-false : (n : ℕ) → 32 < n → nat_le n 32 ≡ false
le-false n h = grind (arith, nat_tests)

lt-true : (n : ℕ) → n < 32 → nat_lt n 32 ≡ true
lt-true n h = grind (arith, nat_tests)

lt-false : (n : ℕ) → (n < 32 → ⊥) → nat_lt n 32 ≡ false
lt-false n h = grind (arith, nat_tests)

all-gone : (n : ℕ) → (n * 2 ^ 32) % 2 ^ 32 ≡ 0
all-gone n = omega arith

-- all bits leave by a shift to the left by 32
pub left-all : (z : ℤ) (n : ℕ) → n ≡ 32 → shifted z (pos n) ≡ Some (pos 0)
unfolding shifted
left-all z n h = ap (λ k. if nat_le k 32 then Some (int_shl w32 z k) else None) h ∙ ap (λ m. Some (cast_signed w32 m)) (all-gone (cast_unsigned w32 z))

pub left-some : (z : ℤ) (n : ℕ) (o : Option ℤ) → SomeIff o (n < 32) (int_shl w32 z n) → n ≢ 32 → o ≡ shifted z (pos n)
unfolding shifted
left-some z n None h k = sym (ap (λ b. if b then Some (int_shl w32 z n) else None) (le-false n (omega arith)))
left-some z n (Some x) h k = ap Some h.1 ∙ sym (ap (λ b. if b then Some (int_shl w32 z n) else None) (le-true n (omega arith)))

pub ruleset left_laws = (left-all, left-some)

pub right-some : (z : ℤ) (n : ℕ) → n < 32 → shifted z (negsuc n) ≡ Some (cast_signed w32 (cast_unsigned w32 z / 2 ^ suc n))
unfolding shifted
right-some z n h = ap (λ b. if b then Some (cast_signed w32 (cast_unsigned w32 z / 2 ^ suc n)) else None) (lt-true n h)

pub right-none : (z : ℤ) (n : ℕ) → 32 ≤ n → shifted z (negsuc n) ≡ None
unfolding shifted
right-none z n h = ap (λ b. if b then Some (cast_signed w32 (cast_unsigned w32 z / 2 ^ suc n)) else None) (lt-false n (omega arith))

pub ruleset right_laws = (right-some, right-none)

pub place-is : (n : ℕ) (o : Option ℤ) → SomeIff o (n < 32) (int_shl w32 (pos 1) n) → o ≡ bit_at (pos n)
unfolding bit_at
place-is n None h = sym (ap (λ b. if b then Some (int_shl w32 (pos 1) n) else None) (lt-false n h))
place-is n (Some x) h = ap Some h.1 ∙ sym (ap (λ b. if b then Some (int_shl w32 (pos 1) n) else None) (lt-true n h.0))

pub ruleset place_laws = (place-is)

pub test-some : (z : ℤ) (n : ℕ) → n < 32 → has_bit z (pos n) ≡ Some (nat_eq (cast_unsigned w32 z / 2 ^ n % 2) 1)
unfolding has_bit
test-some z n h = ap (λ b. if b then Some (nat_eq (cast_unsigned w32 z / 2 ^ n % 2) 1) else None) (lt-true n h)

pub test-none : (z : ℤ) (n : ℕ) → 32 ≤ n → has_bit z (pos n) ≡ None
unfolding has_bit
test-none z n h = ap (λ b. if b then Some (nat_eq (cast_unsigned w32 z / 2 ^ n % 2) 1) else None) (lt-false n (omega arith))

pub ruleset test_laws = (test-some, test-none)

not-below : (m : ℕ) → pos m <ℤ pos 0 → ⊥
not-below m h = omega (arith, ints)

pub no-bit-below : (z : ℤ) → z <ℤ pos 0 → None ≡ bit_at z
unfolding bit_at
no-bit-below (pos m) h = absurd (not-below m h)
no-bit-below (negsuc m) h = refl

pub no-test-below : (a z : ℤ) → z <ℤ pos 0 → None ≡ has_bit a z
unfolding has_bit
no-test-below a (pos m) h = absurd (not-below m h)
no-test-below a (negsuc m) h = refl
