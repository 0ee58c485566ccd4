-- Results of 32 bits (C89, 3.3.3 to 3.3.6).
use Rattle.std.specs.Prelude.{◌≡◌, ℕ, zero, suc, ◌<◌, ◌^◌, ℤ, pos, negsuc, neg_ℤ, unsigned_abs, int_lt, int_div, int_rem, FitsSigned, SomeIff, true, false, Option, Some, None, Ok, if◌then◌else◌}
use Rattle.std.specs.Int.{w32, CanDivide, cast_unsigned}
use Rattle.std.specs.Ordering.{int_eq}
use Rattle.std.proofs.Common.{refl, ap, sym, ◌∙◌, arith}
use Rattle.std.proofs.lemmas.Bool.Decides.{nat_tests}
use Rattle.std.proofs.lemmas.Int.{ints}
use Rattle.c_tree.specs.declared.outcome.CValue.TheVariants.{Number}
use Rattle.c_tree.specs.declared.outcome.CFault.TheVariants.{Overflow, ZeroDivide}
use Rattle.c_tree.specs.Faults.{after, failing}
use Rattle.c_tree.specs.Objects.{plain}
use Rattle.c_tree.specs.Values.{in_range, checked, quotient, remainder, magnitude}
use Rattle.term_values.specs.Numbers.{or_overflow}

fits : (z : ℤ) → FitsSigned w32 z → in_range z ≡ true
fits (pos n) h = grind (arith, nat_tests)
fits (negsuc n) h = grind (arith, nat_tests)

past : (z : ℤ) → (FitsSigned w32 z → ⊥) → in_range z ≡ false
past (pos n) h = grind (arith, nat_tests)
past (negsuc n) h = grind (arith, nat_tests)

pub checked-fits : (z : ℤ) → FitsSigned w32 z → checked z ≡ Ok (plain (Number z))
checked-fits z h = ap (λ small. if small then Ok (plain (Number z)) else failing Overflow) (fits z h)

pub checked-past : (z : ℤ) → (FitsSigned w32 z → ⊥) → checked z ≡ failing Overflow
checked-past z h = ap (λ small. if small then Ok (plain (Number z)) else failing Overflow) (past z h)

-- a result, or none where it does not have 32 bits
pub checked-is : (found : Option ℤ) (z : ℤ) → SomeIff found (FitsSigned w32 z) z → or_overflow found ≡ checked z
checked-is None z h = sym (checked-past z h)
checked-is (Some n) z h = ap (λ number. Ok (plain (Number number))) h.1 ∙ sym (checked-fits z h.0)

no_zero : (b : ℤ) → (b ≡ pos 0 → ⊥) → int_eq b (pos 0) ≡ false
no_zero b h = grind (arith, ints, nat_tests)

has_bits : (b : ℤ) → (b ≡ pos 0 → ⊥) → FitsSigned w32 b → 0 < cast_unsigned w32 b
has_bits (pos zero) h f = absurd (h refl)
has_bits (pos (suc n)) h f = omega arith
has_bits (negsuc n) h f = omega arith

divides : (found : Option ℤ) (bits : ℕ) (a z : ℤ) → 0 < bits → SomeIff found ((0 < bits) × FitsSigned w32 a) z → SomeIff found (FitsSigned w32 a) z
divides None bits a z h k = λ f. k (h, f)
divides (Some n) bits a z h k = (k.0.1, k.1)

pub quotient-is : (found : Option ℤ) (a b : ℤ) → SomeIff found (CanDivide w32 a b) (int_div a b) → FitsSigned w32 b → (b ≡ pos 0 → ⊥) → or_overflow found ≡ quotient a b
quotient-is found a b h f no0 =
    checked-is found (int_div a b) (divides found (cast_unsigned w32 b) (int_div a b) (int_div a b) (has_bits b no0 f) h)
    ∙ sym (ap (λ test. if test then failing ZeroDivide else checked (int_div a b)) (no_zero b no0))

remainder_of : (found : Option ℤ) (q r : ℤ) → SomeIff found (FitsSigned w32 q) r → or_overflow found ≡ after (checked q) (λ done. Ok (plain (Number r)))
remainder_of None q r h = sym (ap (λ found. after found (λ done. Ok (plain (Number r)))) (checked-past q h))
remainder_of (Some n) q r h =
    ap (λ number. Ok (plain (Number number))) h.1 ∙ sym (ap (λ found. after found (λ done. Ok (plain (Number r)))) (checked-fits q h.0))

pub remainder-is : (found : Option ℤ) (a b : ℤ) → SomeIff found (CanDivide w32 a b) (int_rem a b) → FitsSigned w32 b → (b ≡ pos 0 → ⊥) → or_overflow found ≡ remainder a b
remainder-is found a b h f no0 =
    remainder_of found (int_div a b) (int_rem a b) (divides found (cast_unsigned w32 b) (int_div a b) (int_rem a b) (has_bits b no0 f) h)
    ∙ sym (ap (λ test. after (if test then failing ZeroDivide else checked (int_div a b)) (λ done. Ok (plain (Number (int_rem a b))))) (no_zero b no0))

-- a divisor of 0
pub quotient-zero : (a b : ℤ) → b ≡ pos 0 → failing ZeroDivide ≡ quotient a b
quotient-zero a b h = sym (ap (quotient a) h)

pub remainder-zero : (a b : ℤ) → b ≡ pos 0 → failing ZeroDivide ≡ remainder a b
remainder-zero a b h = sym (ap (remainder a) h)

fits-other_sign : (n : ℕ) → n < 2 ^ 31 → FitsSigned w32 (neg_ℤ (pos n))
fits-other_sign zero h = record { sfits = omega arith }
fits-other_sign (suc n) h = record { sfits = omega arith }

not_below : (n : ℕ) → int_lt (pos n) (pos 0) ≡ false
not_below n = grind (arith, nat_tests)

whole : (found : Option ℤ) (n : ℕ) → SomeIff found (FitsSigned w32 (neg_ℤ (pos n))) (pos n) → FitsSigned w32 (pos n) → or_overflow found ≡ checked (pos n)
whole None n h f = absurd (h (fits-other_sign n f.sfits))
whole (Some m) n h f = ap (λ number. Ok (plain (Number number))) h.1 ∙ sym (checked-fits (pos n) f)

pub magnitude-is : (found : Option ℤ) (z : ℤ) → SomeIff found (FitsSigned w32 (neg_ℤ z)) (pos (unsigned_abs z)) → FitsSigned w32 z → or_overflow found ≡ magnitude z
magnitude-is found (pos n) h f = whole found n h f ∙ sym (ap (λ below. checked (if below then neg_ℤ (pos n) else pos n)) (not_below n))
magnitude-is found (negsuc n) h f = checked-is found (pos (suc n)) h

pub ruleset checked_laws = (checked-is, quotient-is, remainder-is, quotient-zero, remainder-zero, magnitude-is)
