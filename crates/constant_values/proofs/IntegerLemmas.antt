-- Numbers that fit 32 bits, as the code tests them and as the definitions do.
use Rattle.std.proofs.Common.{true≢false, ◌≡◌, ℕ, zero, suc, ◌*◌, ◌-◌, ◌/◌, ◌%◌, ◌<◌, ◌^◌, ℤ, pos, negsuc, Bool, true, false, ◌&&◌, Option, Some, None, if◌then◌else◌, refl, ap, sym, ◌∙◌, arith}
use Rattle.std.specs.Prelude.{◌<ℤ◌, ◌≤ℤ◌, is_some, option_map, nat_abs, neg_ℤ, ◌*ℤ◌, int_lt, int_div, int_rem, nat_le, FitsSigned, SomeIff, cond, ◌==◌}
use Rattle.std.specs.Ordering.{int_eq}
use Rattle.std.specs.Int.{w32, cast_signed, cast_unsigned, CanDivide, IsNonZero, int_pow}
use Rattle.std.proofs.lemmas.Int.{ints, to_z-of_z}
use Rattle.std.proofs.Math.Nat.{pow-suc, pow-zero, div-eq_of_lt}
use Rattle.std.proofs.lemmas.Bool.Decides.{nat_tests}
use Rattle.f_tree.specs.Values.{Datum, IsInt, Gives, Fails, Overflow, ZeroDivide, in_range, checked, given_that}
use Rattle.f_tree.specs.Valuing as valuing
use Rattle.constant_values.specs.Folded.{given}

small : (n : ℕ) → n < 2147483648 → nat_le n 2147483647 ≡ true
small n h = grind (arith, nat_tests)

large : (n : ℕ) → (n < 2147483648 → ⊥) → nat_le n 2147483647 ≡ false
large n h = grind (arith, nat_tests)

and-true : (b : Bool) → (b && true) ≡ b
and-true true = refl
and-true false = refl

fits-range : (z : ℤ) → FitsSigned w32 z → in_range z ≡ true
unfolding in_range
fits-range (pos n) h = small n h.sfits
fits-range (negsuc n) h = and-true (nat_le n 2147483647) ∙ small n h.sfits

unfit-range : (z : ℤ) → (FitsSigned w32 z → ⊥) → in_range z ≡ false
unfolding in_range
unfit-range (pos n) h = large n (λ k. h (record { sfits = k }))
unfit-range (negsuc n) h = and-true (nat_le n 2147483647) ∙ large n (λ k. h (record { sfits = k }))

given-by : (z : ℤ) (c : Bool) → given (if c then Gives (IsInt z) else Fails Overflow) ≡ (if c then Some (IsInt z) else None)
unfolding given
given-by z true = refl
given-by z false = refl

given-checked : (z : ℤ) (b : Bool) → in_range z ≡ b → given (checked z) ≡ (if b then Some (IsInt z) else None)
unfolding checked
given-checked z b h = given-by z (in_range z) ∙ ap (λ c. if c then Some (IsInt z) else None) h

pub fitting : (o : Option ℤ) (z : ℤ) → SomeIff o (FitsSigned w32 z) z → option_map IsInt o ≡ given (checked z)
fitting None z h = sym (given-checked z false (unfit-range z h))
fitting (Some x) z h = ap (λ y. Some (IsInt y)) h.1 ∙ sym (given-checked z true (fits-range z h.0))

other-by : (z y : ℤ) (c : Bool) → given (given_that (if c then Gives (IsInt z) else Fails Overflow) (λ q. Gives (IsInt y))) ≡ (if c then Some (IsInt y) else None)
unfolding given given_that
other-by z y true = refl
other-by z y false = refl

-- another value in place of the number that has to fit
pub fitting_other : (o : Option ℤ) (z y : ℤ) → SomeIff o (FitsSigned w32 z) y → option_map IsInt o ≡ given (given_that (checked z) (λ q. Gives (IsInt y)))
unfolding checked
fitting_other None z y h = sym (other-by z y (in_range z) ∙ ap (λ c. if c then Some (IsInt y) else None) (unfit-range z h))
fitting_other (Some x) z y h = ap (λ v. Some (IsInt v)) h.1 ∙ sym (other-by z y (in_range z) ∙ ap (λ c. if c then Some (IsInt y) else None) (fits-range z h.0))

divisor : (b : ℤ) → FitsSigned w32 b → int_eq b (pos 0) ≡ false → IsNonZero w32 b
divisor (pos zero) h e = absurd (true≢false e)
divisor (pos (suc n)) h e = omega arith
divisor (negsuc n) h e = let k : n < 2147483648 = h.sfits in omega arith

int-other : (n : ℕ) → 0 < n → int_eq (pos n) (pos 0) ≡ false
int-other n h = grind (arith, nat_tests)

zero-divisor : (b : ℤ) → int_eq b (pos 0) ≡ true → IsNonZero w32 b → ⊥
zero-divisor (pos zero) e h = omega arith
zero-divisor (pos (suc n)) e h = absurd (true≢false (sym e ∙ int-other (suc n) (omega arith)))
zero-divisor (negsuc n) e h = absurd (true≢false (sym e))

without : (o : Option ℤ) (P Q : Type 0) (v : ℤ) → P → SomeIff o (P × Q) v → SomeIff o Q v
without None P Q v p h = λ q. h (p, q)
without (Some x) P Q v p h = (h.0.1, h.1)

never : (o : Option ℤ) (P Q : Type 0) (v : ℤ) → (P → ⊥) → SomeIff o (P × Q) v → option_map IsInt o ≡ None
never None P Q v p h = refl
never (Some x) P Q v p h = absurd (p h.0.0)

pub dividing : (o : Option ℤ) (a b : ℤ) → FitsSigned w32 b → SomeIff o (CanDivide w32 a b) (int_div a b) → option_map IsInt o ≡ given (valuing.divided a b)
unfolding Rattle.f_tree.specs.Valuing.divided given
dividing o a b f h = by (int_eq b (pos 0)) refl
  where
    by : (c : Bool) → int_eq b (pos 0) ≡ c → option_map IsInt o ≡ given (if c then Fails ZeroDivide else checked (int_div a b))
    by true e = never o (IsNonZero w32 b) (FitsSigned w32 (int_div a b)) (int_div a b) (zero-divisor b e) h
    by false e = fitting o (int_div a b) (without o (IsNonZero w32 b) (FitsSigned w32 (int_div a b)) (int_div a b) (divisor b f e) h)

pub remaining : (o : Option ℤ) (a b : ℤ) → FitsSigned w32 b → SomeIff o (CanDivide w32 a b) (int_rem a b) → option_map IsInt o ≡ given (valuing.remainder_of a b)
unfolding Rattle.f_tree.specs.Valuing.remainder_of given
remaining o a b f h = by (int_eq b (pos 0)) refl
  where
    by : (c : Bool) → int_eq b (pos 0) ≡ c → option_map IsInt o ≡ given (if c then Fails ZeroDivide else given_that (checked (int_div a b)) (λ q. Gives (IsInt (int_rem a b))))
    by true e = never o (IsNonZero w32 b) (FitsSigned w32 (int_div a b)) (int_rem a b) (zero-divisor b e) h
    by false e = fitting_other o (int_div a b) (int_rem a b) (without o (IsNonZero w32 b) (FitsSigned w32 (int_div a b)) (int_rem a b) (divisor b f e) h)

-- POWERS
even-odd : (n : ℕ) → (n % 2 == 0) ≡ true → (suc n % 2 == 0) ≡ false
even-odd n h = grind (arith, nat_tests)

odd-even : (n : ℕ) → (n % 2 == 0) ≡ false → (suc n % 2 == 0) ≡ true
odd-even n h = grind (arith, nat_tests)

turned : (p a : ℕ) → neg_ℤ (pos p) *ℤ negsuc a ≡ pos (p * suc a)
turned zero a = let e : zero * suc a ≡ zero = omega arith in ap (λ m. neg_ℤ (pos m)) e ∙ sym (ap pos e)
turned (suc p) a = refl

negative-step : (a n : ℕ) (b : Bool) → (n % 2 == 0) ≡ b → cond b (pos (suc a ^ n)) (neg_ℤ (pos (suc a ^ n))) *ℤ negsuc a ≡ int_pow (negsuc a) (suc n)
negative-step a n true h =
    ap (λ p. neg_ℤ (pos p)) (sym (pow-suc (suc a) n)) ∙ sym (ap (λ c. cond c (pos (suc a ^ suc n)) (neg_ℤ (pos (suc a ^ suc n)))) (even-odd n h))
negative-step a n false h =
    turned (suc a ^ n) a ∙ ap pos (sym (pow-suc (suc a) n)) ∙ sym (ap (λ c. cond c (pos (suc a ^ suc n)) (neg_ℤ (pos (suc a ^ suc n)))) (odd-even n h))

pub power-is : (a : ℤ) (n : ℕ) → valuing.power_of a n ≡ int_pow a n
unfolding Rattle.f_tree.specs.Valuing.power_of
power-is (pos a) zero = ap pos (sym (pow-zero a))
power-is (pos a) (suc n) = ap (λ z. z *ℤ pos a) (power-is (pos a) n) ∙ ap pos (sym (pow-suc a n))
power-is (negsuc a) zero = ap pos (sym (pow-zero (suc a)))
power-is (negsuc a) (suc n) = ap (λ z. z *ℤ negsuc a) (power-is (negsuc a) n) ∙ negative-step a n (n % 2 == 0) refl

pub powering : (o : Option ℤ) (a : ℤ) (n : ℕ) → SomeIff o (FitsSigned w32 (int_pow a n)) (int_pow a n) → option_map IsInt o ≡ given (checked (valuing.power_of a n))
powering o a n h = fitting o (int_pow a n) h ∙ ap (λ z. given (checked z)) (sym (power-is a n))

-- 1 over a number that does not fit is 0
under-one : (n : ℕ) → 1 < n → 1 / n ≡ 0
under-one n h = div-eq_of_lt h

pub inverse-unfit : (p : ℤ) → (FitsSigned w32 p → ⊥) → given (valuing.inverse_of p) ≡ Some (IsInt (pos 0))
unfolding Rattle.f_tree.specs.Valuing.inverse_of Rattle.f_tree.specs.Valuing.divided in_range
inverse-unfit (pos zero) h = absurd (h (record { sfits = omega arith }))
inverse-unfit (pos (suc n)) h =
    let big : (suc n < 2147483648 → ⊥) = λ k. h (record { sfits = k }) in
    ap (λ c. given (if c then Fails ZeroDivide else checked (int_div (pos 1) (pos (suc n))))) (int-other (suc n) (omega arith))
    ∙ ap (λ q. given (checked (pos q))) (under-one (suc n) (omega arith))
    ∙ given-checked (pos 0) true refl
inverse-unfit (negsuc n) h =
    let big : (n < 2147483648 → ⊥) = λ k. h (record { sfits = k }) in
    ap (λ q. given (checked (neg_ℤ (pos q)))) (under-one (suc n) (omega arith))
    ∙ given-checked (pos 0) true refl

checked-cases : (z p : ℤ) (b : Bool) → in_range z ≡ b → Some (IsInt p) ≡ (if b then Some (IsInt z) else None) → p ≡ z
checked-cases z p true e h = number (ap in_some h)
  where
    in_some : Option Datum → Datum
    in_some (Some d) = d
    in_some None = IsInt (pos 0)

    in_int : Datum → ℤ
    in_int (IsInt y) = y
    in_int _ = pos 0

    number : IsInt p ≡ IsInt z → p ≡ z
    number k = ap in_int k
checked-cases z p false e h = absurd (some-none h)
  where
    some-none : Some (IsInt p) ≡ None → ⊥
    some-none k = true≢false (ap is_some k)

pub inverse-some : (z p : ℤ) → Some (IsInt p) ≡ given (checked z) → given (valuing.inverse_of z) ≡ given (valuing.divided (pos 1) p)
unfolding Rattle.f_tree.specs.Valuing.inverse_of
inverse-some z p h = ap (λ y. given (valuing.divided (pos 1) y)) (sym (checked-cases z p (in_range z) refl (h ∙ given-checked z (in_range z) refl)))

none-unfit : (z : ℤ) → None ≡ given (checked z) → FitsSigned w32 z → ⊥
none-unfit z h f = true≢false (sym (ap is_some (h ∙ given-checked z true (fits-range z f))))

pub inverse-none : (z : ℤ) → None ≡ given (checked z) → given (valuing.inverse_of z) ≡ Some (IsInt (pos 0))
inverse-none z h = inverse-unfit z (none-unfit z h)

pub ruleset inverse_laws = (inverse-some, inverse-none)

-- NUMBERS BY THEIR SIGNS
below-from : (z : ℤ) → int_lt z (pos 0) ≡ true → z <ℤ pos 0
below-from z h = grind (arith, ints)

above-from : (z : ℤ) → int_lt z (pos 0) ≡ false → pos 0 ≤ℤ z
above-from z h = grind (arith, ints)

-- a sign as the code tests it
pub is-below : (z : ℤ) → FitsSigned w32 z → int_lt (cast_signed w32 (cast_unsigned w32 z)) (pos 0) ≡ true → z <ℤ pos 0
is-below z f h = below-from z (sym (ap (λ y. int_lt y (pos 0)) (to_z-of_z w32 z f)) ∙ h)

pub is-above : (z : ℤ) → FitsSigned w32 z → int_lt (cast_signed w32 (cast_unsigned w32 z)) (pos 0) ≡ false → pos 0 ≤ℤ z
is-above z f h = above-from z (sym (ap (λ y. int_lt y (pos 0)) (to_z-of_z w32 z f)) ∙ h)

pub below-is : (z : ℤ) (n : ℕ) → z <ℤ pos 0 → n ≡ nat_abs z → negsuc (n - 1) ≡ z
below-is (pos m) n h e = absurd (not-below m h)
  where
    not-below : (m : ℕ) → pos m <ℤ pos 0 → ⊥
    not-below m h = omega (arith, ints)
below-is (negsuc m) n h e = ap negsuc (let k : n - 1 ≡ m = omega arith in k)

pub above-is : (z : ℤ) (n : ℕ) → pos 0 ≤ℤ z → n ≡ nat_abs z → pos n ≡ z
above-is (pos m) n h e = ap pos e
above-is (negsuc m) n h e = absurd (not-above m h)
  where
    not-above : (m : ℕ) → pos 0 ≤ℤ negsuc m → ⊥
    not-above m h = omega (arith, ints)

suc-less : (n m : ℕ) → n ≡ suc m → suc (n - 1) ≡ n
suc-less n m h = omega arith

pub raised-below : (a b : ℤ) (n : ℕ) → b <ℤ pos 0 → n ≡ nat_abs b → valuing.inverse_of (valuing.power_of a n) ≡ valuing.raised a b
unfolding Rattle.f_tree.specs.Valuing.raised
raised-below a (pos m) n h e = absurd (not-below m h)
  where
    not-below : (m : ℕ) → pos m <ℤ pos 0 → ⊥
    not-below m h = omega (arith, ints)
raised-below a (negsuc m) n h e = ap (λ k. valuing.inverse_of (valuing.power_of a k)) e

pub raised-above : (a b : ℤ) (n : ℕ) → pos 0 ≤ℤ b → n ≡ nat_abs b → checked (valuing.power_of a n) ≡ valuing.raised a b
unfolding Rattle.f_tree.specs.Valuing.raised
raised-above a (pos m) n h e = ap (λ k. checked (valuing.power_of a k)) e
raised-above a (negsuc m) n h e = absurd (not-above m h)
  where
    not-above : (m : ℕ) → pos 0 ≤ℤ negsuc m → ⊥
    not-above m h = omega (arith, ints)

below-test : (b : ℤ) → b <ℤ pos 0 → int_lt b (pos 0) ≡ true
below-test b h = grind (arith, ints)

above-test : (b : ℤ) → pos 0 ≤ℤ b → int_lt b (pos 0) ≡ false
above-test b h = grind (arith, ints)

pub sign-below : (a b : ℤ) → FitsSigned w32 a → b <ℤ pos 0 → a <ℤ pos 0 → Some (IsInt a) ≡ given (valuing.with_sign_of a b)
unfolding Rattle.f_tree.specs.Valuing.with_sign_of
sign-below a b f h k =
    sym (given-checked a true (fits-range a f))
    ∙ ap (λ z. given (checked z)) (turned-below a k ∙ sym (ap (λ c. if c then neg_ℤ (pos (nat_abs a)) else pos (nat_abs a)) (below-test b h)))
  where
    turned-below : (a : ℤ) → a <ℤ pos 0 → a ≡ neg_ℤ (pos (nat_abs a))
    turned-below (pos m) h = absurd (omega (arith, ints))
    turned-below (negsuc m) h = refl

pub sign-turned : (a b : ℤ) → b <ℤ pos 0 → pos 0 ≤ℤ a → given (checked (neg_ℤ a)) ≡ given (valuing.with_sign_of a b)
unfolding Rattle.f_tree.specs.Valuing.with_sign_of
sign-turned a b h k =
    ap (λ z. given (checked z)) (turned-above a k ∙ sym (ap (λ c. if c then neg_ℤ (pos (nat_abs a)) else pos (nat_abs a)) (below-test b h)))
  where
    turned-above : (a : ℤ) → pos 0 ≤ℤ a → neg_ℤ a ≡ neg_ℤ (pos (nat_abs a))
    turned-above (pos m) h = refl
    turned-above (negsuc m) h = absurd (omega (arith, ints))

pub sign-above : (a b : ℤ) → pos 0 ≤ℤ b → given (checked (pos (nat_abs a))) ≡ given (valuing.with_sign_of a b)
unfolding Rattle.f_tree.specs.Valuing.with_sign_of
sign-above a b h = ap (λ z. given (checked z)) (sym (ap (λ c. if c then neg_ℤ (pos (nat_abs a)) else pos (nat_abs a)) (above-test b h)))
