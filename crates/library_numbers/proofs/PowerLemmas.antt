-- 1 divided by a power: 0 but for the powers of 1 and -1.
use Rattle.std.proofs.Common.{◌≡◌, ℕ, zero, suc, ◌*◌, ◌/◌, ◌%◌, ◌^◌, ◌≤◌, ◌<◌, ℤ, pos, negsuc, Bool, true, false, if◌then◌else◌, refl, ap, sym, ◌∙◌, arith}
use Rattle.std.specs.Prelude.{neg_ℤ, int_div, Ok, cond, ◌==◌}
use Rattle.std.specs.Int.{int_pow}
use Rattle.std.proofs.Math.Nat.{pow-suc, pow-zero, div-eq_of_lt, one-le-pow, mul-le-mul_right}
use Rattle.std.proofs.lemmas.Bool.Decides.{nat_tests}
use Rattle.std.specs.Ordering.{int_eq}
use Rattle.c_tree.specs.declared.outcome.CFault.TheVariants.{ZeroDivide}
use Rattle.c_tree.specs.Faults.{failing}
use Rattle.c_tree.specs.LibraryNumbers as numbers

one-pow : (n : ℕ) → 1 ^ n ≡ 1
one-pow zero = pow-zero 1
one-pow (suc n) = pow-suc 1 n ∙ ap (λ power. power * 1) (one-pow n)

pub inverse-one : (z : ℤ) (n : ℕ) → z ≡ pos 1 → Ok (pos 1) ≡ numbers.power z (negsuc n)
inverse-one z n is =
    sym (ap (λ base. numbers.power base (negsuc n)) is ∙ ap (λ power. Ok (int_div (pos 1) (pos power))) (one-pow (suc n)))

-- -1 to an even power and to an odd one
minus_one-pow : (n : ℕ) (even : Bool) → (n % 2 == 0) ≡ even → int_pow (negsuc 0) n ≡ cond even (pos 1) (negsuc 0)
minus_one-pow n even is =
    ap (λ test. cond test (pos (1 ^ n)) (neg_ℤ (pos (1 ^ n)))) is ∙ ap (λ power. cond even (pos power) (neg_ℤ (pos power))) (one-pow n)

pub inverse-minus_one : (z : ℤ) (less n : ℕ) (even : Bool) → z ≡ negsuc 0 → suc less ≡ n → (n % 2 == 0) ≡ even →
    Ok (int_div (pos 1) (cond even (pos 1) (negsuc 0))) ≡ numbers.power z (negsuc less)
inverse-minus_one z less n even is more parity =
    sym (ap (λ base. numbers.power base (negsuc less)) is
    ∙ ap (λ exponent. Ok (int_div (pos 1) (int_pow (negsuc 0) exponent))) more
    ∙ ap (λ power. Ok (int_div (pos 1) power)) (minus_one-pow n even parity))

above-one : (a n : ℕ) → 1 < a → 1 < a ^ suc n
above-one a n h =
    let least : 1 ≤ a ^ n = one-le-pow n a (omega arith) in
    let grown : 1 * a ≤ a ^ n * a = mul-le-mul_right a least in
    let is : a ^ suc n ≡ a ^ n * a = pow-suc a n in
    omega arith

under-one : (n : ℕ) → 1 < n → 1 / n ≡ 0
under-one n h = div-eq_of_lt h

under-minus : (n : ℕ) → 1 < n → int_div (pos 1) (neg_ℤ (pos n)) ≡ pos 0
under-minus zero h = absurd (omega arith)
under-minus (suc n) h = ap (λ quotient. neg_ℤ (pos quotient)) (under-one (suc n) h)

by-sign : (n : ℕ) (even : Bool) → 1 < n → int_div (pos 1) (cond even (pos n) (neg_ℤ (pos n))) ≡ pos 0
by-sign n true h = ap pos (under-one n h)
by-sign n false h = under-minus n h

not-zero : (a n : ℕ) → 0 < a → numbers.power (pos a) (negsuc n) ≡ Ok (pos (1 / a ^ suc n))
not-zero a n h =
    let is : int_eq (pos a) (pos 0) ≡ false = grind (arith, nat_tests) in
    ap (λ test. if test then failing ZeroDivide else Ok (pos (1 / a ^ suc n))) is

pub inverse-small : (z : ℤ) (n : ℕ) → (z ≡ pos 0 → ⊥) → (z ≡ pos 1 → ⊥) → (z ≡ negsuc 0 → ⊥) → Ok (pos 0) ≡ numbers.power z (negsuc n)
inverse-small (pos zero) n not_zero not_one not_minus = absurd (not_zero refl)
inverse-small (pos (suc zero)) n not_zero not_one not_minus = absurd (not_one refl)
inverse-small (pos (suc (suc a))) n not_zero not_one not_minus =
    sym (not-zero (suc (suc a)) n (omega arith) ∙ ap (λ quotient. Ok (pos quotient)) (under-one (suc (suc a) ^ suc n) (above-one (suc (suc a)) n (omega arith))))
inverse-small (negsuc zero) n not_zero not_one not_minus = absurd (not_minus refl)
inverse-small (negsuc (suc a)) n not_zero not_one not_minus =
    sym (ap Ok (by-sign (suc (suc a) ^ suc n) (suc n % 2 == 0) (above-one (suc (suc a)) n (omega arith))))
