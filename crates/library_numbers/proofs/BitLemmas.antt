-- The bit functions by cases of their counts and places.
use Rattle.std.proofs.Common.{◌≡◌, ℕ, zero, suc, ◌-◌, ◌/◌, ◌%◌, ◌^◌, ◌≤◌, ◌<◌, ℤ, pos, negsuc, true, false, Some, None, if◌then◌else◌, refl, ap, sym, ◌∙◌, arith}
use Rattle.std.specs.Prelude.{bit_or, bit_and, ◌*◌, ◌<ℤ◌, ◌≤ℤ◌, nat_abs, nat_le, nat_lt, nat_eq, Ok}
use Rattle.std.specs.Int.{w32, int_shl, cast_signed, cast_unsigned, bit_not}
use Rattle.std.proofs.lemmas.Bool.Decides.{nat_tests}
use Rattle.std.proofs.lemmas.Int.{ints, of_z-to_z, to_z_pos}
use Rattle.run_state.specs.Bits.{shifted, bit_at, has_bit, with_bit, without_bit, inclusive_or, logical_product, complement}
use Rattle.c_tree.specs.declared.outcome.CFault.TheVariants.{Library}
use Rattle.c_tree.specs.Faults.{failing}
use Rattle.c_tree.specs.LibraryNumbers as numbers

lt-true : (n : ℕ) → n < 32 → nat_lt n 32 ≡ true
lt-true n h = grind (arith, nat_tests)

lt-false : (n : ℕ) → 32 ≤ n → nat_lt n 32 ≡ false
lt-false n h = grind (arith, nat_tests)

le-true : (n : ℕ) → n ≤ 32 → nat_le n 32 ≡ true
le-true n h = grind (arith, nat_tests)

le-false : (n : ℕ) → 32 < n → nat_le n 32 ≡ false
le-false n h = grind (arith, nat_tests)

-- a number from 0 on is its magnitude
from-zero : (z : ℤ) (n : ℕ) → pos 0 ≤ℤ z → n ≡ nat_abs z → z ≡ pos n
from-zero (pos m) n h e = ap pos (sym e)
from-zero (negsuc m) n h e = absurd (omega (arith, ints))

-- a number below 0 is its magnitude with a minus
below-zero : (z : ℤ) (n : ℕ) → z <ℤ pos 0 → n ≡ nat_abs z → z ≡ negsuc (n - 1)
below-zero (pos m) n h e = absurd (omega (arith, ints))
below-zero (negsuc m) n h e = ap negsuc (let less : m ≡ n - 1 = omega arith in less)

-- the cases of a count of ISHFT
shifted-left : (a : ℤ) (n : ℕ) → n ≤ 32 → numbers.shifted_bits a (pos n) ≡ Ok (int_shl w32 a n)
unfolding shifted
shifted-left a n h = ap (λ fits. numbers.or_fault (if fits then Some (int_shl w32 a n) else None)) (le-true n h)

shifted-right : (a : ℤ) (n : ℕ) → n < 32 → numbers.shifted_bits a (negsuc n) ≡ Ok (cast_signed w32 (cast_unsigned w32 a / 2 ^ suc n))
unfolding shifted
shifted-right a n h =
    ap (λ fits. numbers.or_fault (if fits then Some (cast_signed w32 (cast_unsigned w32 a / 2 ^ suc n)) else None)) (lt-true n h)

pub shift-left : (a z : ℤ) (n : ℕ) → pos 0 ≤ℤ z → z ≤ℤ pos 32 → n ≡ nat_abs z → Ok (int_shl w32 a n) ≡ numbers.shifted_bits a z
shift-left a z n low high e =
    let is : z ≡ pos n = from-zero z n low e in
    let bound : n ≤ 32 = omega (arith, ints) in
    sym (ap (numbers.shifted_bits a) is ∙ shifted-left a n bound)

pub shift-right : (a z : ℤ) (n : ℕ) → z <ℤ pos 0 → negsuc 31 ≤ℤ z → n ≡ nat_abs z → Ok (cast_signed w32 (cast_unsigned w32 a / 2 ^ n)) ≡ numbers.shifted_bits a z
shift-right a z n low high e =
    let is : z ≡ negsuc (n - 1) = below-zero z n low e in
    let bound : n - 1 < 32 = omega (arith, ints) in
    let more : suc (n - 1) ≡ n = omega (arith, ints) in
    sym (ap (numbers.shifted_bits a) is ∙ shifted-right a (n - 1) bound ∙ ap (λ k. Ok (cast_signed w32 (cast_unsigned w32 a / 2 ^ k))) more)

pub shift-too_far : (a z : ℤ) → pos 32 <ℤ z → failing Library ≡ numbers.shifted_bits a z
unfolding shifted
shift-too_far a (pos n) h =
    sym (ap (λ fits. numbers.or_fault (if fits then Some (int_shl w32 a n) else None)) (le-false n (omega (arith, ints))))
shift-too_far a (negsuc n) h = absurd (omega (arith, ints))

pub shift-too_low : (a z : ℤ) → z <ℤ negsuc 31 → failing Library ≡ numbers.shifted_bits a z
unfolding shifted
shift-too_low a (pos n) h = absurd (omega (arith, ints))
shift-too_low a (negsuc n) h =
    sym (ap (λ fits. numbers.or_fault (if fits then Some (cast_signed w32 (cast_unsigned w32 a / 2 ^ suc n)) else None)) (lt-false n (omega (arith, ints))))

-- the number with one bit set, by its place
bit-in : (z : ℤ) (n : ℕ) → pos 0 ≤ℤ z → z <ℤ pos 32 → n ≡ nat_abs z → bit_at z ≡ Some (int_shl w32 (pos 1) n)
unfolding bit_at
bit-in z n low high e =
    let is : z ≡ pos n = from-zero z n low e in
    let bound : n < 32 = omega (arith, ints) in
    ap bit_at is ∙ ap (λ fits. if fits then Some (int_shl w32 (pos 1) n) else None) (lt-true n bound)

no_bit-above : (z : ℤ) → pos 32 ≤ℤ z → bit_at z ≡ None
unfolding bit_at
no_bit-above (pos n) h = ap (λ fits. if fits then Some (int_shl w32 (pos 1) n) else None) (lt-false n (omega (arith, ints)))
no_bit-above (negsuc n) h = absurd (omega (arith, ints))

no_bit-below : (z : ℤ) → z <ℤ pos 0 → bit_at z ≡ None
unfolding bit_at
no_bit-below (pos n) h = absurd (omega (arith, ints))
no_bit-below (negsuc n) h = refl

-- the bits of the number with one bit set
bit-unsigned : (n : ℕ) → cast_unsigned w32 (int_shl w32 (pos 1) n) ≡ 1 * 2 ^ n % 4294967296
bit-unsigned n = of_z-to_z w32 (1 * 2 ^ n % 4294967296) (omega arith)

pub set-in : (a z : ℤ) (n : ℕ) → pos 0 ≤ℤ z → z <ℤ pos 32 → n ≡ nat_abs z →
    Ok (cast_signed w32 (bit_or (cast_unsigned w32 a) (1 * 2 ^ n % 4294967296))) ≡ numbers.bit_set a z
unfolding with_bit inclusive_or
set-in a z n low high e =
    ap (λ bit. Ok (cast_signed w32 (bit_or (cast_unsigned w32 a) bit))) (sym (bit-unsigned n))
    ∙ sym (ap (λ bit. numbers.or_fault (with_bit a bit)) (bit-in z n low high e))

pub set-above : (a z : ℤ) → pos 32 ≤ℤ z → failing Library ≡ numbers.bit_set a z
unfolding with_bit
set-above a z h = sym (ap (λ bit. numbers.or_fault (with_bit a bit)) (no_bit-above z h))

pub set-below : (a z : ℤ) → z <ℤ pos 0 → failing Library ≡ numbers.bit_set a z
unfolding with_bit
set-below a z h = sym (ap (λ bit. numbers.or_fault (with_bit a bit)) (no_bit-below z h))

pub clear-in : (a z : ℤ) (n : ℕ) → pos 0 ≤ℤ z → z <ℤ pos 32 → n ≡ nat_abs z →
    Ok (cast_signed w32 (bit_and (cast_unsigned w32 a) (bit_not w32 (1 * 2 ^ n % 4294967296)))) ≡ numbers.bit_cleared a z
unfolding without_bit logical_product complement
clear-in a z n low high e =
    let under : bit_not w32 (1 * 2 ^ n % 4294967296) < 4294967296 = omega arith in
    ap (λ others. Ok (cast_signed w32 (bit_and (cast_unsigned w32 a) others)))
    (sym (of_z-to_z w32 (bit_not w32 (1 * 2 ^ n % 4294967296)) under)
    ∙ ap (λ bit. cast_unsigned w32 (cast_signed w32 (bit_not w32 bit))) (sym (bit-unsigned n)))
    ∙ sym (ap (λ bit. numbers.or_fault (without_bit a bit)) (bit-in z n low high e))

pub clear-above : (a z : ℤ) → pos 32 ≤ℤ z → failing Library ≡ numbers.bit_cleared a z
unfolding without_bit
clear-above a z h = sym (ap (λ bit. numbers.or_fault (without_bit a bit)) (no_bit-above z h))

pub clear-below : (a z : ℤ) → z <ℤ pos 0 → failing Library ≡ numbers.bit_cleared a z
unfolding without_bit
clear-below a z h = sym (ap (λ bit. numbers.or_fault (without_bit a bit)) (no_bit-below z h))

-- a bit is 1 or 0
bit-truth : (bit : ℕ) → bit < 2 → pos bit ≡ (if nat_eq bit 1 then pos 1 else pos 0)
bit-truth zero h = refl
bit-truth (suc zero) h = refl
bit-truth (suc (suc more)) h = absurd (omega arith)

test-at : (a : ℤ) (n : ℕ) → nat_lt n 32 ≡ true →
    numbers.bit_tested a (pos n) ≡ Ok (if nat_eq (cast_unsigned w32 a / 2 ^ n % 2) 1 then pos 1 else pos 0)
unfolding has_bit
test-at a n is = ap (λ fits. numbers.truth_or_fault (if fits then Some (nat_eq (cast_unsigned w32 a / 2 ^ n % 2) 1) else None)) is

test-outside : (a : ℤ) (n : ℕ) → nat_lt n 32 ≡ false → numbers.bit_tested a (pos n) ≡ failing Library
unfolding has_bit
test-outside a n is = ap (λ fits. numbers.truth_or_fault (if fits then Some (nat_eq (cast_unsigned w32 a / 2 ^ n % 2) 1) else None)) is

pub test-in : (a z : ℤ) (n : ℕ) → pos 0 ≤ℤ z → z <ℤ pos 32 → n ≡ nat_abs z →
    Ok (cast_signed w32 (cast_unsigned w32 a / 2 ^ n % 2)) ≡ numbers.bit_tested a z
test-in a z n low high e =
    let is : z ≡ pos n = from-zero z n low e in
    let bound : n < 32 = omega (arith, ints) in
    let small : cast_unsigned w32 a / 2 ^ n % 2 < 2 = omega arith in
    ap Ok (to_z_pos w32 (cast_unsigned w32 a / 2 ^ n % 2) (omega arith) ∙ bit-truth (cast_unsigned w32 a / 2 ^ n % 2) small)
    ∙ sym (ap (numbers.bit_tested a) is ∙ test-at a n (lt-true n bound))

pub test-above : (a z : ℤ) → pos 32 ≤ℤ z → failing Library ≡ numbers.bit_tested a z
test-above a (pos n) h = sym (test-outside a n (lt-false n (omega (arith, ints))))
test-above a (negsuc n) h = absurd (omega (arith, ints))

pub test-below : (a z : ℤ) → z <ℤ pos 0 → failing Library ≡ numbers.bit_tested a z
unfolding has_bit
test-below a (pos n) h = absurd (omega (arith, ints))
test-below a (negsuc n) h = refl
