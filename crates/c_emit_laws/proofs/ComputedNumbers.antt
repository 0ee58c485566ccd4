-- What the functions of FORTRAN that C has in its library take and give: integers, and a number of 32 bits or a truth value, as the function of the
-- library is said to give.
use Rattle.std.specs.Prelude.{◌≡◌, ℕ, zero, suc, ◌+◌, ◌-◌, ◌/◌, ◌%◌, ◌^◌, ◌<◌, nat_lt, nat_le, ℤ, pos, negsuc, ◌-ℤ◌, neg_ℤ, nat_abs, int_lt, int_le, int_div, Bool, true, false, ◌&&◌, List, [], ◌∷◌, replicate, position, Option, Some, None, slice_get, unwrap_or, bytes_eq, if◌then◌else◌}
use Rattle.std.specs.Ordering.{int_eq}
use Rattle.std.specs.Int.{w32, cast_signed, cast_unsigned}
use Rattle.std.proofs.Common.{refl, sym, ap, ◌∙◌, subst, arith}
use Rattle.std.proofs.lemmas.Bool.{le-leb, ltb-true, ltb-false}
use Rattle.c_emit.specs.run_state.Bits.{inclusive_or, logical_product, exclusive_or, complement, shifted, bit_at, has_bit, with_bit, without_bit}
use Rattle.c_emit.specs.f_tree.declared.names.Basic.TheVariants.{Integer, Logical}
use Rattle.c_emit.specs.f_tree.Values.{Datum, IsInt, IsLog, Checked, Gives, Fails, ZeroDivide, in_range, checked}
use Rattle.c_emit.specs.f_tree.Terms as fortran
use Rattle.c_emit.specs.f_tree.Valuing.{applied, raised, inverse_of, divided, power_of, with_sign_of, difference_over, if_bits, if_bit}
use Rattle.c_image_laws.proofs.OperatorValues.{is_checked, same_range}
use Rattle.c_emit.specs.Types.{HasType}
use Rattle.c_emit.specs.LibraryFunctions.{LibraryFunction, pow_ii, i_sign, i_dim, i_or, i_and, i_eor, i_not, i_shft, b_test, b_set, b_clr, library_function, library_type}
use Rattle.c_emit_laws.specs.EmittedTypes.{LibraryTypesAreRight}
use Rattle.c_emit_laws.proofs.Choices.{some_same, mapped_by}
use Rattle.c_emit_laws.proofs.FittingNumbers.{FitsUnit}
use Rattle.c_emit_laws.proofs.HeldNumbers.{AreIntegers, no_integers, more_integers}

-- a result is an integer of 32 bits
record IsSmall (d : Datum) : Type 0 where
  number : ℤ
  is : IsInt number ≡ d
  fits : in_range number ≡ true

checked_small : (z : ℤ) (d : Datum) → checked z ≡ Gives d → IsSmall d
checked_small z d h = let found = is_checked z d h in record { number = z; is = sym found.is; fits = same_range z ∙ found.fits }

given_small : (z : ℤ) (d : Datum) → in_range z ≡ true → Gives (IsInt z) ≡ Gives d → IsSmall d
given_small z d fits h = record { number = z; is = (let e = h in cc); fits = fits }

-- ## Powers, SIGN and DIM

divided_small : (test : Bool) (a b : ℤ) (d : Datum) → (if test then Fails ZeroDivide else checked (int_div a b)) ≡ Gives d → IsSmall d
divided_small true a b d h = absurd (cc)
divided_small false a b d h = checked_small (int_div a b) d h

power_small : (a b : ℤ) (d : Datum) → raised a b ≡ Gives d → IsSmall d
unfolding raised inverse_of divided
power_small a (pos n) d h = checked_small (power_of a n) d h
power_small a (negsuc n) d h = divided_small (int_eq (power_of a (suc n)) (pos 0)) (pos 1) (power_of a (suc n)) d h

sign_small : (a b : ℤ) (d : Datum) → with_sign_of a b ≡ Gives d → IsSmall d
unfolding with_sign_of
sign_small a b d h = checked_small (if int_lt b (pos 0) then neg_ℤ (pos (nat_abs a)) else pos (nat_abs a)) d h

zero_fits : in_range (pos 0) ≡ true
unfolding in_range
zero_fits = refl

difference_small : (a b : ℤ) (d : Datum) → difference_over a b ≡ Gives d → IsSmall d
unfolding difference_over
difference_small a b d h = by (int_lt b a) h
  where
    by : (test : Bool) → (if test then checked (a -ℤ b) else Gives (IsInt (pos 0))) ≡ Gives d → IsSmall d
    by true g = checked_small (a -ℤ b) d g
    by false g = given_small (pos 0) d zero_fits g

-- ## Bits: what the 32 bits of a number stand for is within them

signed_fits : (n : ℕ) → in_range (cast_signed w32 n) ≡ true
unfolding in_range
signed_fits n = by (nat_lt n (2 ^ 31)) refl
  where
    by : (test : Bool) → nat_lt n (2 ^ 31) ≡ test → in_range (if test then pos n else negsuc (2 ^ 32 - suc n)) ≡ true
    by true small = let h = ltb-true n (2 ^ 31) small in le-leb n 2147483647 (omega (arith, h))
    by false large = let h = ltb-false n (2 ^ 31) large in ap (λ b. b && true) (le-leb (2 ^ 32 - suc n) 2147483647 (omega (arith, h)))

bits_small : (found : Option ℤ) (d : Datum) → ((z : ℤ) → found ≡ Some z → in_range z ≡ true) → if_bits found ≡ Gives d → IsSmall d
unfolding if_bits
bits_small None d fits h = absurd (cc)
bits_small (Some z) d fits h = given_small z d (fits z refl) h

either_small : (a b : ℤ) → in_range (inclusive_or a b) ≡ true
unfolding inclusive_or
either_small a b = signed_fits _

both_small : (a b : ℤ) → in_range (logical_product a b) ≡ true
unfolding logical_product
both_small a b = signed_fits _

one_small : (a b : ℤ) → in_range (exclusive_or a b) ≡ true
unfolding exclusive_or
one_small a b = signed_fits _

turned_small : (a : ℤ) → in_range (complement a) ≡ true
unfolding complement
turned_small a = signed_fits _

chosen_small : (test : Bool) (y z : ℤ) → in_range y ≡ true → (if test then Some y else None) ≡ Some z → in_range z ≡ true
chosen_small true y z fits h = ap in_range (sym (some_same y z h)) ∙ fits
chosen_small false y z fits h = absurd (cc)

shifted_small : (a n z : ℤ) → shifted a n ≡ Some z → in_range z ≡ true
unfolding shifted
shifted_small a (pos n) z h = chosen_small (nat_le n 32) _ z (signed_fits _) h
shifted_small a (negsuc n) z h = chosen_small (nat_lt n 32) _ z (signed_fits _) h

set_small : (a : ℤ) (bit : Option ℤ) (z : ℤ) → with_bit a bit ≡ Some z → in_range z ≡ true
unfolding with_bit
set_small a None z h = absurd (cc)
set_small a (Some bit) z h = ap in_range (sym (some_same (inclusive_or a bit) z h)) ∙ either_small a bit

cleared_small : (a : ℤ) (bit : Option ℤ) (z : ℤ) → without_bit a bit ≡ Some z → in_range z ≡ true
unfolding without_bit
cleared_small a None z h = absurd (cc)
cleared_small a (Some bit) z h = ap in_range (sym (some_same (logical_product a (complement bit)) z h)) ∙ both_small a (complement bit)

-- ## All functions

-- so many integers
pub data AreOperands : ℕ → List Datum → Type 0 where
  one_operand : (a : ℤ) → AreOperands 1 (IsInt a ∷ [])
  two_operands : (a b : ℤ) → AreOperands 2 (IsInt a ∷ IsInt b ∷ [])

pub record IsComputed (one : LibraryFunction) (ds : List Datum) (d : Datum) : Type 0 where
  pub operands : AreOperands one.takes ds
  pub fits : FitsUnit d
  pub typed : HasType one.gives d

small_of_two : (one : LibraryFunction) (a b : ℤ) (d : Datum) → one.takes ≡ 2 → one.gives ≡ Integer → IsSmall d → IsComputed one (IsInt a ∷ IsInt b ∷ []) d
small_of_two one a b d takes gives small =
    subst (λ n. AreOperands n (IsInt a ∷ IsInt b ∷ []) → IsComputed one (IsInt a ∷ IsInt b ∷ []) d) takes (λ operands. record {
      operands = operands;
      fits = subst FitsUnit small.is small.fits;
      typed = subst (HasType one.gives) small.is (subst (λ b. HasType b (IsInt small.number)) (sym gives) tt);
    }) (two_operands a b)

bit_tested : (found : Option Bool) (a b : ℤ) (d : Datum) → if_bit found ≡ Gives d → IsComputed b_test (IsInt a ∷ IsInt b ∷ []) d
unfolding if_bit
bit_tested None a b d h = absurd (cc)
bit_tested (Some t) a b d h = let same : IsLog t ≡ d = (let e = h in cc) in subst (IsComputed b_test (IsInt a ∷ IsInt b ∷ [])) same (record { operands = two_operands a b; fits = tt; typed = tt })

complement_computed : (a : ℤ) (d : Datum) → IsSmall d → IsComputed i_not (IsInt a ∷ []) d
complement_computed a d small = record { operands = one_operand a; fits = subst FitsUnit small.is small.fits; typed = subst (HasType Integer) small.is tt }

-- what is computed is of the type that is said, and of as many integers
pub computed_by : (f : fortran.Function) (one : LibraryFunction) (ds : List Datum) (d : Datum) → library_function f ≡ Some one → applied f ds ≡ Gives d → IsComputed one ds d
unfolding library_function applied
computed_by fortran.Power one (IsInt a ∷ IsInt b ∷ []) d is h =
    subst (λ o. IsComputed o (IsInt a ∷ IsInt b ∷ []) d) (some_same pow_ii one is) (small_of_two pow_ii a b d refl refl (power_small a b d h))
computed_by fortran.SignTransfer one (IsInt a ∷ IsInt b ∷ []) d is h =
    subst (λ o. IsComputed o (IsInt a ∷ IsInt b ∷ []) d) (some_same i_sign one is) (small_of_two i_sign a b d refl refl (sign_small a b d h))
computed_by fortran.PositiveDifference one (IsInt a ∷ IsInt b ∷ []) d is h =
    subst (λ o. IsComputed o (IsInt a ∷ IsInt b ∷ []) d) (some_same i_dim one is) (small_of_two i_dim a b d refl refl (difference_small a b d h))
computed_by fortran.InclusiveOr one (IsInt a ∷ IsInt b ∷ []) d is h =
    subst (λ o. IsComputed o (IsInt a ∷ IsInt b ∷ []) d) (some_same i_or one is) (small_of_two i_or a b d refl refl (given_small (inclusive_or a b) d (either_small a b) h))
computed_by fortran.LogicalProduct one (IsInt a ∷ IsInt b ∷ []) d is h =
    subst (λ o. IsComputed o (IsInt a ∷ IsInt b ∷ []) d) (some_same i_and one is) (small_of_two i_and a b d refl refl (given_small (logical_product a b) d (both_small a b) h))
computed_by fortran.ExclusiveOr one (IsInt a ∷ IsInt b ∷ []) d is h =
    subst (λ o. IsComputed o (IsInt a ∷ IsInt b ∷ []) d) (some_same i_eor one is) (small_of_two i_eor a b d refl refl (given_small (exclusive_or a b) d (one_small a b) h))
computed_by fortran.BitComplement one (IsInt a ∷ []) d is h =
    subst (λ o. IsComputed o (IsInt a ∷ []) d) (some_same i_not one is) (complement_computed a d (given_small (complement a) d (turned_small a) h))
computed_by fortran.BitShift one (IsInt a ∷ IsInt b ∷ []) d is h =
    subst (λ o. IsComputed o (IsInt a ∷ IsInt b ∷ []) d) (some_same i_shft one is) (small_of_two i_shft a b d refl refl (bits_small (shifted a b) d (shifted_small a b) h))
computed_by fortran.BitTest one (IsInt a ∷ IsInt b ∷ []) d is h =
    subst (λ o. IsComputed o (IsInt a ∷ IsInt b ∷ []) d) (some_same b_test one is) (bit_tested (has_bit a b) a b d h)
computed_by fortran.BitSet one (IsInt a ∷ IsInt b ∷ []) d is h =
    subst (λ o. IsComputed o (IsInt a ∷ IsInt b ∷ []) d) (some_same b_set one is) (small_of_two b_set a b d refl refl (bits_small (with_bit a (bit_at b)) d (set_small a (bit_at b)) h))
computed_by fortran.BitClear one (IsInt a ∷ IsInt b ∷ []) d is h =
    subst (λ o. IsComputed o (IsInt a ∷ IsInt b ∷ []) d) (some_same b_clr one is) (small_of_two b_clr a b d refl refl (bits_small (without_bit a (bit_at b)) d (cleared_small a (bit_at b)) h))
computed_by f one ds d is h = absurd (cc)

-- the values of operands are integers
pub integers_of : (n : ℕ) (ds : List Datum) → AreOperands n ds → AreIntegers ds
integers_of _ _ (one_operand a) = more_integers a [] no_integers
integers_of _ _ (two_operands a b) = more_integers a (IsInt b ∷ []) (more_integers b [] no_integers)

pub library_types_are_right : LibraryTypesAreRight
unfolding library_type
library_types_are_right f ds d basic typed gives =
    let m = mapped_by (λ (one : LibraryFunction). one.gives) (library_function f) basic typed in
    subst (λ b. HasType b d) m.is (computed_by f m.one ds d m.one_is gives).typed
