-- The value of each function of FORTRAN over numbers: where FORTRAN gives one, the C expression or the function of the library gives it.
use Rattle.std.specs.Prelude.{◌≡◌, ℕ, zero, suc, ◌*◌, ◌%◌, ◌^◌, ◌==◌, ℤ, pos, negsuc, ◌-ℤ◌, ◌*ℤ◌, neg_ℤ, nat_abs, int_lt, int_div, int_rem, Bool, true, false, cond, List, [], ◌∷◌, Option, Some, None, Ok, if◌then◌else◌}
use Rattle.std.specs.Ordering.{int_eq}
use Rattle.std.specs.Int.{int_pow}
use Rattle.std.proofs.Common.{refl, sym, ap, ◌∙◌, subst, arith}
use Rattle.std.proofs.Math.Nat.{pow-suc, pow-zero}
use Rattle.std.proofs.lemmas.Bool.{eqb-true, eq-eqb}
use Rattle.std.proofs.lemmas.Bool.Decides.{Decides-int_eq}
use Rattle.std.proofs.lemmas.Int.{ints}
use Rattle.c_laws.specs.run_state.Bits.{inclusive_or, logical_product, exclusive_or, complement, shifted, bit_at, has_bit, with_bit, without_bit}
use Rattle.c_image.specs.f_tree.Values as fortran
use Rattle.c_image.specs.f_tree.Values.{Datum, IsInt, IsLog, IsText, IsSpot, IsProc, IsLabel, Nothing, Checked, Gives, Fails, ZeroDivide, given_that}
use Rattle.c_image.specs.f_tree.Terms as function
use Rattle.c_image.specs.f_tree.Store.{Whole, Truth}
use Rattle.c_image.specs.f_tree.Store as store
use Rattle.c_image.specs.f_tree.Valuing as valuing
use Rattle.c_laws.specs.c_tree.declared.outcome.CValue.{CValue}
use Rattle.c_laws.specs.c_tree.declared.outcome.CValue.TheVariants.{Number}
use Rattle.c_laws.specs.c_tree.declared.outcome.CFault.TheVariants as fault
use Rattle.c_laws.specs.c_tree.declared.expression.BinaryOp.TheVariants as op
use Rattle.c_laws.specs.c_tree.declared.expression.Extreme.{Extreme}
use Rattle.c_laws.specs.c_tree.declared.expression.Extreme.TheVariants as extreme
use Rattle.c_laws.specs.c_tree.Faults.{Or, after, failing}
use Rattle.c_laws.specs.c_tree.Objects.{Object, plain, as_number}
use Rattle.c_laws.specs.c_tree.Terms.{Term, Between, Most, Magnitude}
use Rattle.c_laws.specs.c_tree.Values.{in_range, seen, checked, most, magnitude, on_numbers}
use Rattle.c_laws.specs.c_tree.World.{World}
use Rattle.c_laws.specs.c_tree.World as c
use Rattle.c_laws.specs.c_tree.Builtins.{Builtin}
use Rattle.c_laws.specs.c_tree.LibraryArguments.{number_through}
use Rattle.c_laws.specs.c_tree.LibraryNumbers.{in_32_bits, power, signed, positive_difference, on_integers, on_integer, either_bit, both_bits, one_bit, or_fault, truth_or_fault, shifted_bits, bit_tested, bit_set, bit_cleared}
use Rattle.c_laws.specs.c_tree.Library.{library}
use Rattle.c_laws.proofs.ValueLaws.{Between-operation, checked-fits}
use Rattle.c_image.specs.faithful.StorageImage.{number_for}
use Rattle.c_image.specs.Held.{whole_for}
use Rattle.c_image.specs.Operations.{extreme_term, function_term, library_for}
use Rattle.c_image_laws.specs.Meanings.{Means, IsNumber, AllMean, none_mean, more_mean}
use Rattle.c_image_laws.proofs.ListLaws.{one_there}
use Rattle.c_image_laws.proofs.IntegerFacts.{magnitude_is, same_magnitude}
use Rattle.c_image_laws.proofs.OperatorValues.{counts_integer, means_integer, IsChecked, is_checked, means_checked, divided_by}

-- ## Functions that are expressions

magnitude_meant : (objects : List Object) (z : ℤ) (d : Datum) (term : Term) → fortran.checked (pos (nat_abs z)) ≡ Gives d → IsNumber objects term z → Means objects (Magnitude term) d
unfolding seen
magnitude_meant objects z d term gives counts =
    let is = is_checked (pos (nat_abs z)) d gives in
    means_checked objects (Magnitude term) (pos (nat_abs z)) d is
    (ap (λ found. after found λ typed. after (as_number typed.value) magnitude) counts ∙ ap checked (magnitude_is z) ∙ checked-fits (pos (nat_abs z)) is.fits)

record IsRemainder (a b : ℤ) (d : Datum) : Type 0 where
  divides : int_eq b (pos 0) ≡ false
  fits : in_range (int_div a b) ≡ true
  is : IsInt (int_rem a b) ≡ d

remainder_by : (test : Bool) (a b : ℤ) (d : Datum) → int_eq b (pos 0) ≡ test → (whole : Checked Datum) → fortran.checked (int_div a b) ≡ whole →
    (if test then Fails ZeroDivide else given_that whole (λ q. Gives (IsInt (int_rem a b)))) ≡ Gives d → IsRemainder a b d
unfolding given_that
remainder_by true a b d is whole has gives = absurd (cc)
remainder_by false a b d is (Gives q) has gives = record { divides = is; fits = (is_checked (int_div a b) q has).fits; is = cc }
remainder_by false a b d is (Fails act) has gives = absurd (cc)

remainder_meant : (objects : List Object) (a b : ℤ) (d : Datum) (one other : Term) → valuing.remainder_of a b ≡ Gives d → IsNumber objects one a → IsNumber objects other b →
    Means objects (Between op.Remainder one other) d
unfolding valuing.remainder_of
remainder_meant objects a b d one other gives of_one of_other =
    let found = remainder_by (int_eq b (pos 0)) a b d refl (fortran.checked (int_div a b)) refl gives in
    subst (Means objects (Between op.Remainder one other)) found.is
    (means_integer objects (Between op.Remainder one other) (int_rem a b)
    (Between-operation objects op.Remainder one other a b (λ x y. refl) of_one of_other ∙
    ap (λ test. after (if test then failing fault.ZeroDivide else checked (int_div a b)) λ fits. Ok (plain (Number (int_rem a b)))) found.divides ∙
    ap (λ whole. after whole λ fits. Ok (plain (Number (int_rem a b)))) (checked-fits (int_div a b) found.fits)))

Most-counts : (objects : List Object) (which : Extreme) (left right : Term) (a b z : ℤ) → most which a b ≡ Ok (plain (Number z)) → IsNumber objects left a → IsNumber objects right b →
    IsNumber objects (Most which left right) z
unfolding seen
Most-counts objects which left right a b z is of_left of_right =
    ap (λ found. after found λ x. after (seen objects right).value λ y. on_numbers (most which) x y) of_left ∙
    ap (λ found. after found λ y. on_numbers (most which) (plain (Number a)) y) of_right ∙ is

extreme_meant : (objects : List Object) (which : Extreme) (pick : ℤ → ℤ → ℤ) → ((a b : ℤ) → most which a b ≡ Ok (plain (Number (pick a b)))) → (terms : List Term) (ds : List Datum) (best : Term) (a : ℤ) (d : Datum) →
    valuing.extreme pick a ds ≡ Gives d → IsNumber objects best a → AllMean objects terms ds → Means objects (extreme_term which best terms) d
unfolding valuing.extreme
extreme_meant objects which pick picks _ _ best a d gives counts none_mean = let same : IsInt a ≡ d = cc in subst (Means objects best) same (means_integer objects best a counts)
extreme_meant objects which pick picks _ _ best a d gives counts (more_mean term terms (IsInt z) ds means later) =
    extreme_meant objects which pick picks terms ds (Most which best term) (pick a z) d gives
    (Most-counts objects which best term a z (pick a z) (picks a z) counts (counts_integer objects term z means)) later
extreme_meant objects which pick picks _ _ best a d gives counts (more_mean term terms x ds means later) = absurd (cc)

picks_greatest : (a b : ℤ) → most extreme.Max a b ≡ Ok (plain (Number (valuing.int_max a b)))
unfolding valuing.int_max
picks_greatest a b = refl

picks_least : (a b : ℤ) → most extreme.Min a b ≡ Ok (plain (Number (valuing.int_min a b)))
unfolding valuing.int_min
picks_least a b = refl

-- Each function that is an expression in C has there the value that it has in FORTRAN
pub function_meant : (objects : List Object) (f : function.Function) (terms : List Term) (ds : List Datum) (d : Datum) (term : Term) → valuing.applied f ds ≡ Gives d → AllMean objects terms ds →
    function_term f terms ≡ Some term → Means objects term d
unfolding valuing.applied
function_meant objects function.Truncation _ _ d term gives (more_mean a _ (IsInt z) _ means none_mean) is =
    let same : a ≡ term = one_there (Some a) a term refl is in
    let value : IsInt z ≡ d = cc in
    subst (λ t. Means objects t d) same (subst (Means objects a) value means)
function_meant objects function.Magnitude _ _ d term gives (more_mean a _ (IsInt z) _ means none_mean) is =
    let same : Magnitude a ≡ term = one_there (Some (Magnitude a)) (Magnitude a) term refl is in
    subst (λ t. Means objects t d) same (magnitude_meant objects z d a gives (counts_integer objects a z means))
function_meant objects function.Remainder _ _ d term gives (more_mean a _ (IsInt y) _ of_a (more_mean b _ (IsInt z) _ of_b none_mean)) is =
    let same : Between op.Remainder a b ≡ term = one_there (Some (Between op.Remainder a b)) (Between op.Remainder a b) term refl is in
    subst (λ t. Means objects t d) same (remainder_meant objects y z d a b gives (counts_integer objects a y of_a) (counts_integer objects b z of_b))
function_meant objects function.Largest _ _ d term gives (more_mean a terms (IsInt z) ds means later) is =
    let same : extreme_term extreme.Max a terms ≡ term = one_there (Some (extreme_term extreme.Max a terms)) (extreme_term extreme.Max a terms) term refl is in
    subst (λ t. Means objects t d) same (extreme_meant objects extreme.Max valuing.int_max picks_greatest terms ds a z d gives (counts_integer objects a z means) later)
function_meant objects function.Smallest _ _ d term gives (more_mean a terms (IsInt z) ds means later) is =
    let same : extreme_term extreme.Min a terms ≡ term = one_there (Some (extreme_term extreme.Min a terms)) (extreme_term extreme.Min a terms) term refl is in
    subst (λ t. Means objects t d) same (extreme_meant objects extreme.Min valuing.int_min picks_least terms ds a z d gives (counts_integer objects a z means) later)
function_meant objects _ _ _ d term gives _ is = absurd (cc)

-- ## Powers

odd_even : (e : ℕ) → e % 2 ≡ 0 → suc e % 2 ≡ 1
odd_even e is = omega (arith, is)

even_odd : (e : ℕ) → e % 2 ≡ 1 → suc e % 2 ≡ 0
even_odd e is = omega (arith, is)

one_of_two : (e : ℕ) (P : Type 0) → (e % 2 ≡ 0 → P) → (e % 2 ≡ 1 → P) → P
one_of_two e P even odd = by (e % 2 == 0) refl
  where
    by : (test : Bool) → (e % 2 == 0) ≡ test → P
    by true is = even (eqb-true (e % 2) 0 is)
    by false is = odd (omega (arith, apart))
      where
        apart : e % 2 ≡ 0 → ⊥
        apart zero_is = let wrong : true ≡ false = sym (eq-eqb (e % 2) 0 zero_is) ∙ is in cc

times_negative : (p a : ℕ) → pos p *ℤ negsuc a ≡ neg_ℤ (pos (p * suc a))
times_negative p a = grind (arith, ints)

both_negative : (p a : ℕ) → neg_ℤ (pos p) *ℤ negsuc a ≡ pos (p * suc a)
both_negative p a = grind (arith, ints)

even_power : (a e : ℕ) → e % 2 ≡ 0 → int_pow (negsuc a) e ≡ pos (suc a ^ e)
even_power a e is = ap (λ test. cond test (pos (suc a ^ e)) (neg_ℤ (pos (suc a ^ e)))) (eq-eqb (e % 2) 0 is)

odd_power : (a e : ℕ) → e % 2 ≡ 1 → int_pow (negsuc a) e ≡ neg_ℤ (pos (suc a ^ e))
odd_power a e is = ap (λ n. cond (n == 0) (pos (suc a ^ e)) (neg_ℤ (pos (suc a ^ e)))) is

power_step : (a : ℤ) (e : ℕ) → int_pow a (suc e) ≡ int_pow a e *ℤ a
power_step (pos a) e = ap pos (pow-suc a e)
power_step (negsuc a) e =
    one_of_two e (int_pow (negsuc a) (suc e) ≡ int_pow (negsuc a) e *ℤ negsuc a)
    (λ even. odd_power a (suc e) (odd_even e even) ∙ ap (λ p. neg_ℤ (pos p)) (pow-suc (suc a) e) ∙ sym (times_negative (suc a ^ e) a) ∙ ap (λ p. p *ℤ negsuc a) (sym (even_power a e even)))
    (λ odd. even_power a (suc e) (even_odd e odd) ∙ ap pos (pow-suc (suc a) e) ∙ sym (both_negative (suc a ^ e) a) ∙ ap (λ p. p *ℤ negsuc a) (sym (odd_power a e odd)))

power_none : (a : ℤ) → int_pow a 0 ≡ pos 1
power_none (pos a) = ap pos (pow-zero a)
power_none (negsuc a) = ap pos (pow-zero (suc a))

pub powers_alike : (a : ℤ) (e : ℕ) → int_pow a e ≡ valuing.power_of a e
unfolding valuing.power_of
powers_alike a zero = power_none a
powers_alike a (suc e) = power_step a e ∙ ap (λ p. p *ℤ a) (powers_alike a e)

in_bits : (z : ℤ) (d : Datum) → IsChecked z d → in_32_bits z ≡ Ok z
in_bits z d is = ap (λ found. after found λ typed. as_number typed.value) (checked-fits z is.fits)

zero_times : (z : ℤ) → z *ℤ pos 0 ≡ pos 0
zero_times z = grind (arith, ints)

-- what a function of the library over two numbers gives
abbrev IsGiven : (ℤ → ℤ → Or ℤ) → ℤ → ℤ → Datum → Type 0
IsGiven result a b d = (w : Whole) → whole_for d ≡ Some w → result a b ≡ Ok (number_for w)

number_of : (z : ℤ) (d : Datum) (w : Whole) → IsInt z ≡ d → whole_for d ≡ Some w → number_for w ≡ z
number_of z d w same is =
    let whole : store.Number z ≡ w = one_there (whole_for d) (store.Number z) w (ap whole_for (sym same)) is in ap number_for (sym whole)

checked_number : (z : ℤ) (d : Datum) (w : Whole) → IsChecked z d → whole_for d ≡ Some w → in_32_bits z ≡ Ok (number_for w)
checked_number z d w is whole = in_bits z d is ∙ ap Ok (sym (number_of z d w (sym is.is) whole))

raised_given : (a b : ℤ) (d : Datum) → valuing.raised a b ≡ Gives d → IsGiven power a b d
unfolding valuing.raised valuing.inverse_of valuing.divided valuing.power_of
raised_given a (pos n) d gives w is =
    ap in_32_bits (powers_alike a n) ∙ checked_number (valuing.power_of a n) d w (is_checked (valuing.power_of a n) d gives) is
raised_given a (negsuc n) d gives w is =
    let found = divided_by (int_eq (valuing.power_of a (suc n)) (pos 0)) (pos 1) (valuing.power_of a (suc n)) d refl gives in
    by (int_eq a (pos 0)) refl found.0 ∙
    ap (λ p. Ok (int_div (pos 1) p)) (powers_alike a (suc n)) ∙ ap Ok (sym (number_of (int_div (pos 1) (valuing.power_of a (suc n))) d w (sym found.1.is) is))
  where
    none : a ≡ pos 0 → int_eq (valuing.power_of a (suc n)) (pos 0) ≡ true
    none same = (Decides-int_eq (valuing.power_of a (suc n)) (pos 0)).1 (ap (λ z. valuing.power_of a n *ℤ z) same ∙ zero_times (valuing.power_of a n))

    by : (test : Bool) → int_eq a (pos 0) ≡ test → int_eq (valuing.power_of a (suc n)) (pos 0) ≡ false →
        (if test then failing fault.ZeroDivide else Ok (int_div (pos 1) (int_pow a (suc n)))) ≡ Ok (int_div (pos 1) (int_pow a (suc n)))
    by true is apart = absurd (let wrong : true ≡ false = sym (none ((Decides-int_eq a (pos 0)).0 is)) ∙ apart in cc)
    by false is apart = refl

-- ## SIGN and DIM

signed_given : (a b : ℤ) (d : Datum) → valuing.with_sign_of a b ≡ Gives d → IsGiven signed a b d
unfolding valuing.with_sign_of
signed_given a b d gives w is =
    ap (λ n. in_32_bits (if int_lt b (pos 0) then neg_ℤ (pos n) else pos n)) (same_magnitude a) ∙
    checked_number (if int_lt b (pos 0) then neg_ℤ (pos (nat_abs a)) else pos (nat_abs a)) d w
    (is_checked (if int_lt b (pos 0) then neg_ℤ (pos (nat_abs a)) else pos (nat_abs a)) d gives) is

difference_given : (a b : ℤ) (d : Datum) → valuing.difference_over a b ≡ Gives d → IsGiven positive_difference a b d
unfolding valuing.difference_over
difference_given a b d gives w is = by (int_lt b a) gives
  where
    by : (test : Bool) → (if test then fortran.checked (a -ℤ b) else Gives (IsInt (pos 0))) ≡ Gives d → (if test then in_32_bits (a -ℤ b) else Ok (pos 0)) ≡ Ok (number_for w)
    by true found = checked_number (a -ℤ b) d w (is_checked (a -ℤ b) d found) is
    by false found = let same : IsInt (pos 0) ≡ d = cc in ap Ok (sym (number_of (pos 0) d w same is))

-- ## Bits

abbrev given_number : ℤ → Or ℤ
given_number z = Ok z

plain_given : (z : ℤ) (d : Datum) (w : Whole) → Gives (IsInt z) ≡ Gives d → whole_for d ≡ Some w → given_number z ≡ given_number (number_for w)
plain_given z d w gives is = let same : IsInt z ≡ d = cc in ap given_number (sym (number_of z d w same is))

bits_given : (found : Option ℤ) (d : Datum) (w : Whole) → valuing.if_bits found ≡ Gives d → whole_for d ≡ Some w → or_fault found ≡ Ok (number_for w)
unfolding valuing.if_bits
bits_given None d w gives is = absurd (cc)
bits_given (Some z) d w gives is = plain_given z d w gives is

truth_of : (b : Bool) → (if b then pos 1 else pos 0) ≡ number_for (Truth b)
truth_of true = refl
truth_of false = refl

bit_given : (found : Option Bool) (d : Datum) (w : Whole) → valuing.if_bit found ≡ Gives d → whole_for d ≡ Some w → truth_or_fault found ≡ Ok (number_for w)
unfolding valuing.if_bit
bit_given None d w gives is = absurd (cc)
bit_given (Some b) d w gives is =
    let same : IsLog b ≡ d = cc in
    let whole : Truth b ≡ w = one_there (whole_for d) (Truth b) w (ap whole_for (sym same)) is in
    ap Ok (truth_of b ∙ ap number_for whole)

-- ## Calls of the library

through_both : (result : ℤ → ℤ → Or ℤ) (world : World) (p q : CValue) (a b z : ℤ) → number_through world.objects p ≡ Ok a → number_through world.objects q ≡ Ok b → result a b ≡ Ok z →
    on_integers result world p q ≡ Ok (c.Gives z world)
unfolding on_integers
through_both result world p q a b z first second is =
    ap (λ found. after found λ left. after (number_through world.objects q) λ right. after (result left right) λ number. Ok (c.Gives number world)) first ∙
    ap (λ found. after found λ right. after (result a right) λ number. Ok (c.Gives number world)) second ∙
    ap (λ found. after found λ number. Ok (c.Gives number world)) is

through_one : (result : ℤ → ℤ) (world : World) (p : CValue) (a : ℤ) → number_through world.objects p ≡ Ok a → on_integer result world p ≡ Ok (c.Gives (result a) world)
unfolding on_integer
through_one result world p a first = ap (λ found. after found λ number. Ok (c.Gives (result number) world)) first

-- A function of two numbers that is a call of the library gives there the value that it has in FORTRAN
pub library_meant : (f : function.Function) (builtin : Builtin) (world : World) (p q : CValue) (a b : ℤ) (d : Datum) (w : Whole) → valuing.applied f (IsInt a ∷ IsInt b ∷ []) ≡ Gives d →
    library_for f ≡ Some builtin → number_through world.objects p ≡ Ok a → number_through world.objects q ≡ Ok b → whole_for d ≡ Some w →
    library builtin world (p ∷ q ∷ []) ≡ Ok (c.Gives (number_for w) world)
unfolding valuing.applied library
library_meant function.Power builtin world p q a b d w gives is first second whole =
    subst (λ f. library f world (p ∷ q ∷ []) ≡ Ok (c.Gives (number_for w) world)) (one_there (library_for function.Power) _ builtin refl is)
    (through_both power world p q a b (number_for w) first second (raised_given a b d gives w whole))
library_meant function.SignTransfer builtin world p q a b d w gives is first second whole =
    subst (λ f. library f world (p ∷ q ∷ []) ≡ Ok (c.Gives (number_for w) world)) (one_there (library_for function.SignTransfer) _ builtin refl is)
    (through_both signed world p q a b (number_for w) first second (signed_given a b d gives w whole))
library_meant function.PositiveDifference builtin world p q a b d w gives is first second whole =
    subst (λ f. library f world (p ∷ q ∷ []) ≡ Ok (c.Gives (number_for w) world)) (one_there (library_for function.PositiveDifference) _ builtin refl is)
    (through_both positive_difference world p q a b (number_for w) first second (difference_given a b d gives w whole))
library_meant function.InclusiveOr builtin world p q a b d w gives is first second whole =
    subst (λ f. library f world (p ∷ q ∷ []) ≡ Ok (c.Gives (number_for w) world)) (one_there (library_for function.InclusiveOr) _ builtin refl is)
    (through_both either_bit world p q a b (number_for w) first second (plain_given (inclusive_or a b) d w gives whole))
library_meant function.LogicalProduct builtin world p q a b d w gives is first second whole =
    subst (λ f. library f world (p ∷ q ∷ []) ≡ Ok (c.Gives (number_for w) world)) (one_there (library_for function.LogicalProduct) _ builtin refl is)
    (through_both both_bits world p q a b (number_for w) first second (plain_given (logical_product a b) d w gives whole))
library_meant function.ExclusiveOr builtin world p q a b d w gives is first second whole =
    subst (λ f. library f world (p ∷ q ∷ []) ≡ Ok (c.Gives (number_for w) world)) (one_there (library_for function.ExclusiveOr) _ builtin refl is)
    (through_both one_bit world p q a b (number_for w) first second (plain_given (exclusive_or a b) d w gives whole))
library_meant function.BitShift builtin world p q a b d w gives is first second whole =
    subst (λ f. library f world (p ∷ q ∷ []) ≡ Ok (c.Gives (number_for w) world)) (one_there (library_for function.BitShift) _ builtin refl is)
    (through_both shifted_bits world p q a b (number_for w) first second (bits_given (shifted a b) d w gives whole))
library_meant function.BitTest builtin world p q a b d w gives is first second whole =
    subst (λ f. library f world (p ∷ q ∷ []) ≡ Ok (c.Gives (number_for w) world)) (one_there (library_for function.BitTest) _ builtin refl is)
    (through_both bit_tested world p q a b (number_for w) first second (bit_given (has_bit a b) d w gives whole))
library_meant function.BitSet builtin world p q a b d w gives is first second whole =
    subst (λ f. library f world (p ∷ q ∷ []) ≡ Ok (c.Gives (number_for w) world)) (one_there (library_for function.BitSet) _ builtin refl is)
    (through_both bit_set world p q a b (number_for w) first second (bits_given (with_bit a (bit_at b)) d w gives whole))
library_meant function.BitClear builtin world p q a b d w gives is first second whole =
    subst (λ f. library f world (p ∷ q ∷ []) ≡ Ok (c.Gives (number_for w) world)) (one_there (library_for function.BitClear) _ builtin refl is)
    (through_both bit_cleared world p q a b (number_for w) first second (bits_given (without_bit a (bit_at b)) d w gives whole))
library_meant _ builtin world p q a b d w gives is first second whole = absurd (cc)

-- and NOT
pub complement_meant : (world : World) (p : CValue) (a : ℤ) (d : Datum) (w : Whole) (builtin : Builtin) → valuing.applied function.BitComplement (IsInt a ∷ []) ≡ Gives d →
    library_for function.BitComplement ≡ Some builtin → number_through world.objects p ≡ Ok a → whole_for d ≡ Some w → library builtin world (p ∷ []) ≡ Ok (c.Gives (number_for w) world)
unfolding valuing.applied library
complement_meant world p a d w builtin gives is first whole =
    subst (λ f. library f world (p ∷ []) ≡ Ok (c.Gives (number_for w) world)) (one_there (library_for function.BitComplement) _ builtin refl is)
    (through_one complement world p a first ∙ ap (λ found. after found λ z. Ok (c.Gives z world)) (plain_given (complement a) d w gives whole))
