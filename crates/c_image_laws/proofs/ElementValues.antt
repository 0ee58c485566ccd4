-- The C expression for the elements before an element has their number, without a fault.
use Rattle.std.specs.Prelude.{◌≡◌, ℕ, zero, suc, ◌+◌, ◌*◌, ◌<◌, ◌≤◌, ℤ, pos, ◌+ℤ◌, ◌-ℤ◌, nat_abs, int_le, Bool, true, false, ◌&&◌, List, [], ◌∷◌, Some, None, if◌then◌else◌}
use Rattle.std.proofs.Common.{refl, sym, ap, ◌∙◌, subst, arith}
use Rattle.c_image.specs.f_tree.Values.{Bytes, Datum, IsInt, OutOfBounds, Checked, Gives, Fails, given_that}
use Rattle.c_image.specs.f_tree.Facts.{Bounds}
use Rattle.c_image.specs.f_tree.Valuing.{is_within, size_of_dimension, elements_before}
use Rattle.c_laws.specs.c_tree.Objects.{Object}
use Rattle.c_laws.specs.c_tree.Terms.{Term}
use Rattle.c_laws.specs.c_tree.Values.{in_range}
use Rattle.c_laws.proofs.ValueLaws.{Constant-counts}
use Rattle.c_image.specs.Elements.{Step, product_term, index_term}
use Rattle.c_image_laws.specs.Meanings.{IsNumber, IsDistance, AreSteps, no_steps, last_step, one_step}
use Rattle.c_image_laws.proofs.TermValues.{sum_counts, product_counts}
use Rattle.c_image_laws.proofs.IntegerFacts.{difference_up, has_elements, small_in_range}

-- the elements before an element, the last subscript first
before : List Bounds → List Datum → ℕ
before (b ∷ bs) (IsInt z ∷ ds) = nat_abs (z -ℤ b.lower) + before bs ds * size_of_dimension b
before _ _ = 0

-- each subscript is within its bounds
data AllWithin : List Bounds → List Datum → Type 0 where
  none_within : AllWithin [] []
  more_within : (b : Bounds) (z : ℤ) (bs : List Bounds) (ds : List Datum) → is_within z b ≡ true → AllWithin bs ds → AllWithin (b ∷ bs) (IsInt z ∷ ds)

record IsCounted (stride : ℕ) (bs : List Bounds) (ds : List Datum) (n : ℕ) : Type 0 where
  within : AllWithin bs ds
  count : n ≡ before bs ds * stride

one_more : (a b size stride n : ℕ) → n ≡ b * (stride * size) → a * stride + n ≡ (a + b * size) * stride
one_more a b size stride n is = omega (arith, is)

counted : (x : Bytes) (stride : ℕ) (bs : List Bounds) (ds : List Datum) (n : ℕ) → elements_before x stride bs ds ≡ Gives n → IsCounted stride bs ds n
unfolding elements_before given_that before
counted x stride [] [] n gives = record { within = none_within; count = (let same : 0 ≡ n = cc in omega (arith, same)) }
counted x stride (b ∷ bs) (IsInt z ∷ ds) n gives =
    by (is_within z b) refl (elements_before x (stride * size_of_dimension b) bs ds) refl (counted x (stride * size_of_dimension b) bs ds) gives
  where
    by : (test : Bool) → is_within z b ≡ test → (later : Checked ℕ) → elements_before x (stride * size_of_dimension b) bs ds ≡ later →
        ((m : ℕ) → elements_before x (stride * size_of_dimension b) bs ds ≡ Gives m → IsCounted (stride * size_of_dimension b) bs ds m) →
        (if test then given_that later (λ m. Gives (nat_abs (z -ℤ b.lower) * stride + m)) else Fails (OutOfBounds x z)) ≡ Gives n → IsCounted stride (b ∷ bs) (IsInt z ∷ ds) n
    by true inside (Gives m) is so gives =
        let rest = so m is in
        let same : nat_abs (z -ℤ b.lower) * stride + m ≡ n = cc in
        record {
          within = more_within b z bs ds inside rest.within;
          count = sym same ∙ one_more (nat_abs (z -ℤ b.lower)) (before bs ds) (size_of_dimension b) stride m rest.count;
        }
    by true inside (Fails act) is so gives = absurd (cc)
    by false inside later is so gives = absurd (cc)
counted x stride _ _ n gives = absurd (cc)

both_hold : (a b : Bool) → (a && b) ≡ true → (a ≡ true) × (b ≡ true)
both_hold true b holds = (refl, holds)
both_hold false b holds = absurd (cc)

-- a subscript that is within is at least the lower bound
above_lower : (z : ℤ) (b : Bounds) → is_within z b ≡ true → int_le b.lower z ≡ true
unfolding is_within
above_lower z b inside = (both_hold (int_le b.lower z) (elim b.upper [ None ↦ true | Some u ↦ int_le z u ]) inside).0

below_upper : (z u : ℤ) (b : Bounds) → b.upper ≡ Some u → is_within z b ≡ true → int_le z u ≡ true
unfolding is_within
below_upper z u b is inside =
    sym (ap (elim [ None ↦ true | Some v ↦ int_le z v ]) is) ∙ (both_hold (int_le b.lower z) (elim b.upper [ None ↦ true | Some v ↦ int_le z v ]) inside).1

size_is : (u : ℤ) (b : Bounds) → b.upper ≡ Some u → size_of_dimension b ≡ nat_abs ((u -ℤ b.lower) +ℤ pos 1)
unfolding size_of_dimension
size_is u b is = ap (elim [ None ↦ 0 | Some v ↦ nat_abs ((v -ℤ b.lower) +ℤ pos 1) ]) is

-- the distance of a subscript
distance_counts : (objects : List Object) (b : Bounds) (z : ℤ) (term : Term) → IsDistance objects b z term → is_within z b ≡ true → nat_abs (z -ℤ b.lower) < 2147483648 →
    IsNumber objects term (pos (nat_abs (z -ℤ b.lower)))
distance_counts objects b z term distance inside small =
    let same = difference_up z b.lower (above_lower z b inside) in
    subst (IsNumber objects term) (sym same) (distance (sym (ap in_range same) ∙ small_in_range (nat_abs (z -ℤ b.lower)) small))

parts_small : (a rest size : ℕ) → 1 ≤ size → a + rest * size < 2147483648 → rest < 2147483648
parts_small a rest zero some small = absurd (omega (arith, some))
parts_small a rest (suc size) some small = omega (arith, small)

index_counts : (objects : List Object) (bs : List Bounds) (ds : List Datum) (steps : List Step) → AreSteps objects bs ds steps → AllWithin bs ds → before bs ds < 2147483648 →
    IsNumber objects (index_term steps) (pos (before bs ds))
unfolding before
index_counts objects _ _ _ no_steps within small = Constant-counts objects (pos 0)
index_counts objects _ _ _ (last_step b z step distance) (more_within _ _ _ _ inside later) small =
    let same : nat_abs (z -ℤ b.lower) ≡ nat_abs (z -ℤ b.lower) + 0 * size_of_dimension b = omega arith in
    subst (λ n. IsNumber objects step.distance (pos n)) same (distance_counts objects b z step.distance distance inside (omega (arith, small)))
index_counts objects _ _ _ (one_step b next u z bs ds step following later upper distance size steps) (more_within _ _ _ _ inside within) small =
    let a = nat_abs (z -ℤ b.lower) in
    let rest = before (next ∷ bs) ds in
    let some : 1 ≤ size_of_dimension b = subst (λ n. 1 ≤ n) (sym (size_is u b upper)) (has_elements b.lower z u (above_lower z b inside) (below_upper z u b upper inside)) in
    let behind = index_counts objects (next ∷ bs) ds (following ∷ later) steps within (parts_small a rest (size_of_dimension b) some small) in
    let product = product_counts objects (index_term (following ∷ later)) step.size (pos rest) (pos (size_of_dimension b)) behind size (small_in_range (rest * size_of_dimension b) (omega (arith, small))) in
    let own = distance_counts objects b z step.distance distance inside (omega (arith, small)) in
    let swapped : rest * size_of_dimension b + a ≡ a + rest * size_of_dimension b = omega arith in
    subst (λ n. IsNumber objects (index_term (step ∷ following ∷ later)) (pos n)) swapped
    (sum_counts objects (product_term (index_term (following ∷ later)) step.size) step.distance (pos (rest * size_of_dimension b)) (pos a) product own
    (small_in_range (rest * size_of_dimension b + a) (omega (arith, small))))

-- The expression for the elements before an element has their number
pub index_meant : (objects : List Object) (x : Bytes) (bs : List Bounds) (ds : List Datum) (steps : List Step) (n : ℕ) → AreSteps objects bs ds steps → elements_before x 1 bs ds ≡ Gives n →
    n < 2147483648 → IsNumber objects (index_term steps) (pos n)
index_meant objects x bs ds steps n are gives small =
    let found = counted x 1 bs ds n gives in
    let count = found.count in
    let same : before bs ds ≡ n = omega (arith, count) in
    subst (λ m. IsNumber objects (index_term steps) (pos m)) same (index_counts objects bs ds steps are found.within (omega (arith, same, small)))
