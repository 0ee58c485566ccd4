-- The bounds and the sizes of dimensions are what is kept of them.
use Rattle.std.specs.Prelude.{◌≡◌, ℤ, pos, negsuc, ◌+ℤ◌, ◌-ℤ◌, nat_abs, int_lt, int_le, Bool, true, false, ◌&&◌, [], Option, Some, None, if◌then◌else◌}
use Rattle.std.specs.Ordering.{int_eq}
use Rattle.std.proofs.Common.{refl, sym, ap, ◌∙◌, subst, arith}
use Rattle.std.proofs.lemmas.Int.{ints}
use Rattle.l_core.specs.f_tree.Values.{Datum, IsInt, BadDimension, Overflow, Checked, Gives, Fails, given_that, in_range, checked}
use Rattle.l_core.specs.f_tree.Terms.{Add, Subtract, Term}
use Rattle.l_core.specs.f_tree.Store.{Store}
use Rattle.l_core.specs.f_tree.Facts.{Dimension, Bounds, Facts, Frame}
use Rattle.l_core.specs.f_tree.Valuing.{Red, Valued, left_of, operated, on_integers, size_of_dimension, reduce}
use Rattle.l_core.specs.f_tree.Association.{integer_of, sized, dimension_by}
use Rattle.l_core.specs.Pures.{Pure, Constant, Operated, Temporaries, where_wanted, meant}
use Rattle.kept_bounds.specs.KeptBounds.{bound_pure, is_written, size_pure, without_bounds, LowersAreMeant, IsSize, SizesAreMeant}
use Rattle.kept_bounds.proofs.BoundValues.{bound_meant}

-- ## What is given

gives_same : {A : Type 0} (a b : A) → Gives a ≡ Gives b → a ≡ b
gives_same a b h = cc

record IsGot {A B : Type 0} (x : Checked A) (go : A → Checked B) (b : B) : Type 0 where
  value : A
  is : x ≡ Gives value
  goes : go value ≡ Gives b

got : {A B : Type 0} (x : Checked A) (go : A → Checked B) (b : B) → given_that x go ≡ Gives b → IsGot x go b
unfolding given_that
got (Gives a) go b h = record { value = a; is = refl; goes = h }
got (Fails act) go b h = absurd (cc)

-- an expression that has an integer
integer_by : (r : Red Datum Term) (z : ℤ) → integer_of r ≡ Gives z → r ≡ Valued (IsInt z)
unfolding integer_of
integer_by (Valued (IsInt n)) z h = ap (λ m. Valued (IsInt m)) (gives_same n z h)
integer_by _ z h = absurd (cc)

-- ## A dimension

record IsSized (lower upper : ℤ) (b : Bounds) : Type 0 where
  is : record { lower = lower; upper = Some upper } ≡ b
  above : int_lt upper lower ≡ false
  few : int_le ((upper -ℤ lower) +ℤ pos 1) (pos 2147483647) ≡ true

sized_by : (lower upper : ℤ) (b : Bounds) → sized lower upper ≡ Gives b → IsSized lower upper b
unfolding sized
sized_by lower upper b h = by (int_lt upper lower) refl (int_le ((upper -ℤ lower) +ℤ pos 1) (pos 2147483647)) refl h
  where
    by : (below : Bool) → int_lt upper lower ≡ below → (few : Bool) → int_le ((upper -ℤ lower) +ℤ pos 1) (pos 2147483647) ≡ few
        → (if below then Fails BadDimension else if few then Gives (record { lower = lower; upper = Some upper }) else Fails BadDimension) ≡ Gives b → IsSized lower upper b
    by true is few is' g = absurd (cc)
    by false is true is' g = record { is = gives_same (record { lower = lower; upper = Some upper }) b g; above = is; few = is' }
    by false is false is' g = absurd (cc)

-- ## Numbers

both_so : (a b : Bool) → a ≡ true → b ≡ true → (a && b) ≡ true
both_so true b one other = other
both_so false b one other = absurd (cc)

counts : (l u : ℤ) → int_lt u l ≡ false → pos (nat_abs ((u -ℤ l) +ℤ pos 1)) ≡ (u -ℤ l) +ℤ pos 1
counts l u above = grind (arith, ints)

distance_low : (l u : ℤ) → int_lt u l ≡ false → int_le (pos 0) (u -ℤ l) ≡ true
distance_low l u above = grind (arith, ints)

one_less : (x : ℤ) (limit : ℤ) → int_le (x +ℤ pos 1) limit ≡ true → int_le x limit ≡ true
one_less x limit few = grind (arith, ints)

one_more : (x : ℤ) → int_le (pos 0) x ≡ true → int_le (pos 0) (x +ℤ pos 1) ≡ true
one_more x low = grind (arith, ints)

above_negative : (n x : ℤ) → int_le n (pos 0) ≡ true → int_le (pos 0) x ≡ true → int_le n x ≡ true
above_negative n x low high = grind (arith, ints)

from_one : (u : ℤ) → (u -ℤ pos 1) +ℤ pos 1 ≡ u
from_one u = grind (arith, ints)

in_range_by : (x : ℤ) → int_le (pos 0) x ≡ true → int_le x (pos 2147483647) ≡ true → in_range x ≡ true
unfolding in_range
in_range_by x low high = both_so (int_le (negsuc 2147483647) x) (int_le x (pos 2147483647)) (above_negative (negsuc 2147483647) x refl low) high

checked_is : (x : ℤ) → in_range x ≡ true → checked x ≡ Gives (IsInt x)
unfolding checked
checked_is x fits = ap (λ b. if b then Gives (IsInt x) else Fails Overflow) fits

equal_by : (n z : ℤ) → int_eq n z ≡ true → n ≡ z
equal_by n z h = grind (arith, ints)

-- ## What is kept

module _ (c : Facts) (f : Frame) (kept : Temporaries) (s : Store) where
  record IsDimension (d : Dimension) (b : Bounds) : Type 0 where
    lower : ℤ
    lower_is : reduce c f s [] d.lower ≡ Valued (IsInt lower)
    fixed : (elim d.upper [ None ↦ Gives (record { lower = lower; upper = None }) | Some t ↦ given_that (integer_of (reduce c f s [] t)) (sized lower) ]) ≡ Gives b

  dimension_is : (d : Dimension) (b : Bounds) → dimension_by c f s d ≡ Gives b → IsDimension d b
  unfolding dimension_by
  dimension_is d b h =
      let g = got (integer_of (reduce c f s [] d.lower)) (λ lower. elim d.upper [ None ↦ Gives (record { lower = lower; upper = None }) | Some t ↦ given_that (integer_of (reduce c f s [] t)) (sized lower) ]) b h in
      record { lower = g.value; lower_is = integer_by (reduce c f s [] d.lower) g.value g.is; fixed = g.goes }

  lower_is : (lower : ℤ) (o : Option Term) (b : Bounds) → (elim o [ None ↦ Gives (record { lower = lower; upper = None }) | Some t ↦ given_that (integer_of (reduce c f s [] t)) (sized lower) ]) ≡ Gives b → lower ≡ b.lower
  lower_is lower None b h = ap (λ (x : Bounds). x.lower) (gives_same (record { lower = lower; upper = None }) b h)
  lower_is lower (Some t) b h =
      let g = got (integer_of (reduce c f s [] t)) (sized lower) b h in
      ap (λ (x : Bounds). x.lower) (sized_by lower g.value b g.goes).is

  pub lower_meant : (d : Dimension) (b : Bounds) (lower : Pure) → dimension_by c f s d ≡ Gives b → bound_pure d.lower ≡ Some lower → meant c (without_bounds f) kept s lower ≡ Gives (IsInt b.lower)
  lower_meant d b lower h made =
      let is = dimension_is d b h in
      bound_meant c f kept s [] d.lower lower (IsInt is.lower) made is.lower_is ∙ ap (λ z. Gives (IsInt z)) (lower_is is.lower d.upper b is.fixed)

  -- a constant that is written has its value
  written_is : (z l : ℤ) (p : Pure) → is_written z p ≡ true → meant c (without_bounds f) kept s p ≡ Gives (IsInt l) → l ≡ z
  unfolding is_written meant
  written_is z l (Constant (IsInt n)) h is = sym (integer_same n l (gives_same (IsInt n) (IsInt l) is)) ∙ equal_by n z h
    where
      integer_same : (a b : ℤ) → IsInt a ≡ IsInt b → a ≡ b
      integer_same a b g = cc
  written_is z l _ h is = absurd (cc)

  difference_meant : (low high : Pure) (l u : ℤ) → meant c (without_bounds f) kept s low ≡ Gives (IsInt l) → meant c (without_bounds f) kept s high ≡ Gives (IsInt u) → in_range (u -ℤ l) ≡ true
      → meant c (without_bounds f) kept s (Operated Subtract high low) ≡ Gives (IsInt (u -ℤ l))
  unfolding meant given_that where_wanted left_of operated on_integers
  difference_meant low high l u low_is high_is fits =
      ap (λ r. given_that r (λ a. where_wanted (left_of Subtract a) (given_that (meant c (without_bounds f) kept s low) (operated Subtract a)))) high_is
      ∙ ap (λ r. given_that r (operated Subtract (IsInt u))) low_is ∙ checked_is (u -ℤ l) fits

  one_more_meant : (p : Pure) (z : ℤ) → meant c (without_bounds f) kept s p ≡ Gives (IsInt z) → in_range (z +ℤ pos 1) ≡ true
      → meant c (without_bounds f) kept s (Operated Add p (Constant (IsInt (pos 1)))) ≡ Gives (IsInt (z +ℤ pos 1))
  unfolding meant given_that where_wanted left_of operated on_integers
  one_more_meant p z is fits =
      ap (λ r. given_that r (λ a. where_wanted (left_of Add a) (given_that (meant c (without_bounds f) kept s (Constant (IsInt (pos 1)))) (operated Add a)))) is ∙ checked_is (z +ℤ pos 1) fits

  -- given whether the lower bound is written as 1
  size_by : (low high : Pure) (l u : ℤ) → meant c (without_bounds f) kept s low ≡ Gives (IsInt l) → meant c (without_bounds f) kept s high ≡ Gives (IsInt u) → int_lt u l ≡ false
      → int_le ((u -ℤ l) +ℤ pos 1) (pos 2147483647) ≡ true → (test : Bool) → is_written (pos 1) low ≡ test
      → meant c (without_bounds f) kept s (if test then high else Operated Add (Operated Subtract high low) (Constant (IsInt (pos 1)))) ≡ Gives (IsInt (pos (nat_abs ((u -ℤ l) +ℤ pos 1))))
  size_by low high l u low_is high_is above few true test =
      let one : l ≡ pos 1 = written_is (pos 1) l low test low_is in
      high_is ∙ ap (λ z. Gives (IsInt z)) (sym (counts l u above ∙ ap (λ z. (u -ℤ z) +ℤ pos 1) one ∙ from_one u))
  size_by low high l u low_is high_is above few false test =
      let from : int_le (pos 0) (u -ℤ l) ≡ true = distance_low l u above in
      one_more_meant (Operated Subtract high low) (u -ℤ l) (difference_meant low high l u low_is high_is (in_range_by (u -ℤ l) from (one_less (u -ℤ l) (pos 2147483647) few)))
      (in_range_by ((u -ℤ l) +ℤ pos 1) (one_more (u -ℤ l) from) few)
      ∙ ap (λ z. Gives (IsInt z)) (sym (counts l u above))

  size_of_sized : (low high : Pure) (l u : ℤ) (b : Bounds) → meant c (without_bounds f) kept s low ≡ Gives (IsInt l) → meant c (without_bounds f) kept s high ≡ Gives (IsInt u) → IsSized l u b
      → IsSize c f kept s b (size_pure low high)
  unfolding size_pure size_of_dimension
  size_of_sized low high l u b low_is high_is is = subst (λ x. IsSize c f kept s x (size_pure low high)) is.is (record {
    last = u;
    upper = refl;
    is = size_by low high l u low_is high_is is.above is.few (is_written (pos 1) low) refl;
    fits = ap in_range (counts l u is.above) ∙ in_range_by ((u -ℤ l) +ℤ pos 1) (one_more (u -ℤ l) (distance_low l u is.above)) is.few;
  })

  pub size_meant : (d : Dimension) (b : Bounds) (t : Term) (lower upper : Pure) → dimension_by c f s d ≡ Gives b → d.upper ≡ Some t → bound_pure d.lower ≡ Some lower → bound_pure t ≡ Some upper
      → IsSize c f kept s b (size_pure lower upper)
  size_meant d b t lower upper h written low high =
      let is = dimension_is d b h in
      let fixed : given_that (integer_of (reduce c f s [] t)) (sized is.lower) ≡ Gives b =
      ap (λ o. elim o [ None ↦ Gives (record { lower = is.lower; upper = None }) | Some t ↦ given_that (integer_of (reduce c f s [] t)) (sized is.lower) ]) (sym written) ∙ is.fixed in
      let last = got (integer_of (reduce c f s [] t)) (sized is.lower) b fixed in
      size_of_sized lower upper is.lower last.value b (bound_meant c f kept s [] d.lower lower (IsInt is.lower) low is.lower_is)
      (bound_meant c f kept s [] t upper (IsInt last.value) high (integer_by (reduce c f s [] t) last.value last.is)) (sized_by is.lower last.value b last.goes)

pub lowers_are_meant : LowersAreMeant
lowers_are_meant c f kept s d b lower h made = lower_meant c f kept s d b lower h made

pub sizes_are_meant : SizesAreMeant
sizes_are_meant c f kept s d b t lower upper h written low high = size_meant c f kept s d b t lower upper h written low high
