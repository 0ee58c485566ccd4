-- Places that are derived from sound places are sound: elements, single elements, substrings and whole arrays.
use Rattle.std.specs.Prelude.{◌≡◌, ℕ, ◌+◌, ◌*◌, ◌%◌, ◌≤◌, nat_le, ℤ, pos, nat_abs, int_lt, Bool, true, false, Option, Some, None, if◌then◌else◌}
use Rattle.std.proofs.Common.{refl, sym, ap, subst, arith}
use Rattle.std.proofs.lemmas.Bool.{leb-true}
use Rattle.std.proofs.lemmas.Int.{ints}
use Rattle.c_image.specs.f_tree.declared.names.Basic.{Basic}
use Rattle.c_image.specs.f_tree.declared.names.Basic.TheVariants.{Integer, Logical, Character, Untyped}
use Rattle.c_image.specs.f_tree.Values.{Bytes, Spot, Datum, IsSpot, OutOfBounds, PastExtent, Checked, Gives, Fails}
use Rattle.c_image.specs.f_tree.Valuing.{further, cut, reaching}
use Rattle.c_image.specs.World.{World, Extends}
use Rattle.c_image.specs.Addresses.{HasShape, IsSound}
use Rattle.c_image_laws.specs.DerivedPlaces.{further_place, cut_place}

-- what is told of an element
pub record IsFurther (p : Spot) (n : ℕ) (d : Datum) : Type 0 where
  pub fits : n * p.width + p.width ≤ p.extent
  pub is : IsSpot (further_place p n) ≡ d

pub is_further : (p : Spot) (n : ℕ) (d : Datum) → further p n ≡ Gives d → IsFurther p n d
unfolding further
is_further p n d gives = by (nat_le (n * p.width + p.width) p.extent) refl gives
  where
    by : (test : Bool) → nat_le (n * p.width + p.width) p.extent ≡ test → (if test then Gives (IsSpot (further_place p n)) else Fails PastExtent) ≡ Gives d → IsFurther p n d
    by true holds gives = record { fits = leb-true (n * p.width + p.width) p.extent holds; is = cc }
    by false holds gives = absurd (cc)

fours_more : (first n : ℕ) → first % 4 ≡ 0 → (first + n * 4) % 4 ≡ 0
fours_more first n aligned = omega (arith, aligned)

further_shape : (basic : Basic) (p : Spot) (n : ℕ) → HasShape basic p → HasShape basic (further_place p n)
further_shape Integer p n shaped = (subst (λ width. (p.first + n * width) % 4 ≡ 0) (sym shaped.1) (fours_more p.first n shaped.0), shaped.1)
further_shape Logical p n shaped = (subst (λ width. (p.first + n * width) % 4 ≡ 0) (sym shaped.1) (fours_more p.first n shaped.0), shaped.1)
further_shape Character p n shaped = shaped
further_shape Untyped p n shaped = shaped

pub further_sound : (μ : World) (p : Spot) (n : ℕ) (d : Datum) → IsSound μ p → further p n ≡ Gives d → IsSound μ (further_place p n)
further_sound μ p n d sound gives =
    let fits = (is_further p n d gives).fits in
    let inside = sound.inside in
    record { there = sound.there; shaped = further_shape p.basic p n sound.shaped; inside = omega (arith, fits, inside) }

-- one element alone
same_shape : (basic : Basic) (p : Spot) (extent : ℕ) → HasShape basic p → HasShape basic (record p { extent = extent })
same_shape Integer p extent shaped = shaped
same_shape Logical p extent shaped = shaped
same_shape Character p extent shaped = shaped
same_shape Untyped p extent shaped = shaped

pub shorter_sound : (μ : World) (p : Spot) (extent : ℕ) → IsSound μ p → extent ≤ p.extent → IsSound μ (record p { extent = extent })
shorter_sound μ p extent sound less =
    let inside = sound.inside in
    record { there = sound.there; shaped = same_shape p.basic p extent sound.shaped; inside = omega (arith, less, inside) }

-- all elements of an array
pub reaching_sound : (μ : World) (p : Spot) (count : Option ℕ) (q : Spot) → IsSound μ p → reaching p count ≡ Gives (IsSpot q) → IsSound μ q
unfolding reaching
reaching_sound μ p None q sound gives = absurd (cc)
reaching_sound μ p (Some n) q sound gives = by (nat_le (n * p.width) p.extent) refl gives
  where
    by : (test : Bool) → nat_le (n * p.width) p.extent ≡ test → (if test then Gives (IsSpot (record p { extent = n * p.width })) else Fails PastExtent) ≡ Gives (IsSpot q) → IsSound μ q
    by true holds gives =
        let same : record p { extent = n * p.width } ≡ q = spot_is (record p { extent = n * p.width }) q gives in
        subst (IsSound μ) same (shorter_sound μ p (n * p.width) sound (leb-true (n * p.width) p.extent holds))
      where
        spot_of : Checked Datum → Spot
        spot_of (Gives (IsSpot r)) = r
        spot_of _ = p

        spot_is : (r t : Spot) → Gives (IsSpot r) ≡ Gives (IsSpot t) → r ≡ t
        spot_is r t is = ap spot_of is
    by false holds gives = absurd (cc)

-- its first and its last character are those of the place
pub record IsCut (p : Spot) (from to : ℤ) (d : Datum) : Type 0 where
  pub not_before : int_lt from (pos 1) ≡ false
  pub not_behind : int_lt (pos p.width) from ≡ false
  pub in_order : int_lt to from ≡ false
  pub within : int_lt (pos p.width) to ≡ false
  pub is : IsSpot (cut_place p from to) ≡ d

pub is_cut : (x : Bytes) (p : Spot) (from to : ℤ) (d : Datum) → cut x p from to ≡ Gives d → IsCut p from to d
unfolding cut
is_cut x p from to d gives = by (int_lt from (pos 1)) (int_lt (pos p.width) from) (int_lt to from) (int_lt (pos p.width) to) refl refl refl refl gives
  where
    by : (one two three four : Bool) → int_lt from (pos 1) ≡ one → int_lt (pos p.width) from ≡ two → int_lt to from ≡ three → int_lt (pos p.width) to ≡ four →
        (if one then Fails (OutOfBounds x from) else if two then Fails (OutOfBounds x from) else if three then Fails (OutOfBounds x to) else if four then Fails (OutOfBounds x to)
        else Gives (IsSpot (cut_place p from to))) ≡ Gives d → IsCut p from to d
    by true two three four a b c e gives = absurd (cc)
    by false true three four a b c e gives = absurd (cc)
    by false false true four a b c e gives = absurd (cc)
    by false false false true a b c e gives = absurd (cc)
    by false false false false a b c e gives = record { not_before = a; not_behind = b; in_order = c; within = e; is = cc }

-- the places of a substring in natural numbers
pub record AreOrdered (from to width : ℕ) : Type 0 where
  pub one : 1 ≤ from
  pub order : from ≤ to
  pub last : to ≤ width

at_least_one : (z : ℤ) → int_lt z (pos 1) ≡ false → 1 ≤ nat_abs z
at_least_one z is = grind (arith, ints)

in_this_order : (y z : ℤ) → int_lt y (pos 1) ≡ false → int_lt z y ≡ false → nat_abs y ≤ nat_abs z
in_this_order y z one is = grind (arith, ints)

not_past : (y z : ℤ) (width : ℕ) → int_lt y (pos 1) ≡ false → int_lt z y ≡ false → int_lt (pos width) z ≡ false → nat_abs z ≤ width
not_past y z width one order is = grind (arith, ints)

pub are_ordered : (p : Spot) (from to : ℤ) (d : Datum) → IsCut p from to d → AreOrdered (nat_abs from) (nat_abs to) p.width
are_ordered p from to d is = record {
  one = at_least_one from is.not_before;
  order = in_this_order from to is.not_before is.in_order;
  last = not_past from to p.width is.not_before is.in_order is.within;
}

pub cut_sound : (μ : World) (p : Spot) (from to : ℤ) (d : Datum) → IsSound μ p → p.basic ≡ Character → p.width ≤ p.extent → IsCut p from to d → IsSound μ (cut_place p from to)
cut_sound μ p from to d sound basic fits is =
    let ordered = are_ordered p from to d is in
    let one = ordered.one in
    let order = ordered.order in
    let last = ordered.last in
    let inside = sound.inside in
    record {
      there = sound.there;
      shaped = subst (λ kind. HasShape kind (cut_place p from to)) (sym basic) (omega (arith, one, order));
      inside = omega (arith, one, order, last, inside, fits);
    }

pub substring_sound : (μ : World) (x : Bytes) (p : Spot) (from to : ℤ) (d : Datum) → IsSound μ p → p.basic ≡ Character → p.width ≤ p.extent → cut x p from to ≡ Gives d →
    IsSound μ (cut_place p from to)
substring_sound μ x p from to d sound basic fits gives = cut_sound μ p from to d sound basic fits (is_cut x p from to d gives)

-- ## A place stays sound while the world grows

pub sound_later : (μ ν : World) (p : Spot) → Extends μ ν → IsSound μ p → IsSound ν p
sound_later μ ν p extends sound = record {
  there = (let there = sound.there in let higher = extends.higher in omega (arith, there, higher));
  shaped = sound.shaped;
  inside = subst (λ size. p.first + p.extent ≤ size) (sym (extends.size p.sequence sound.there)) sound.inside;
}
