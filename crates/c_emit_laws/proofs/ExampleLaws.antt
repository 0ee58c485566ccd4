-- The example is known, and its values are written as it says.
use Rattle.std.specs.Prelude.{◌≡◌, ℕ, zero, suc, pos, true, Some, None, slice_get, List, []}
use Rattle.std.proofs.Common.{refl, sym, ap, ◌∙◌, subst, arith}
use Rattle.c_emit.specs.f_tree.declared.names.Basic.TheVariants.{Integer}
use Rattle.c_emit.specs.f_tree.Values.{Bytes, Spot, Datum, IsInt, IsSpot, Gives, in_range, values_opened}
use Rattle.c_emit.specs.f_tree.Store.{Whole, Number, store_opened}
use Rattle.c_emit.specs.f_tree.Valuing.{whole, bounds_of, valuing_opened}
use Rattle.c_emit.specs.l_core.Pures.{meant, pures_opened}
use Rattle.c_emit.specs.c_image.Addresses.{Reaches, IsSound, Through}
use Rattle.c_emit.specs.c_image.Held.{whole_for, Holds}
use Rattle.c_image_laws.specs.Example.{two_homes, two_sequences, three_objects}
use Rattle.c_image_laws.specs.Meanings.{Means}
use Rattle.c_image_laws.proofs.ExampleStands.{example_stands}
use Rattle.c_emit.specs.Numbers.{value_term, place_term, numbers_opened}
use Rattle.c_emit.specs.LibraryFunctions.{library_functions_opened}
use Rattle.c_emit.specs.Calls.{calls_opened}
use Rattle.c_emit.specs.Flats.{flat_of, flats_opened}
use Rattle.c_emit_laws.specs.EmittedNumbers.{IsKnown}
use Rattle.c_emit_laws.specs.Example.{its_writing, its_frame, holds_five, one_integer, a_sum, its_term, writing_by, lower_bounds, sizes, array_writing, an_element, its_place, a_relation, its_test, a_power, its_call}
use Rattle.c_emit_laws.proofs.NumberLaws.{numbers_are_emitted}

abbrev its_spot : Spot
its_spot = record { basic = Integer; sequence = 0; first = 0; extent = 4; width = 4 }

named : (x : Bytes) → whole one_integer its_frame x ≡ Gives (IsSpot its_spot)
unfolding valuing_opened
named x = refl

same_spot : (x : Bytes) (p : Spot) → whole one_integer its_frame x ≡ Gives (IsSpot p) → its_spot ≡ p
same_spot x p is = let both : Gives (IsSpot its_spot) ≡ Gives (IsSpot p) = sym (named x) ∙ is in cc

spot_sound : IsSound two_homes its_spot
spot_sound = record { there = omega arith; shaped = (refl, refl); inside = omega arith }

five_fits : in_range (pos 5) ≡ true
unfolding values_opened
five_fits = refl

held : (k : ℕ) (d : Datum) → holds_five k ≡ Some d → Holds (two_homes.frozen 2) d
held zero d is = let same : IsInt (pos 5) ≡ d = (let h = is in cc) in subst (Holds (two_homes.frozen 2)) same (record { bytes = _; is = refl; begins = (five_fits, refl) })
held (suc k) d is = absurd (cc)

no_bounds : (x : Bytes) → bounds_of one_integer its_frame x ≡ []
unfolding valuing_opened
no_bounds x = refl

none_there : {A : Type 0} (k : ℕ) (b : A) → slice_get [] k ≡ Some b → ⊥
none_there zero b h = cc
none_there (suc k) b h = cc

none_at : {A : Type 0} (xs : List A) (k : ℕ) (b : A) → xs ≡ [] → slice_get xs k ≡ Some b → ⊥
none_at xs k b none is = none_there k b (sym (ap (λ l. slice_get l k) none) ∙ is)

five_is_number : (k : ℕ) (d : Datum) → holds_five k ≡ Some d → (value : Whole) × (whole_for d ≡ Some value)
five_is_number zero d is = let same : IsInt (pos 5) ≡ d = (let h = is in cc) in subst (λ e. (value : Whole) × (whole_for e ≡ Some value)) same (Number (pos 5), refl)
five_is_number (suc k) d is = absurd (cc)

pub example_known : IsKnown two_homes its_writing its_frame holds_five
example_known = record {
  knows = record {
    sound = λ x p is. subst (IsSound two_homes) (same_spot x p is) spot_sound;
    reaches = λ x p is. subst (λ q. Reaches two_homes q (its_writing.naming.address x)) (same_spot x p is) (refl, refl);
    lengths = λ x n has is. absurd (cc);
    lowers = λ x k b is. absurd (none_at _ k b (no_bounds x) is);
    sizes = λ x k b u is upper. absurd (none_at _ k b (no_bounds x) is);
    kept = held;
  };
  spots = λ x d holds is. (its_spot, (let both : Gives d ≡ Gives (IsSpot its_spot) = sym is ∙ named x in cc));
  types = λ x p is. ap (λ (q : Spot). q.basic) (sym (same_spot x p is));
  numbers = λ k d is holds. five_is_number k d is;
  bounds = λ x k b is. absurd (none_at _ k b (no_bounds x) is);
  closed = λ x k b is low. absurd (none_at _ k b (no_bounds x) is);
}

pub sum_written : value_term its_writing a_sum ≡ Some its_term
unfolding numbers_opened
sum_written = refl

pub element_written : place_term array_writing an_element ≡ Some its_place
unfolding numbers_opened values_opened
element_written = refl

pub relation_written : value_term (writing_by (Through 6) lower_bounds sizes) a_relation ≡ Some its_test
unfolding numbers_opened values_opened
relation_written = refl

pub call_written : flat_of its_writing (λ n. n) (λ label. None) 0 a_power ≡ Some its_call
unfolding flats_opened calls_opened numbers_opened library_functions_opened
call_written = refl

sum_meant : meant one_integer its_frame holds_five two_sequences a_sum ≡ Gives (IsInt (pos 7))
unfolding pures_opened valuing_opened values_opened store_opened
sum_meant = refl

pub sum_means : Means three_objects its_term (IsInt (pos 7))
sum_means = numbers_are_emitted two_homes two_sequences three_objects its_writing its_frame holds_five a_sum its_term (IsInt (pos 7)) example_stands example_known sum_written sum_meant
