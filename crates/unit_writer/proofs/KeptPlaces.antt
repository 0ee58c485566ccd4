-- What a unit keeps of its dummy arrays: of no dimension that an array does not have.
use Rattle.std.specs.List.{list_any, flat_map}
use Rattle.std.specs.Prelude.{◌≡◌, ℕ, suc, ◌+◌, ◌≤◌, nat_eq, Bool, true, false, ◌&&◌, ◌||◌, List, [], ◌∷◌, ◌++◌, length, position, bytes_eq, Option, Some, None, is_some, option_and_then, if◌then◌else◌}
use Rattle.std.proofs.Common.{refl, sym, ap, subst, ◌∙◌, arith}
use Rattle.std.proofs.lemmas.Bool.{eqb-true}
use Rattle.std.proofs.lemmas.List.Concat.{flat_map-cons}
use Rattle.std.proofs.lemmas.List.Folds.{list_any-append}
use Rattle.std.proofs.lemmas.Slice.Eq.{bytes_eq-Decides}
use Rattle.f_tree.specs.Values.{Bytes}
use Rattle.f_tree.specs.Facts.{Dimension, Attribute, ProgramUnit}
use Rattle.c_emit.specs.faithful.Signatures.{named_formals}
use Rattle.lowered_tree.specs.l_core.Pures.{Pure}
use Rattle.procedure_emission.specs.kept_bounds.KeptBounds.{bound_pure, is_adjustable}
use Rattle.unit_translation.specs.unit_file.UnitFile.{BoundKind, LowerOf, SizeOf, KeptBound, is_bound, is_same_kind}
use Rattle.unit_translation.specs.UnitBounds.{lower_kept, size_kept, dimension_kept, dimensions_kept, array_kept, formals_in, bounds_kept}
use Rattle.unit_writer.proofs.PlaceLemmas.{any_position}

apart_by : (b c d : Bool) → (b ≡ true → c ≡ true → ⊥) → (b && (c && d) || false) ≡ false
apart_by true true d h = absurd (h refl refl)
apart_by true false d h = refl
apart_by false c d h = refl

both_false : (b c : Bool) → b ≡ false → c ≡ false → (b || c) ≡ false
both_false b c one other = λ i. one i || other i

none_there : (o : Option ℕ) → is_some o ≡ false → o ≡ None
none_there None is = refl
none_there (Some n) is = absurd (cc)

module _ (x : Bytes) (k : ℕ) (kind : BoundKind) where
  abbrev test : KeptBound → Bool
  test = is_bound x k kind

  none_of : (xs ys : List KeptBound) → list_any test xs ≡ false → list_any test ys ≡ false → list_any test (xs ++ ys) ≡ false
  none_of xs ys one other = list_any-append test xs ys ∙ both_false (list_any test xs) (list_any test ys) one other

  lower_none : (y : Bytes) (j : ℕ) (o : Option Pure) → (bytes_eq x y ≡ true → nat_eq k j ≡ true → ⊥) → list_any test (lower_kept y j o) ≡ false
  unfolding lower_kept is_bound
  lower_none y j None apart = refl
  lower_none y j (Some p) apart = apart_by (bytes_eq x y) (nat_eq k j) (is_same_kind kind LowerOf) apart

  size_none : (y : Bytes) (j : ℕ) (lower upper : Option Pure) → (bytes_eq x y ≡ true → nat_eq k j ≡ true → ⊥) → list_any test (size_kept y j lower upper) ≡ false
  unfolding size_kept is_bound
  size_none y j None upper apart = refl
  size_none y j (Some p) None apart = refl
  size_none y j (Some p) (Some q) apart = apart_by (bytes_eq x y) (nat_eq k j) (is_same_kind kind SizeOf) apart

  dimension_none : (y : Bytes) (j : ℕ) (d : Dimension) → (bytes_eq x y ≡ true → nat_eq k j ≡ true → ⊥) → list_any test (dimension_kept y j d) ≡ false
  unfolding dimension_kept
  dimension_none y j d apart =
      none_of (lower_kept y j (bound_pure d.lower)) (size_kept y j (bound_pure d.lower) (option_and_then bound_pure d.upper)) (lower_none y j (bound_pure d.lower) apart)
      (size_none y j (bound_pure d.lower) (option_and_then bound_pure d.upper) apart)

  dimensions_none : (y : Bytes) (j : ℕ) (ds : List Dimension) → (bytes_eq x y ≡ true → j + length ds ≤ k) → list_any test (dimensions_kept y j ds) ≡ false
  unfolding dimensions_kept
  dimensions_none y j [] past = refl
  dimensions_none y j (d ∷ ds) past =
      none_of (dimension_kept y j d) (dimensions_kept y (suc j) ds)
      (dimension_none y j d (λ same here. let within : j + suc (length ds) ≤ k = past same in let is : k ≡ j = eqb-true k j here in omega arith))
      (dimensions_none y (suc j) ds (λ same. let within : j + suc (length ds) ≤ k = past same in omega arith))

  array_none : (y : Bytes) (a : Attribute) → (bytes_eq x y ≡ true → length a.dimensions ≤ k) → list_any test (array_kept y a) ≡ false
  unfolding array_kept
  array_none y a past = by (is_adjustable a)
    where
      by : (b : Bool) → list_any test (if b then dimensions_kept y 0 a.dimensions else []) ≡ false
      by true = dimensions_none y 0 a.dimensions (λ same. let within : length a.dimensions ≤ k = past same in omega arith)
      by false = refl

  arrays_none : (attribute : Bytes → Attribute) → length (attribute x).dimensions ≤ k → (ys : List Bytes) → list_any test (flat_map (λ y. array_kept y (attribute y)) ys) ≡ false
  arrays_none attribute past [] = refl
  arrays_none attribute past (y ∷ ys) =
      ap (list_any test) (flat_map-cons (λ z. array_kept z (attribute z)) y ys)
      ∙ none_of (array_kept y (attribute y)) (flat_map (λ z. array_kept z (attribute z)) ys)
      (array_none y (attribute y) (λ same. subst (λ (z : Bytes). length (attribute z).dimensions ≤ k) ((bytes_eq-Decides x y).0 same) past)) (arrays_none attribute past ys)

  pub none_kept : (unit : ProgramUnit) → length (unit.attribute x).dimensions ≤ k → position test (bounds_kept unit) ≡ None
  unfolding bounds_kept
  none_kept unit past =
      none_there (position test (bounds_kept unit)) (sym (any_position test (bounds_kept unit)) ∙ arrays_none unit.attribute past (named_formals (formals_in unit.entries)))
