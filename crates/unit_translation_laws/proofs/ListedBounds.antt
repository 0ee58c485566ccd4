-- The bounds of the dummy arrays of a unit as its translation asks for them: those that are kept are listed by their values, and those of other names are not.
use Rattle.std.specs.List.{list_all}
use Rattle.std.specs.Prelude.{◌≡◌, ℕ, true, ◌&&◌, [], ◌∷◌, List, position, Some, slice_get}
use Rattle.std.proofs.Common.{refl, sym, ap, ◌∙◌, subst}
use Rattle.std.proofs.lemmas.Bool.{and_parts}
use Rattle.unit_translation.specs.f_tree.Values.{Bytes}
use Rattle.unit_translation.specs.f_tree.Facts.{Dimension, Formal, Named, Alternate, Facts}
use Rattle.unit_translation.specs.f_tree.Setting.{IsIn}
use Rattle.unit_translation.specs.faithful.Signatures.{named_formals}
use Rattle.unit_translation.specs.procedure_emission.kept_bounds.KeptBounds.{size_pure, is_adjustable, dimension_is_pure, only_last_assumes, has_adjustable_bounds}
use Rattle.unit_translation.specs.procedure_emission.DummyBounds.{dummies_named, IsBoundValue, of_lower, of_size}
use Rattle.unit_translation.specs.unit_file.UnitFile.{KeptBound, Inventory, is_bound}
use Rattle.unit_translation.specs.UnitBounds.{formals_in, bounds_kept}
use Rattle.unit_programs.specs.TranslatedUnits.{IsKept, BoundsAreKept}
use Rattle.unit_translation_laws.proofs.KeptBounds.{lower_bound, size_bound, IsBoundOf, its_lower, its_size, kept_in}
use Rattle.unit_translation_laws.proofs.KeptPlaces.{found_there, lower_value, upper_value, has_upper}

pub dummies_are : (formals : List Formal) → dummies_named formals ≡ named_formals formals
unfolding named_formals
dummies_are [] = refl
dummies_are (Named x ∷ formals) = ap (λ xs. x ∷ xs) (dummies_are formals)
dummies_are (Alternate ∷ formals) = dummies_are formals

-- what the test of adjustable bounds says
pub record AreAdjustable (c : Facts) (x : Bytes) : Type 0 where
  pub adjustable : is_adjustable (c.program.attribute x) ≡ true
  pub pure : list_all dimension_is_pure (c.program.attribute x).dimensions ≡ true
  pub closed : only_last_assumes (c.program.attribute x).dimensions ≡ true

pub adjustable_parts : (c : Facts) (x : Bytes) → has_adjustable_bounds (c.program.attribute x) ≡ true → AreAdjustable c x
unfolding has_adjustable_bounds
adjustable_parts c x h =
    let parts = and_parts (is_adjustable (c.program.attribute x)) (list_all dimension_is_pure (c.program.attribute x).dimensions && only_last_assumes (c.program.attribute x).dimensions) h in
    let rest = and_parts (list_all dimension_is_pure (c.program.attribute x).dimensions) (only_last_assumes (c.program.attribute x).dimensions) parts.1 in
    record { adjustable = parts.0; pure = rest.0; closed = rest.1 }

-- a kept bound has the value of its dimension
value_is : (c : Facts) (formals : List Formal) (x : Bytes) (k : ℕ) (d : Dimension) (one : KeptBound) → IsIn x (named_formals formals) → slice_get (c.program.attribute x).dimensions k ≡ Some d → IsBoundOf x k d one → IsBoundValue c formals one.value
value_is c formals x k d one among stands (its_lower p lower is) =
    of_lower x k d (subst (IsIn x) (sym (dummies_are formals)) among) stands (lower ∙ ap Some (ap (λ (b : KeptBound). b.value) (sym is)))
value_is c formals x k d one among stands (its_size t lower upper has below above is) =
    of_size x k d t lower upper (subst (IsIn x) (sym (dummies_are formals)) among) stands has below above (ap (λ (b : KeptBound). b.value) (sym is))

module _ (c : Facts) (v : Inventory) (same : v.bounds ≡ bounds_kept c.program) where
  kept_by : (x : Bytes) (k : ℕ) (d : Dimension) (one : KeptBound) → IsIn x (named_formals (formals_in c.program.entries)) → is_adjustable (c.program.attribute x) ≡ true → slice_get (c.program.attribute x).dimensions k ≡ Some d → IsBoundOf x k d one
      → IsKept v x k one.kind one.value
  kept_by x k d one among adjustable stands bound =
      let found = found_there c.program x k d one among adjustable stands bound in
      record {
        place = found.index;
        one = found.found;
        placed = ap (position (is_bound x k one.kind)) same ∙ found.place;
        at = ap (λ bs. slice_get bs found.index) same ∙ found.at;
        value = ap (λ (b : KeptBound). b.value) found.same;
      }

  pub bounds_are_kept : (x : Bytes) → IsIn x (named_formals (formals_in c.program.entries)) → has_adjustable_bounds (c.program.attribute x) ≡ true → BoundsAreKept c v x
  bounds_are_kept x among h =
      let is = adjustable_parts c x h in
      let ds = (c.program.attribute x).dimensions in
      record {
        lowers = λ k d stands. let p = lower_value ds k d is.pure stands in (p.0, p.1, kept_by x k d (lower_bound x k p.0) among is.adjustable stands (its_lower p.0 p.1 refl));
        sizes = λ k d t stands upper.
            let p = lower_value ds k d is.pure stands in
            let q = upper_value ds k d t is.pure stands upper in
            (p.0, q.0, p.1, q.1, kept_by x k d (size_bound x k (size_pure p.0 q.0)) among is.adjustable stands (its_size t p.0 q.0 upper p.1 q.1 refl));
        closed = λ k d stands more. has_upper ds k d is.closed stands more;
      }

  pub value_kept : (one : KeptBound) → IsIn one (bounds_kept c.program) → IsBoundValue c (formals_in c.program.entries) one.value
  value_kept one o = let found = kept_in c.program one o in value_is c (formals_in c.program.entries) found.array found.index found.dimension one found.among found.stands found.bound
