-- The names of what a unit keeps of its dummy arrays are told apart. ANSI X3.9-1978, sections 2.2 and 5.5.1; C89, 3.1.2.
use Rattle.std.specs.Prelude.{◌≡◌, ℕ, zero, suc, ◌+◌, ◌<◌, ◌^◌, List, map, length, Some, slice_get}
use Rattle.std.proofs.Common.{refl, sym, ap, ◌∙◌, arith}
use Rattle.named_units.specs.f_tree.Setting.{IsIn}
use Rattle.named_units.specs.l_core.Steps.{Step}
use Rattle.named_main_laws.proofs.main_translation_laws.linking_laws.Places.{some_same, map_at}
use Rattle.named_main_laws.proofs.main_translation_laws.Lists.{AreApart, none_apart, one_apart, in_at}
use Rattle.bound_names.specs.BoundNames.{IsBoundName}
use Rattle.named_units.specs.unit_file.UnitFile.{KeptBound, Inventory, bound_name}
use Rattle.named_units.specs.unit_translation.behind_bounds.BehindBounds.{steps_behind}
use Rattle.named_units.specs.unit_translation.UnitContents.{LoweredUnit, bounds_kept, inventory_of}
use Rattle.unit_translation_laws.specs.PlainUnits.{IsPlainUnit}
use Rattle.unit_translation_laws.proofs.KeptNames.{bound_named, names_apart}
use Rattle.unit_translation_laws.proofs.KeptBounds.{place_below}
use Rattle.unit_translation_laws.proofs.Listed.{formals_apart, pure_dimensions}

-- each name is that of a bound, and no two are alike
pub record BoundsAreTold (v : Inventory) : Type 0 where
  pub kept : AreApart (map bound_name v.bounds)
  pub kept_named : (one : KeptBound) → IsIn one v.bounds → IsBoundName (bound_name one)

apart_at : {A : Type 0} (xs : List A) → AreApart xs → (i k : ℕ) (x : A) → slice_get xs i ≡ Some x → slice_get xs k ≡ Some x → i ≡ k
apart_at _ none_apart i k x at also = absurd (cc)
apart_at _ (one_apart {x = y} {xs = xs} others later) zero zero x at also = refl
apart_at _ (one_apart {x = y} {xs = xs} others later) zero (suc k) x at also = absurd (others x (in_at xs k x also) (some_same y x at))
apart_at _ (one_apart {x = y} {xs = xs} others later) (suc i) zero x at also = absurd (others x (in_at xs i x at) (some_same y x also))
apart_at _ (one_apart {x = y} {xs = xs} others later) (suc i) (suc k) x at also = ap suc (apart_at xs later i k x at also)

-- so one name stands at one place
pub bound_places : (v : Inventory) → BoundsAreTold v → (i k : ℕ) (one other : KeptBound) → slice_get v.bounds i ≡ Some one → slice_get v.bounds k ≡ Some other → bound_name one ≡ bound_name other → i ≡ k
bound_places v told i k one other at also same =
    apart_at (map bound_name v.bounds) told.kept i k (bound_name one) (map_at bound_name v.bounds i one at) (map_at bound_name v.bounds k other also ∙ ap Some (sym same))

behind_count : (first : ℕ) (steps : List Step) → length (steps_behind first steps) ≡ first + length steps
unfolding steps_behind
behind_count zero steps = omega arith
behind_count (suc first) steps = let rest = behind_count first steps in omega (arith, rest)

pub bounds_told : (us : List LoweredUnit) (j : ℕ) (u : LoweredUnit) → IsPlainUnit us j u → BoundsAreTold (inventory_of us u)
bounds_told us j u plain = record {
  kept = names_apart u.unit (formals_apart us j u plain.name plain.formals plain.entry plain.dummies.distinct) small;
  kept_named = λ one o. bound_named one (small one o);
}
  where
    small : (one : KeptBound) → IsIn one (bounds_kept u.unit) → suc one.place < 2 ^ 64
    small one o =
        let below = place_below u.unit one (pure_dimensions us j u plain.name plain.formals plain.entry plain.dummies) o in
        let long = behind_count (length (bounds_kept u.unit)) u.text.steps in
        let fits = plain.text.steps in omega (arith, below, long, fits)
