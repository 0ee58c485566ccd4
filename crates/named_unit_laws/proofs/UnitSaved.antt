-- Where the bounds that a unit keeps have items by names, they have flat items, whose names they are. ANSI X3.9-1978, section 5.5.1; C89, 3.3.16.
use Rattle.std.specs.Prelude.{◌≡◌, ℕ, zero, suc, ◌+◌, List, [], ◌∷◌, length, drop, Option, Some, option_and_then, slice_get}
use Rattle.std.proofs.Common.{refl, ap, ◌∙◌, arith}
use Rattle.named_units.specs.c_tree.Flat.{Flat}
use Rattle.named_units.specs.c_structure.Expressions.{Names}
use Rattle.named_units.specs.c_emit.Numbers.{Writing}
use Rattle.named_units.specs.main_file.MainItems.{item_before}
use Rattle.named_units.specs.procedure_emission.bound_items.BoundItems.{Saving, saving_item}
use Rattle.named_units.specs.unit_file.UnitFile.{KeptBound}
use Rattle.named_units.specs.unit_file.UnitItems.{saving_items}
use Rattle.named_units.specs.unit_file.UnitSavings.{savings_from}
use Rattle.named_units.specs.named_items.declared.item.Item.{Item}
use Rattle.named_units.specs.named_items.Items.{item_for, before_items, items_for}
use Rattle.named_units.specs.item_emission.NamedEmission.{Knowledge}
use Rattle.named_units.specs.NamedUnits.{bound_items_from}
use Rattle.named_units.specs.unit_item_laws.AgreeingUnits.{bound_step}
use Rattle.named_main_laws.proofs.NamedSteps.{ahead_of, flat_item}

pub savings_count : (first : ℕ) (bounds : List KeptBound) → length (savings_from first bounds) ≡ length bounds
unfolding savings_from
savings_count first [] = refl
savings_count first (one ∷ later) = ap suc (savings_count (suc first) later)

-- what stands in a list behind some
pub behind_at : {A : Type 0} (n : ℕ) (xs : List A) (i k : ℕ) (x : A) → k ≡ n + i → slice_get (drop n xs) i ≡ Some x → slice_get xs k ≡ Some x
behind_at zero xs i k x at got = ap (slice_get xs) {x = k} {y = i} (omega (arith, at)) ∙ got
behind_at (suc n) [] i k x at got = absurd (cc)
behind_at (suc n) (y ∷ xs) i zero x at got = absurd (let no : ⊥ = omega (arith, at) in no)
behind_at (suc n) (y ∷ xs) i (suc k) x at got = behind_at n xs i k x (omega (arith, at)) got

-- flat items, whose names some items are
pub record AreNamed (found : Option (List Flat)) (names : Names) (items : List Item) : Type 0 where
  pub flats : List Flat
  pub emitted : found ≡ Some flats
  pub named : items_for names flats ≡ Some items

abbrev saving_at : ℕ → KeptBound → Saving
saving_at k one = record { object = k; value = one.value }

module _ (w : Writing) (names : Names) (known : Knowledge) where
  -- what the item by which a bound is kept in an object is by names
  abbrev Agrees : ℕ → KeptBound → Type 0
  Agrees k one = option_and_then (item_for names) (saving_item w (saving_at k one)) ≡ bound_step known one

  pub bounds_are_flat : (first : ℕ) (bounds : List KeptBound) (later_items : Option (List Item)) (later_flats : Option (List Flat)) (items : List Item) → ((i : ℕ) (one : KeptBound) → slice_get bounds i ≡ Some one → Agrees (first + i) one)
      → ((later : List Item) → later_items ≡ Some later → AreNamed later_flats names later) → bound_items_from known bounds later_items ≡ Some items → AreNamed (saving_items w (savings_from first bounds) later_flats) names items
  unfolding bound_items_from savings_from saving_items item_before items_for before_items
  bounds_are_flat first [] later_items later_flats items agree later h = later items h
  bounds_are_flat first (one ∷ bounds) later_items later_flats items agree later h =
      let s = ahead_of (bound_step known one) (bound_items_from known bounds later_items) items h in
      let here : Agrees first one = ap (λ k. option_and_then (item_for names) (saving_item w (saving_at k one))) {x = first} {y = first + 0} (omega arith) ∙ agree 0 one refl in
      let kept = flat_item names (saving_item w (saving_at first one)) s.item (here ∙ s.item_is) in
      let rest = bounds_are_flat (suc first) bounds later_items later_flats s.later
      (λ i other at. ap (λ k. option_and_then (item_for names) (saving_item w (saving_at k other))) {x = suc first + i} {y = first + suc i} (omega arith) ∙ agree (suc i) other at) later s.later_is in
      record {
        flats = kept.0 ∷ rest.flats;
        emitted = λ i. item_before (kept.1 i) (rest.emitted i);
        named = (λ i. before_items (kept.2 i) (rest.named i)) ∙ ap Some s.is;
      }
