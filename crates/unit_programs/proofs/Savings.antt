-- What a function keeps of its dummy arrays, and the items for that, each at its place before those of the steps.
use Rattle.std.specs.Prelude.{◌≡◌, ℕ, zero, suc, ◌+◌, List, [], ◌∷◌, length, Option, Some, slice_get}
use Rattle.std.proofs.Common.{refl, sym, ap, ◌∙◌, subst, arith}
use Rattle.emitted_procedures.specs.c_tree.Flat.{Flat}
use Rattle.emitted_procedures.specs.c_emit.Numbers.{Writing}
use Rattle.emitted_procedures.specs.procedure_emission.bound_items.BoundItems.{Saving, saving_item}
use Rattle.unit_file_laws.proofs.linking_laws.Places.{some_same}
use Rattle.unit_file_laws.proofs.main_file_laws.BuiltItems.{before_by}
use Rattle.unit_file_laws.specs.unit_file.UnitFile.{KeptBound}
use Rattle.unit_file_laws.specs.unit_file.UnitSavings.{savings_from}
use Rattle.unit_file_laws.specs.BuiltUnits.{saving_items}

-- ## What is kept

abbrev pub saving_for : ℕ → KeptBound → Saving
saving_for object one = record { object = object; value = one.value }

pub savings_many : (first : ℕ) (bounds : List KeptBound) → length (savings_from first bounds) ≡ length bounds
unfolding savings_from
savings_many first [] = refl
savings_many first (one ∷ later) = ap suc (savings_many (suc first) later)

pub saving_there : (first : ℕ) (bounds : List KeptBound) (i : ℕ) (one : KeptBound) → slice_get bounds i ≡ Some one → slice_get (savings_from first bounds) i ≡ Some (saving_for (first + i) one)
unfolding savings_from
saving_there first [] i one at = absurd (cc)
saving_there first (x ∷ later) zero one at = let here : first ≡ first + 0 = omega arith in λ i. Some (saving_for (here i) (some_same x one at i))
saving_there first (x ∷ later) (suc i) one at = saving_there (suc first) later i one at ∙ ap (λ object. Some (saving_for object one)) {x = suc first + i} {y = first + suc i} (omega arith)

-- it is a bound that is listed, by its object
pub record IsOfBound (first : ℕ) (bounds : List KeptBound) (i : ℕ) (saving : Saving) : Type 0 where
  pub one : KeptBound
  pub at : slice_get bounds i ≡ Some one
  pub object : saving.object ≡ first + i
  pub value : one.value ≡ saving.value

pub saving_back : (first : ℕ) (bounds : List KeptBound) (i : ℕ) (saving : Saving) → slice_get (savings_from first bounds) i ≡ Some saving → IsOfBound first bounds i saving
unfolding savings_from
saving_back first [] i saving h = absurd (cc)
saving_back first (x ∷ later) zero saving h =
    let same = some_same (saving_for first x) saving h in
    let object : first ≡ saving.object = ap (λ (s : Saving). s.object) same in
    record { one = x; at = refl; object = omega (arith, object); value = ap (λ (s : Saving). s.value) same }
saving_back first (x ∷ later) (suc i) saving h =
    let found = saving_back (suc first) later i saving h in
    let object = found.object in
    record { one = found.one; at = found.at; object = omega (arith, object); value = found.value }

-- ## Items

-- the item for what is kept
pub record IsSavedAt (w : Writing) (one : Saving) (items : List Flat) (i : ℕ) : Type 0 where
  pub item : Flat
  pub emitted : saving_item w one ≡ Some item
  pub at : slice_get items i ≡ Some item

saved_behind : (w : Writing) (one : Saving) (item : Flat) (items : List Flat) (i : ℕ) → IsSavedAt w one items i → IsSavedAt w one (item ∷ items) (suc i)
saved_behind w one item items i is = record { item = is.item; emitted = is.emitted; at = is.at }

pub saved_at : (w : Writing) (savings : List Saving) (rest : Option (List Flat)) (items : List Flat) (i : ℕ) (one : Saving) → saving_items w savings rest ≡ Some items → slice_get savings i ≡ Some one → IsSavedAt w one items i
unfolding saving_items
saved_at w [] rest items i one h at = absurd (cc)
saved_at w (x ∷ later) rest items zero one h at =
    let parts = before_by (saving_item w x) (saving_items w later rest) items h in
    record { item = parts.item; emitted = ap (saving_item w) (sym (some_same x one at)) ∙ parts.item_is; at = ap (λ xs. slice_get xs 0) (sym parts.is) }
saved_at w (x ∷ later) rest items (suc i) one h at =
    let parts = before_by (saving_item w x) (saving_items w later rest) items h in
    subst (λ xs. IsSavedAt w one xs (suc i)) parts.is (saved_behind w one parts.item parts.later i (saved_at w later rest parts.later i one parts.later_is at))

-- the items behind those
pub record StandBehindThem (savings : List Saving) (rest : Option (List Flat)) (items : List Flat) : Type 0 where
  pub later : List Flat
  pub is : rest ≡ Some later
  pub many : length items ≡ length savings + length later
  pub at : (n : ℕ) → slice_get items (length savings + n) ≡ slice_get later n

one_more_before : (x : Saving) (savings : List Saving) (rest : Option (List Flat)) (item : Flat) (items : List Flat) → StandBehindThem savings rest items → StandBehindThem (x ∷ savings) rest (item ∷ items)
one_more_before x savings rest item items is =
    let many = is.many in
    record {
      later = is.later;
      is = is.is;
      many = omega (arith, many);
      at = λ n. ap (slice_get (item ∷ items)) {x = suc (length savings) + n} {y = suc (length savings + n)} (omega arith) ∙ is.at n;
    }

pub behind_savings : (w : Writing) (savings : List Saving) (rest : Option (List Flat)) (items : List Flat) → saving_items w savings rest ≡ Some items → StandBehindThem savings rest items
unfolding saving_items
behind_savings w [] rest items h = record { later = items; is = h; many = omega arith; at = λ n. ap (slice_get items) {x = 0 + n} {y = n} (omega arith) }
behind_savings w (x ∷ later) rest items h =
    let parts = before_by (saving_item w x) (saving_items w later rest) items h in
    subst (StandBehindThem (x ∷ later) rest) parts.is (one_more_before x later rest parts.item parts.later (behind_savings w later rest parts.later parts.later_is))
