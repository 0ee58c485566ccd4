-- Where steps have items by names, they have flat items, whose names they are. ANSI X3.9-1978, sections 10 to 12; C89, 3.6.
use Rattle.std.specs.Prelude.{◌≡◌, ℕ, zero, suc, ◌+◌, nat_eq, Bool, true, false, ◌&&◌, List, [], ◌∷◌, position, Option, Some, None, option_map, option_and_then, slice_get}
use Rattle.std.proofs.Common.{refl, sym, ap, ◌∙◌, subst, arith}
use Rattle.std.proofs.lemmas.Bool.{eq-eqb}
use Rattle.named_mains.specs.f_tree.Facts.{Facts, Output, Listed, Controls}
use Rattle.named_mains.specs.f_tree.Values.{Bytes, IsInt, in_range}
use Rattle.named_mains.specs.l_core.Pures.{Constant, Pures, NoPure, AndPure}
use Rattle.named_mains.specs.l_core.Steps as step
use Rattle.named_mains.specs.l_core.Steps.{Step, Halt}
use Rattle.main_translation_laws.proofs.linking_laws.Places.{position_step, taken, skipped}
use Rattle.c_spelling.specs.c_tree.Flat.{Flat}
use Rattle.named_mains.specs.c_structure.Expressions.{Names}
use Rattle.named_mains.specs.c_emit.Calls.{is_plain}
use Rattle.named_mains.specs.main_file.MainFile.{Inventory}
use Rattle.named_mains.specs.main_file.MainItems.{item_before, stops_from}
use Rattle.named_mains.specs.named_items.declared.item.Item.{Item}
use Rattle.named_mains.specs.named_items.Items.{item_for, before_items, items_for}
use Rattle.named_mains.proofs.named_items.NamedItems.{some_same, mapped_by}
use Rattle.named_mains.specs.item_emission.NamedEmission.{Knowledge, Kinds, start_call, start_if, start_step, acting_step, item_step}
use Rattle.named_mains.specs.item_emission.Agreeing.{known_in, IsListed}
use Rattle.named_mains.specs.NamedMains.{item_ahead, items_from}
use Rattle.named_main_laws.proofs.NamedValues.{EmitsEach}

-- ## What is listed

-- the string of STOP
pub stop_placed : (n i k : ℕ) (steps : List Step) (text : Bytes) → k ≡ n + i → slice_get steps i ≡ Some (Halt text) → (j : ℕ) × (position (nat_eq k) (stops_from n steps) ≡ Some j)
unfolding stops_from
stop_placed n i k [] text there at = absurd (cc)
stop_placed n zero k (st ∷ later) text there at =
    subst (λ s. (j : ℕ) × (position (nat_eq k) (stops_from n (s ∷ later)) ≡ Some j)) (sym (some_same st (Halt text) at))
    (0, position_step (nat_eq k) n (stops_from (suc n) later) ∙ taken (nat_eq k n) (Some 0) (option_map suc (position (nat_eq k) (stops_from (suc n) later))) (eq-eqb k n (omega (arith, there))))
stop_placed n (suc i) k (st ∷ later) text there at = passed st (stop_placed (suc n) i k later text (omega (arith, there)) at)
  where
    by : (t : Bool) → nat_eq k n ≡ t → (j : ℕ) × (position (nat_eq k) (stops_from (suc n) later) ≡ Some j) → (j : ℕ) × (position (nat_eq k) (n ∷ stops_from (suc n) later) ≡ Some j)
    by true is found = (0, position_step (nat_eq k) n (stops_from (suc n) later) ∙ taken (nat_eq k n) (Some 0) (option_map suc (position (nat_eq k) (stops_from (suc n) later))) is)
    by false is found =
        (suc found.0, position_step (nat_eq k) n (stops_from (suc n) later) ∙ skipped (nat_eq k n) (Some 0) (option_map suc (position (nat_eq k) (stops_from (suc n) later))) is ∙ ap (option_map suc) found.1)

    passed : (st : Step) → (j : ℕ) × (position (nat_eq k) (stops_from (suc n) later) ≡ Some j) → (j : ℕ) × (position (nat_eq k) (stops_from n (st ∷ later)) ≡ Some j)
    passed (Halt other) found = by (nat_eq k n) refl found
    passed st found = found

list_placed : (t : Bool) (place : Option ℕ) (item : Item) → start_if t place ≡ Some item → (i : ℕ) × (place ≡ Some i)
unfolding start_if
list_placed true place item h = let m = mapped_by start_call place item h in (m.one, m.one_is)
list_placed false place item h = absurd (cc)

pub start_listed : (known : Knowledge) (n : ℕ) (controls : Controls) (ps : Pures) (item : Item) → start_step known n controls ps ≡ Some item → (i : ℕ) × (known.list n ≡ Some i)
unfolding start_step
start_listed known n controls (AndPure (Constant (IsInt unit)) NoPure) item h = list_placed (is_plain controls && in_range unit) (known.list n) item h
start_listed known n controls ps item h = absurd (cc)

module _ (v : Inventory) (facts : Facts) (kind : ℕ → Kinds) (label : ℕ → Option ℕ) where
  -- a step with an item has its control list, or its string
  pub step_listed : (n : ℕ) (steps : List Step) (st : Step) (item : Item) → v.strings ≡ stops_from 0 steps → ((text : Bytes) → slice_get steps n ≡ Some (Halt text) → v.texts n ≡ text) → slice_get steps n ≡ Some st
      → item_step (known_in v facts label) (kind n) n st ≡ Some item → IsListed v n st
  unfolding item_step acting_step
  step_listed n steps (step.Acts (step.Starts Output Listed controls) ps m) item strings texts at h = start_listed (known_in v facts label) n controls ps item h
  step_listed n steps (step.Acts (step.Starts way layout controls) ps m) item strings texts at h = absurd (cc)
  step_listed n steps (Halt text) item strings texts at h =
      let placed = stop_placed 0 n n steps text (omega arith) at in (placed.0, ap (position (nat_eq n)) strings ∙ placed.1, texts text at)
  step_listed n steps st item strings texts at h = tt

-- ## Items

pub record AreAhead (o : Option Item) (os : Option (List Item)) (items : List Item) : Type 0 where
  pub item : Item
  pub later : List Item
  pub item_is : o ≡ Some item
  pub later_is : os ≡ Some later
  pub is : item ∷ later ≡ items

pub ahead_of : (o : Option Item) (os : Option (List Item)) (items : List Item) → item_ahead o os ≡ Some items → AreAhead o os items
unfolding item_ahead
ahead_of (Some item) (Some later) items h = record { item = item; later = later; item_is = refl; later_is = refl; is = some_same (item ∷ later) items h }
ahead_of (Some item) None items h = absurd (cc)
ahead_of None os items h = absurd (cc)

-- the flat item of an item
pub flat_item : (names : Names) (o : Option Flat) (item : Item) → option_and_then (item_for names) o ≡ Some item → (one : Flat) × (o ≡ Some one) × (item_for names one ≡ Some item)
flat_item names (Some one) item h = (one, refl, h)
flat_item names None item h = absurd (cc)

pub record AreFlat (emits : ℕ → List Step → Option (List Flat)) (names : Names) (n : ℕ) (steps : List Step) (items : List Item) : Type 0 where
  pub flats : List Flat
  pub emitted : emits n steps ≡ Some flats
  pub named : items_for names flats ≡ Some items

module _ (emit : ℕ → Step → Option Flat) (emits : ℕ → List Step → Option (List Flat)) (each : EmitsEach emit emits) (names : Names) (known : Knowledge) (kind : ℕ → Kinds) where
  -- what the item of a step is by names
  abbrev Agrees : ℕ → Step → Type 0
  Agrees k st = option_and_then (item_for names) (emit k st) ≡ item_step known (kind k) k st

  pub are_flat : (n : ℕ) (steps : List Step) (items : List Item) → ((i k : ℕ) (st : Step) (item : Item) → k ≡ n + i → slice_get steps i ≡ Some st → item_step known (kind k) k st ≡ Some item → Agrees k st)
      → items_from known kind n steps ≡ Some items → AreFlat emits names n steps items
  unfolding items_from item_before items_for before_items
  are_flat n [] items agree h = record { flats = []; emitted = each.none n; named = h }
  are_flat n (st ∷ later) items agree h =
      let s = ahead_of (item_step known (kind n) n st) (items_from known kind (suc n) later) items h in
      let there = agree 0 n st s.item (omega arith) refl s.item_is in
      let one = flat_item names (emit n st) s.item (there ∙ s.item_is) in
      let rest = are_flat (suc n) later s.later (λ i k other item at got is. agree (suc i) k other item (omega (arith, at)) got is) s.later_is in
      record {
        flats = one.0 ∷ rest.flats;
        emitted = each.more n st later ∙ (λ i. item_before (one.1 i) (rest.emitted i));
        named = (λ i. before_items (one.2 i) (rest.named i)) ∙ ap Some s.is;
      }
