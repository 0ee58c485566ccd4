-- The second layer: each lowered text is simulated by the function that is emitted for it.
use Rattle.std.specs.Prelude.{◌≡◌, ℕ, zero, suc, ◌+◌, ◌*◌, ◌%◌, ◌<◌, ◌≤◌, Bool, true, false, nat_eq, nat_lt, if◌then◌else◌, List, slice_get, Option, Some, None, option_map, refl}
use Rattle.std.proofs.Common.{sym, ap, ◌∙◌, subst, arith}
use Rattle.std.proofs.lemmas.Bool.{eq-eqb, ltb-true}
use Rattle.std.proofs.lemmas.Option.{slice_get-map}
use Rattle.simulation.specs.Machine.{Goes, Calls, Answers}
use Rattle.simulation.specs.LocalSimulation.{last, Couple, Meets, Entered, Local}
use Rattle.small_instance.specs.declared.source.Place.{Place}
use Rattle.small_instance.specs.declared.source.Place.TheVariants.{Common, First, Second}
use Rattle.small_instance.specs.declared.lowered.Atom.{Atom}
use Rattle.small_instance.specs.declared.lowered.Atom.TheVariants.{Constant, Load, Temporary}
use Rattle.small_instance.specs.declared.lowered.Passed.{Passed}
use Rattle.small_instance.specs.declared.lowered.Passed.TheVariants.{Cell, Slot}
use Rattle.small_instance.specs.declared.lowered.Step.{Step}
use Rattle.small_instance.specs.declared.lowered.Step.TheVariants as step
use Rattle.small_instance.specs.declared.target.Spot.TheVariants.{Block, Local as Own}
use Rattle.small_instance.specs.declared.target.Leaf.TheVariants.{Read}
use Rattle.small_instance.specs.Store.{Store, Bound, Value, Is, Bad, Tied, Ties, Untied, block, set_cell, cell_of, defined, fetch, fetch_cell, tie_cell, tie_value, with_fresh}
use Rattle.small_instance.specs.MiddleLanguage as M
use Rattle.small_instance.specs.TargetLanguage as T
use Rattle.small_instance.specs.TargetLanguage.{Word, Unset, Number, Pointer, Memory, Passing, Code, at_address, set_word, address, target_language, pointed}
use Rattle.small_instance.specs.Translation.{temporary_cell, slot_cell, spot_of, leaf_of, passed_spot, function_called, number_passed, item_of, frame_of, wrapper_frame, inner_code, wrapper_code}
use Rattle.small_instance.proofs.Frames.{World, Sane, IsFree, Stands, home, PassedOn, lower_kit, Frame, Paired, lower_pairing, other_object, other_cell, word_same, word_other, stands_set, stands_beside}
use Rattle.small_instance.proofs.CallWorld.{called_world, fresh, home_old, home_fresh, frozen_rest, kept_called, sane_called, free_called, stands_called, stands_returned, ne_eqb'}

-- the number of the wrapper under a name, which is the name of a wrapper where it is odd
abbrev pub wrapper_under : ℕ → ℕ → Option ℕ
wrapper_under i k = if nat_eq (k % 2) 1 then Some (2 * i + 1) else None

abbrev pub lower_couple : ℕ → List Step → Couple lower_kit
lower_couple i l = record {
  number = i;
  pairing = lower_pairing i;
  source = l;
  target = inner_code i l;
  weight = λ w. 1;
  most = λ x. 1;
  spare = 0;
  wrapper = λ k. option_map (λ g. wrapper_code i) (wrapper_under i k);
  inner = 2 * i;
}

abbrev cell_part : Tied → ℕ
cell_part (Ties c y) = c
cell_part (Untied f) = 0

abbrev value_part : Tied → Option ℕ
value_part (Ties c y) = y
value_part (Untied f) = None

-- a frame after one of its cells past the parameters has been set
frame_set : (μ : World) (x x' : M.View) (f f' : ℕ → Word) (j : ℕ) → 3 ≤ j → x'.bound ≡ x.bound → x'.by_second ≡ x.by_second → ((c : ℕ) → (c ≡ j → ⊥) → f' c ≡ f c) →
    ((k : Bool) (n : ℕ) → M.temporary x' k ≡ Some n → f' (temporary_cell k) ≡ Number n) → ((k : Bool) (n : ℕ) → M.slot x' k ≡ Some n → f' (slot_cell k) ≡ Number n) →
    Frame μ x f → Frame μ x' f'
frame_set μ x x' f f' j past bound by same kept filled frame = record {
  first_there = subst (λ b. b.first < μ.height) (sym bound) frame.first_there;
  second_there = subst (λ b. b.second < μ.height) (sym bound) frame.second_there;
  first = same 0 (λ e. omega arith) ∙ frame.first ∙ ap (λ b. home μ b.first) (sym bound);
  second = same 1 (λ e. omega arith) ∙ frame.second ∙ ap (λ b. home μ b.second) (sym bound);
  called = same 2 (λ e. omega arith) ∙ frame.called ∙ ap (λ q. Number (if q then 1 else 0)) (sym by);
  kept = kept;
  filled = filled;
}

-- a frame that holds the same words, for a view that keeps the same
frame_same : (μ : World) (x x' : M.View) (f f' : ℕ → Word) → x'.bound ≡ x.bound → x'.by_second ≡ x.by_second → ((k : Bool) → M.temporary x' k ≡ M.temporary x k) → ((k : Bool) → M.slot x' k ≡ M.slot x k) → ((c : ℕ) → f' c ≡ f c) →
    Frame μ x f → Frame μ x' f'
frame_same μ x x' f f' bound by temporaries slots same frame = record {
  first_there = subst (λ b. b.first < μ.height) (sym bound) frame.first_there;
  second_there = subst (λ b. b.second < μ.height) (sym bound) frame.second_there;
  first = same 0 ∙ frame.first ∙ ap (λ b. home μ b.first) (sym bound);
  second = same 1 ∙ frame.second ∙ ap (λ b. home μ b.second) (sym bound);
  called = same 2 ∙ frame.called ∙ ap (λ q. Number (if q then 1 else 0)) (sym by);
  kept = λ k n e. same (temporary_cell k) ∙ frame.kept k n (sym (temporaries k) ∙ e);
  filled = λ k n e. same (slot_cell k) ∙ frame.filled k n (sym (slots k) ∙ e);
}

frame_moved : (μ : World) (x : M.View) (f f' : ℕ → Word) (n : ℕ) → ((c : ℕ) → f' c ≡ f c) → Frame μ x f → Frame μ (record x { at = n }) f'
frame_moved μ x f f' n same frame = frame_same μ x (record x { at = n }) f f' refl refl temporaries slots same frame
  where
    temporaries : (k : Bool) → M.temporary (record x { at = n }) k ≡ M.temporary x k
    temporaries false = refl
    temporaries true = refl

    slots : (k : Bool) → M.slot (record x { at = n }) k ≡ M.slot x k
    slots false = refl
    slots true = refl

some_number : (n k : ℕ) → Some n ≡ Some k → Number n ≡ Number k
some_number n k e = ap Number (cc)

-- the frame after a number has been put into a temporary or a slot
frame_kept : (μ : World) (x : M.View) (o n at : ℕ) (m : Memory) (k : Bool) → Frame μ x (m o) → Frame μ (record (M.with_temporary k n x) { at = at }) (set_word o (temporary_cell k) (Number n) m o)
frame_kept μ x o n at m false frame =
    frame_set μ x (record x { at = at; saved = Some n }) (m o) (set_word o 3 (Number n) m o) 3 (omega arith) refl refl
    (λ c differ. word_other o 3 o c (Number n) m (other_cell o 3 c differ)) kept filled frame
  where
    kept : (k : Bool) (j : ℕ) → M.temporary (record x { at = at; saved = Some n }) k ≡ Some j → set_word o 3 (Number n) m o (temporary_cell k) ≡ Number j
    kept false j e = word_same o 3 (Number n) m ∙ some_number n j e
    kept true j e = word_other o 3 o 4 (Number n) m (other_cell o 3 4 (λ h. omega arith)) ∙ frame.kept true j e

    filled : (k : Bool) (j : ℕ) → M.slot (record x { at = at; saved = Some n }) k ≡ Some j → set_word o 3 (Number n) m o (slot_cell k) ≡ Number j
    filled false j e = word_other o 3 o 5 (Number n) m (other_cell o 3 5 (λ h. omega arith)) ∙ frame.filled false j e
    filled true j e = word_other o 3 o 6 (Number n) m (other_cell o 3 6 (λ h. omega arith)) ∙ frame.filled true j e
frame_kept μ x o n at m true frame =
    frame_set μ x (record x { at = at; answer = Some n }) (m o) (set_word o 4 (Number n) m o) 4 (omega arith) refl refl
    (λ c differ. word_other o 4 o c (Number n) m (other_cell o 4 c differ)) kept filled frame
  where
    kept : (k : Bool) (j : ℕ) → M.temporary (record x { at = at; answer = Some n }) k ≡ Some j → set_word o 4 (Number n) m o (temporary_cell k) ≡ Number j
    kept false j e = word_other o 4 o 3 (Number n) m (other_cell o 4 3 (λ h. omega arith)) ∙ frame.kept false j e
    kept true j e = word_same o 4 (Number n) m ∙ some_number n j e

    filled : (k : Bool) (j : ℕ) → M.slot (record x { at = at; answer = Some n }) k ≡ Some j → set_word o 4 (Number n) m o (slot_cell k) ≡ Number j
    filled false j e = word_other o 4 o 5 (Number n) m (other_cell o 4 5 (λ h. omega arith)) ∙ frame.filled false j e
    filled true j e = word_other o 4 o 6 (Number n) m (other_cell o 4 6 (λ h. omega arith)) ∙ frame.filled true j e

frame_filled : (μ : World) (x : M.View) (o n at : ℕ) (m : Memory) (k : Bool) → Frame μ x (m o) → Frame μ (record (M.with_slot k n x) { at = at }) (set_word o (slot_cell k) (Number n) m o)
frame_filled μ x o n at m false frame =
    frame_set μ x (record x { at = at; first_slot = Some n }) (m o) (set_word o 5 (Number n) m o) 5 (omega arith) refl refl
    (λ c differ. word_other o 5 o c (Number n) m (other_cell o 5 c differ)) kept filled frame
  where
    kept : (k : Bool) (j : ℕ) → M.temporary (record x { at = at; first_slot = Some n }) k ≡ Some j → set_word o 5 (Number n) m o (temporary_cell k) ≡ Number j
    kept false j e = word_other o 5 o 3 (Number n) m (other_cell o 5 3 (λ h. omega arith)) ∙ frame.kept false j e
    kept true j e = word_other o 5 o 4 (Number n) m (other_cell o 5 4 (λ h. omega arith)) ∙ frame.kept true j e

    filled : (k : Bool) (j : ℕ) → M.slot (record x { at = at; first_slot = Some n }) k ≡ Some j → set_word o 5 (Number n) m o (slot_cell k) ≡ Number j
    filled false j e = word_same o 5 (Number n) m ∙ some_number n j e
    filled true j e = word_other o 5 o 6 (Number n) m (other_cell o 5 6 (λ h. omega arith)) ∙ frame.filled true j e
frame_filled μ x o n at m true frame =
    frame_set μ x (record x { at = at; second_slot = Some n }) (m o) (set_word o 6 (Number n) m o) 6 (omega arith) refl refl
    (λ c differ. word_other o 6 o c (Number n) m (other_cell o 6 c differ)) kept filled frame
  where
    kept : (k : Bool) (j : ℕ) → M.temporary (record x { at = at; second_slot = Some n }) k ≡ Some j → set_word o 6 (Number n) m o (temporary_cell k) ≡ Number j
    kept false j e = word_other o 6 o 3 (Number n) m (other_cell o 6 3 (λ h. omega arith)) ∙ frame.kept false j e
    kept true j e = word_other o 6 o 4 (Number n) m (other_cell o 6 4 (λ h. omega arith)) ∙ frame.kept true j e

    filled : (k : Bool) (j : ℕ) → M.slot (record x { at = at; second_slot = Some n }) k ≡ Some j → set_word o 6 (Number n) m o (slot_cell k) ≡ Number j
    filled false j e = word_other o 6 o 5 (Number n) m (other_cell o 6 5 (λ h. omega arith)) ∙ frame.filled false j e
    filled true j e = word_same o 6 (Number n) m ∙ some_number n j e

module _ (i : ℕ) (l : List Step) (μ : World) (x : M.View) (s : Store) (m : Memory) (sane : Sane μ) (free : IsFree (frame_of i) μ) (image : Stands μ s m) (frame : Frame μ x (m (frame_of i))) where
  -- a place's cell stands at the address of its spot
  place_address : (p : Place) (c : ℕ) → cell_of x.bound p ≡ Some c → (c < μ.height) × (address (inner_code i l) m (spot_of p) ≡ home μ c)
  place_address (Common k) c e = go (nat_lt k block) refl
    where
      go : (b : Bool) → nat_lt k block ≡ b → (c < μ.height) × (address (inner_code i l) m (Block k) ≡ home μ c)
      go true h =
          let small : k < block = ltb-true k block h in
          let tall : block ≤ μ.height = sane.tall in
          let value : Some k ≡ Some c = sym (ap (λ b. if b then Some k else None) h) ∙ e in
          let same : k ≡ c = cc in
          let here : Pointer 0 k ≡ home μ c = sym (ap (λ o. Pointer o (μ.cell k)) (sane.block_object k small) ∙ ap (Pointer 0) (sane.block_cell k small)) ∙ ap (home μ) same in
          (subst (λ c. c < μ.height) same (omega arith), ap (λ b. if b then Pointer 0 k else Unset) h ∙ here)
      go false h = let value : None ≡ Some c = sym (ap (λ b. if b then Some k else None) h) ∙ e in absurd (cc)
  place_address First c e =
      let value : Some x.bound.first ≡ Some c = e in
      let same : x.bound.first ≡ c = cc in
      (subst (λ c. c < μ.height) same frame.first_there, ap pointed frame.first ∙ ap (home μ) same)
  place_address Second c e =
      let value : Some x.bound.second ≡ Some c = e in
      let same : x.bound.second ≡ c = cc in
      (subst (λ c. c < μ.height) same frame.second_there, ap pointed frame.second ∙ ap (home μ) same)

  own_number : (k : Bool) (n : ℕ) → M.temporary x k ≡ Some n → (next : ℕ → T.TargetEvent) → T.then_leaf (inner_code i l) m (Read (Own (temporary_cell k))) next ≡ next n
  own_number false n e next = ap (λ w. T.then_number w next) (frame.kept false n e)
  own_number true n e next = ap (λ w. T.then_number w next) (frame.kept true n e)

  is_some_of : (y : Option ℕ) (n : ℕ) → defined y ≡ Is n → y ≡ Some n
  is_some_of (Some k) n e = let h : Is k ≡ Is n = e in ap Some (cc)
  is_some_of None n e = absurd (grind arith)

  -- an atom's number is what its leaf reads
  atom_number : (a : Atom) (n : ℕ) → M.value_of x s a ≡ Is n → (next : ℕ → T.TargetEvent) → T.then_leaf (inner_code i l) m (leaf_of a) next ≡ next n
  atom_number (Constant k) n e next = let h : Is k ≡ Is n = e in ap next (cc)
  atom_number (Load p) n e next = go (cell_of x.bound p) refl e
    where
      go : (o : Option ℕ) → cell_of x.bound p ≡ o → fetch_cell s o ≡ Is n → T.then_leaf (inner_code i l) m (Read (spot_of p)) next ≡ next n
      go (Some c) there value =
          let a = place_address p c there in
          ap (λ w. T.then_address w (λ o c. T.then_number (m o c) next)) a.1 ∙ ap (λ w. T.then_number w next) (image.stands c n a.0 (is_some_of (s.cells c) n value))
      go None there value = absurd (grind arith)
  atom_number (Temporary k) n e next = own_number k n (is_some_of (M.temporary x k) n e) next

  module _ (w : ℕ) (at : x.at ≡ w) where
    goes_met : (st : Step) (x' : M.View) (s' : Store) (w' : ℕ) (m' : Memory) → target_language.step (inner_code i l) w m ≡ Goes w' m' →
        x'.at ≡ w' → Stands μ s' m' → Frame μ x' (m' (frame_of i)) → Meets (lower_couple i l) μ w m 1 (Goes x' s')
    goes_met st x' s' w' m' e there image' frame' = record {
      count = 1;
      view = w';
      shared = m';
      does = last e refl;
      few = omega arith;
      matched = record { sane = sane; free = free; image = image'; at = there; frame = frame' };
    }

    on_item : (st : Step) → slice_get l x.at ≡ Some st → target_language.step (inner_code i l) w m ≡ T.deed (Some (item_of st)) (inner_code i l) w m
    on_item st e =
        ap (λ o. T.deed o (inner_code i l) w m) (slice_get-map item_of l w ∙ ap (λ k. option_map item_of (slice_get l k)) (sym at) ∙ ap (option_map item_of) e)

    after : x.at + 1 ≡ w + 1
    after = ap (λ n. n + 1) at

    select_met : (n : ℕ) → slice_get l x.at ≡ Some (step.Select n) → Meets (lower_couple i l) μ w m 1 (M.deed (Some (step.Select n)) x s)
    select_met n e =
        goes_met (step.Select n) (record x { at = (if x.by_second then n else x.at + 1) }) s (T.zero_or (if x.by_second then 1 else 0) (w + 1) n) m
        (on_item (step.Select n) e ∙ ap (λ v. T.then_number v (λ y. Goes (T.zero_or y (w + 1) n) m)) frame.called)
        (chosen x.by_second) image (frame_moved μ x (m (frame_of i)) (m (frame_of i)) _ (λ c. refl) frame)
      where
        chosen : (q : Bool) → (if q then n else x.at + 1) ≡ T.zero_or (if q then 1 else 0) (w + 1) n
        chosen true = refl
        chosen false = after

    own_beside : (c : ℕ) (v : Word) (o c' : ℕ) → (o ≡ frame_of i → ⊥) → set_word (frame_of i) c v m o c' ≡ m o c'
    own_beside c v o c' differ = word_other (frame_of i) c o c' v m (other_object (frame_of i) c o c' differ)

    keep_met : (k : Bool) (a : Atom) → slice_get l x.at ≡ Some (step.Keep k a) → (val : Value) → M.value_of x s a ≡ val →
        Meets (lower_couple i l) μ w m 1 (M.then_value val (λ n. M.goes_to (M.with_temporary k n x) (x.at + 1) s))
    keep_met k a e (Bad f) v = λ claimed. absurd claimed
    keep_met false a e (Is n) v =
        goes_met (step.Keep false a) (record x { at = x.at + 1; saved = Some n }) s (w + 1) (set_word (frame_of i) 3 (Number n) m)
        (on_item (step.Keep false a) e ∙ atom_number a n v (λ y. Goes (w + 1) (set_word (frame_of i) 3 (Number y) m)))
        after (stands_beside μ s m (set_word (frame_of i) 3 (Number n) m) (frame_of i) free (own_beside 3 (Number n)) image)
        (frame_kept μ x (frame_of i) n (x.at + 1) m false frame)
    keep_met true a e (Is n) v =
        goes_met (step.Keep true a) (record x { at = x.at + 1; answer = Some n }) s (w + 1) (set_word (frame_of i) 4 (Number n) m)
        (on_item (step.Keep true a) e ∙ atom_number a n v (λ y. Goes (w + 1) (set_word (frame_of i) 4 (Number y) m)))
        after (stands_beside μ s m (set_word (frame_of i) 4 (Number n) m) (frame_of i) free (own_beside 4 (Number n)) image)
        (frame_kept μ x (frame_of i) n (x.at + 1) m true frame)

    fill_met : (k : Bool) (a : Atom) → slice_get l x.at ≡ Some (step.Fill k a) → (val : Value) → M.value_of x s a ≡ val →
        Meets (lower_couple i l) μ w m 1 (M.then_value val (λ n. M.goes_to (M.with_slot k n x) (x.at + 1) s))
    fill_met k a e (Bad f) v = λ claimed. absurd claimed
    fill_met false a e (Is n) v =
        goes_met (step.Fill false a) (record x { at = x.at + 1; first_slot = Some n }) s (w + 1) (set_word (frame_of i) 5 (Number n) m)
        (on_item (step.Fill false a) e ∙ atom_number a n v (λ y. Goes (w + 1) (set_word (frame_of i) 5 (Number y) m)))
        after (stands_beside μ s m (set_word (frame_of i) 5 (Number n) m) (frame_of i) free (own_beside 5 (Number n)) image)
        (frame_filled μ x (frame_of i) n (x.at + 1) m false frame)
    fill_met true a e (Is n) v =
        goes_met (step.Fill true a) (record x { at = x.at + 1; second_slot = Some n }) s (w + 1) (set_word (frame_of i) 6 (Number n) m)
        (on_item (step.Fill true a) e ∙ atom_number a n v (λ y. Goes (w + 1) (set_word (frame_of i) 6 (Number y) m)))
        after (stands_beside μ s m (set_word (frame_of i) 6 (Number n) m) (frame_of i) free (own_beside 6 (Number n)) image)
        (frame_filled μ x (frame_of i) n (x.at + 1) m true frame)

    put_met : (p : Place) (a b : Atom) → slice_get l x.at ≡ Some (step.Put p a b) → (v : Value) → M.value_of x s a ≡ v → (v' : Value) → M.value_of x s b ≡ v' → (o : Option ℕ) → cell_of x.bound p ≡ o →
        Meets (lower_couple i l) μ w m 1 (M.then_value v (λ n. M.then_value v' (λ k. M.then_cell o (λ c. M.goes_to x (x.at + 1) (set_cell c (n + k) s)))))
    put_met p a b e (Bad f) va v' vb o there = λ claimed. absurd claimed
    put_met p a b e (Is n) va (Bad f) vb o there = λ claimed. absurd claimed
    put_met p a b e (Is n) va (Is k) vb None there = λ claimed. absurd claimed
    put_met p a b e (Is n) va (Is k) vb (Some c) there =
        let place = place_address p c there in
        let last_part : (y : ℕ) → T.TargetEvent = λ y. T.then_address (address (inner_code i l) m (spot_of p)) (λ o c. Goes (w + 1) (set_word o c (Number y) m)) in
        goes_met (step.Put p a b) (record x { at = x.at + 1 }) (set_cell c (n + k) s) (w + 1) (set_word (μ.object c) (μ.cell c) (Number (n + k)) m)
        (on_item (step.Put p a b) e
        ∙ atom_number a n va (λ y. T.then_leaf (inner_code i l) m (leaf_of b) (λ z. last_part (y + z)))
        ∙ atom_number b k vb (λ z. last_part (n + z))
        ∙ ap (λ w'. T.then_address w' (λ o c. Goes (w + 1) (set_word o c (Number (n + k)) m))) place.1)
        after (stands_set μ s m c (n + k) sane place.0 image)
        (frame_moved μ x (m (frame_of i)) (set_word (μ.object c) (μ.cell c) (Number (n + k)) m (frame_of i)) (x.at + 1)
        (λ d. word_other (μ.object c) (μ.cell c) (frame_of i) d (Number (n + k)) m (other_object (μ.object c) (μ.cell c) (frame_of i) d (λ same. free.homeless c place.0 (sym same)))) frame)

    unless_met : (p : Place) (n : ℕ) → slice_get l x.at ≡ Some (step.Unless p n) → (v : Value) → fetch x.bound s p ≡ v → Meets (lower_couple i l) μ w m 1 (M.then_value v (M.branch x n s))
    unless_met p n e (Bad f) v = λ claimed. absurd claimed
    unless_met p n e (Is zero) v =
        goes_met (step.Unless p n) (record x { at = n }) s n m
        (on_item (step.Unless p n) e ∙ atom_number (Load p) 0 v (λ y. Goes (T.zero_or y n (w + 1)) m)) refl image (frame_moved μ x (m (frame_of i)) (m (frame_of i)) n (λ c. refl) frame)
    unless_met p n e (Is (suc k)) v =
        goes_met (step.Unless p n) (record x { at = x.at + 1 }) s (w + 1) m
        (on_item (step.Unless p n) e ∙ atom_number (Load p) (suc k) v (λ y. Goes (T.zero_or y n (w + 1)) m)) after image (frame_moved μ x (m (frame_of i)) (m (frame_of i)) (x.at + 1) (λ c. refl) frame)

    back_met : (a : Atom) → slice_get l x.at ≡ Some (step.Back a) → (v : Value) → M.value_of x s a ≡ v → Meets (lower_couple i l) μ w m 1 (M.then_value v (λ n. Answers s n))
    back_met a e (Bad f) v = λ claimed. absurd claimed
    back_met a e (Is n) v = record {
      count = 1;
      shared = m;
      ans = n;
      does = last (on_item (step.Back a) e ∙ atom_number a n v (λ y. Answers m y)) refl;
      few = omega arith;
      given = (image, refl);
    }

    -- what an argument is tied to stands where its spot says, in the world of the call
    tied_place : (k : Bool) (a : Passed) (c : ℕ) (y : Option ℕ) → M.tie x (fresh k s.height) k a ≡ Ties c y →
        (c < μ.height + 2) × (address (inner_code i l) m (passed_spot k a) ≡ home (called_world (frame_of i) m μ) c) × ((n : ℕ) → y ≡ Some n → m (frame_of i) (slot_cell k) ≡ Number n)
    tied_place k (Cell p) c y e = go (cell_of x.bound p) refl e
      where
        go : (o : Option ℕ) → cell_of x.bound p ≡ o → tie_cell o ≡ Ties c y →
            (c < μ.height + 2) × (address (inner_code i l) m (spot_of p) ≡ home (called_world (frame_of i) m μ) c) × ((n : ℕ) → y ≡ Some n → m (frame_of i) (slot_cell k) ≡ Number n)
        go (Some d) there tied =
            let same : d ≡ c = ap (λ t. cell_part t) tied in
            let none : None ≡ y = ap (λ t. value_part t) tied in
            let place = place_address p d there in (
              subst (λ c. c < μ.height + 2) same (let h : d < μ.height = place.0 in omega arith),
              place.1 ∙ sym (home_old (frame_of i) m μ d place.0) ∙ ap (home (called_world (frame_of i) m μ)) same,
              λ n e. let h : None ≡ Some n = none ∙ e in absurd (cc),
            )
        go None there tied = absurd (grind arith)
    tied_place k Slot c y e = go (M.slot x k) refl e
      where
        small : (k : Bool) → fresh k μ.height < μ.height + 2
        small false = omega arith
        small true = omega arith

        spot : (k : Bool) → address (inner_code i l) m (Own (slot_cell k)) ≡ Pointer (frame_of i) (slot_cell k)
        spot false = refl
        spot true = refl

        go : (o : Option ℕ) → M.slot x k ≡ o → tie_value (fresh k s.height) (defined o) ≡ Ties c y →
            (c < μ.height + 2) × (address (inner_code i l) m (Own (slot_cell k)) ≡ home (called_world (frame_of i) m μ) c) × ((n : ℕ) → y ≡ Some n → m (frame_of i) (slot_cell k) ≡ Number n)
        go (Some n) there tied =
            let same : fresh k μ.height ≡ c = ap (fresh k) (sym image.high) ∙ ap (λ t. cell_part t) tied in
            let value : Some n ≡ y = ap (λ t. value_part t) tied in (
              subst (λ c. c < μ.height + 2) same (small k),
              spot k ∙ sym (home_fresh (frame_of i) m μ k) ∙ ap (home (called_world (frame_of i) m μ)) same,
              λ j e. frame.filled k n there ∙ some_number n j (value ∙ e),
            )
        go None there tied = absurd (grind arith)

    answer_frame : (μ' : World) (m' : Memory) (r q : ℕ) → r ≡ q → ((c : ℕ) → (c ≡ 5 → ⊥) → (c ≡ 6 → ⊥) → m' (frame_of i) c ≡ m (frame_of i) c) →
        Frame μ (record x { at = x.at + 1; answer = Some r; first_slot = None; second_slot = None }) (set_word (frame_of i) 4 (Number q) m' (frame_of i))
    answer_frame μ' m' r q same kept = record {
      first_there = frame.first_there;
      second_there = frame.second_there;
      first = other 0 (λ h. omega arith) ∙ kept 0 (λ h. omega arith) (λ h. omega arith) ∙ frame.first;
      second = other 1 (λ h. omega arith) ∙ kept 1 (λ h. omega arith) (λ h. omega arith) ∙ frame.second;
      called = other 2 (λ h. omega arith) ∙ kept 2 (λ h. omega arith) (λ h. omega arith) ∙ frame.called;
      kept = temporaries;
      filled = slots;
    }
      where
        other : (c : ℕ) → (c ≡ 4 → ⊥) → set_word (frame_of i) 4 (Number q) m' (frame_of i) c ≡ m' (frame_of i) c
        other c differ = word_other (frame_of i) 4 (frame_of i) c (Number q) m' (other_cell (frame_of i) 4 c differ)

        temporaries : (k : Bool) (n : ℕ) → M.temporary (record x { at = x.at + 1; answer = Some r; first_slot = None; second_slot = None }) k ≡ Some n → set_word (frame_of i) 4 (Number q) m' (frame_of i) (temporary_cell k) ≡ Number n
        temporaries false n e = other 3 (λ h. omega arith) ∙ kept 3 (λ h. omega arith) (λ h. omega arith) ∙ frame.kept false n e
        temporaries true n e = word_same (frame_of i) 4 (Number q) m' ∙ ap Number (sym same) ∙ some_number r n e

        slots : (k : Bool) (n : ℕ) → M.slot (record x { at = x.at + 1; answer = Some r; first_slot = None; second_slot = None }) k ≡ Some n → set_word (frame_of i) 4 (Number q) m' (frame_of i) (slot_cell k) ≡ Number n
        slots false n e = let h : None ≡ Some n = e in absurd (cc)
        slots true n e = let h : None ≡ Some n = e in absurd (cc)

    call_met : (unit : ℕ) (by_second : Bool) (a b : Passed) → slice_get l x.at ≡ Some (step.Call unit by_second a b) → (ta : Tied) → M.tie x s.height false a ≡ ta → (tb : Tied) → M.tie x (s.height + 1) true b ≡ tb →
        Meets (lower_couple i l) μ w m 1 (M.then_tied ta (λ c y. M.then_tied tb (λ d z. Calls x (with_fresh y z s) (record { unit = unit; by_second = by_second }) (record { first = c; second = d }))))
    call_met unit by_second a b e (Untied f) ea tb eb = λ claimed. absurd claimed
    call_met unit by_second a b e (Ties c y) ea (Untied f) eb = λ claimed. absurd claimed
    call_met unit by_second a b e (Ties c y) ea (Ties d z) eb =
        let one = tied_place false a c y ea in
        let two = tied_place true b d z eb in
        let μ' : World = called_world (frame_of i) m μ in
        let passing : Passing = record { first = home μ' c; second = home μ' d; number = number_passed by_second } in
        record {
          count = 1;
          view = w;
          shared = m;
          name = function_called unit by_second;
          arg = passing;
          does = last (on_item (step.Call unit by_second a b) e
              ∙ ap (λ v. T.then_address v (λ o c. T.then_address (address (inner_code i l) m (passed_spot true b)) (λ o' c'. Calls w m (function_called unit by_second) (record { first = Pointer o c; second = Pointer o' c'; number = number_passed by_second })))) one.1
              ∙ ap (λ v. T.then_address v (λ o' c'. Calls w m (function_called unit by_second) (record { first = home μ' c; second = Pointer o' c'; number = number_passed by_second }))) two.1) refl;
          few = omega arith;
          world = μ';
          grows = record { kept = kept_called (frame_of i) m μ free; sane = λ sane'. sane_called (frame_of i) m μ sane' free; free = λ o not_own not_wrapper. free_called (frame_of i) m μ o not_own };
          passed = record { image = stands_called (frame_of i) m μ s y z free image one.2 two.2; name = refl; number = refl; first_there = one.0; second_there = two.0; first = refl; second = refl };
          waits = record {
            first = frozen_rest (frame_of i) m μ 0 (λ e. omega arith) (λ e. omega arith) ∙ ap Some frame.first;
            second = frozen_rest (frame_of i) m μ 1 (λ e. omega arith) (λ e. omega arith) ∙ ap Some frame.second;
          };
          resumes = λ s' r m' q given. (
            w + 1,
            set_word (frame_of i) 4 (Number q) m',
            ap (λ o. T.stored o (inner_code i l) w q m') (slice_get-map item_of l w ∙ ap (λ k. option_map item_of (slice_get l k)) (sym at) ∙ ap (option_map item_of) e),
            record {
              sane = sane;
              free = free;
              image = stands_returned (frame_of i) m μ s' m' (set_word (frame_of i) 4 (Number q) m') free (λ o c differ. word_other (frame_of i) 4 o c (Number q) m' (other_object (frame_of i) 4 o c differ)) given.0;
              at = after;
              frame = answer_frame μ' m' r q given.1 (λ c not5 not6. given.0.holds (frame_of i) c (m (frame_of i) c) (frozen_rest (frame_of i) m μ c not5 not6));
            },
          );
        }

    -- every step is met
    step_met : (o : Option Step) → slice_get l x.at ≡ o → Meets (lower_couple i l) μ w m 1 (M.deed o x s)
    step_met None e = λ claimed. absurd claimed
    step_met (Some (step.Select n)) e = select_met n e
    step_met (Some (step.Keep k a)) e = keep_met k a e (M.value_of x s a) refl
    step_met (Some (step.Fill k a)) e = fill_met k a e (M.value_of x s a) refl
    step_met (Some step.Pass) e = goes_met step.Pass (record x { at = x.at + 1 }) s (w + 1) m (on_item step.Pass e) after image (frame_moved μ x (m (frame_of i)) (m (frame_of i)) (x.at + 1) (λ c. refl) frame)
    step_met (Some (step.Put p a b)) e = put_met p a b e (M.value_of x s a) refl (M.value_of x s b) refl (cell_of x.bound p) refl
    step_met (Some (step.Unless p n)) e = unless_met p n e (fetch x.bound s p) refl
    step_met (Some (step.Jump n)) e = goes_met (step.Jump n) (record x { at = n }) s n m (on_item (step.Jump n) e) refl image (frame_moved μ x (m (frame_of i)) (m (frame_of i)) n (λ c. refl) frame)
    step_met (Some (step.Call unit by_second a b)) e = call_met unit by_second a b e (M.tie x s.height false a) refl (M.tie x (s.height + 1) true b) refl
    step_met (Some (step.Back a)) e = back_met a e (M.value_of x s a) refl
    step_met (Some step.Halt) e = record { count = 1; view = w; shared = m; does = last (on_item step.Halt e) refl; few = omega arith; halted = (sane, image) }

begun_view : Bound → Bool → M.View
begun_view b q = record { at = 0; bound = b; by_second = q; saved = None; answer = None; first_slot = None; second_slot = None }

-- the parameters stand in the frame of a function that is entered
parameter : (f : Code) (p : Passing) (n : Word) (m : Memory) (c : ℕ) → T.with_frame f p n m f.object c ≡ T.parameters p.first p.second n c
parameter f p n m c = ap (λ q. if q then T.parameters p.first p.second n c else m f.object c) (eq-eqb f.object f.object refl)

beside_frame : (f : Code) (p : Passing) (n : Word) (m : Memory) (o c : ℕ) → (o ≡ f.object → ⊥) → T.with_frame f p n m o c ≡ m o c
beside_frame f p n m o c differ = ap (λ q. if q then T.parameters p.first p.second n c else m o c) (ne_eqb' o f.object differ)

module _ (i : ℕ) (l : List Step) (μ : World) (s : Store) (b : Bound) (m : Memory) (p : Passing) (sane : Sane μ) (free : IsFree (frame_of i) μ) (free' : IsFree (wrapper_frame i) μ) (image : Stands μ s m)
    (first_there : b.first < μ.height) (second_there : b.second < μ.height) (first : p.first ≡ home μ b.first) (second : p.second ≡ home μ b.second) where
  -- the function is entered, by either name
  function_entered : (q : Bool) → Paired i μ (begun_view b q) s 0 (T.with_frame (inner_code i l) p (Number (if q then 1 else 0)) m)
  unfolding begun_view
  function_entered q = record {
    sane = sane;
    free = free;
    image = stands_beside μ s m (T.with_frame (inner_code i l) p (Number (if q then 1 else 0)) m) (frame_of i) free (beside_frame (inner_code i l) p (Number (if q then 1 else 0)) m) image;
    at = refl;
    frame = record {
      first_there = first_there;
      second_there = second_there;
      first = parameter (inner_code i l) p (Number (if q then 1 else 0)) m 0 ∙ first;
      second = parameter (inner_code i l) p (Number (if q then 1 else 0)) m 1 ∙ second;
      called = parameter (inner_code i l) p (Number (if q then 1 else 0)) m 2;
      kept = empty;
      filled = empty';
    };
  }
    where
      empty : (k : Bool) (n : ℕ) → M.temporary (begun_view b q) k ≡ Some n → T.with_frame (inner_code i l) p (Number (if q then 1 else 0)) m (frame_of i) (temporary_cell k) ≡ Number n
      empty false n e = absurd (grind arith)
      empty true n e = absurd (grind arith)

      empty' : (k : Bool) (n : ℕ) → M.slot (begun_view b q) k ≡ Some n → T.with_frame (inner_code i l) p (Number (if q then 1 else 0)) m (frame_of i) (slot_cell k) ≡ Number n
      empty' false n e = absurd (grind arith)
      empty' true n e = absurd (grind arith)

-- a start under the first name is direct, and one under the second name goes through the wrapper
starts_met : (i : ℕ) (l : List Step) (μ : World) (s : Store) (unit : ℕ) (q : Bool) (b : Bound) (m : Memory) (k : ℕ) (p : Passing) → Sane μ → IsFree (frame_of i) μ → IsFree (wrapper_frame i) μ →
    PassedOn μ s (record { unit = unit; by_second = q }) b m k p → Entered (lower_couple i l) μ (option_map (λ g. wrapper_code i) (wrapper_under i k)) (begun_view b q) s m k p
starts_met i l μ s unit false b m k p sane free free' passed =
    let name : k ≡ 2 * unit = passed.name in
    let even : nat_eq (k % 2) 1 ≡ false = ne_eqb' (k % 2) 1 (λ e. omega arith) in
    subst (λ q. Entered (lower_couple i l) μ (option_map (λ g. wrapper_code i) (if q then Some (2 * i + 1) else None)) (begun_view b false) s m k p) (sym even) (record {
      view = 0;
      shared = T.with_frame (inner_code i l) p (Number 0) m;
      starts = ap (λ n. T.entered true n (inner_code i l) p m) passed.number;
      matched = function_entered i l μ s b m p sane free free' passed.image passed.first_there passed.second_there passed.first passed.second false;
    })
starts_met i l μ s unit true b m k p sane free free' passed =
    let name : k ≡ 2 * unit + 1 = passed.name in
    let odd : nat_eq (k % 2) 1 ≡ true = eq-eqb (k % 2) 1 (omega arith) in
    let g : Code = wrapper_code i in
    let m' : Memory = T.with_frame g p Unset m in
    let passing : Passing = record { first = home μ b.first; second = home μ b.second; number = Some 1 } in
    let image' : Stands μ s m' = stands_beside μ s m m' (wrapper_frame i) free' (beside_frame g p Unset m) passed.image in
    subst (λ q. Entered (lower_couple i l) μ (option_map (λ g. wrapper_code i) (if q then Some (2 * i + 1) else None)) (begun_view b true) s m k p) (sym odd) (record {
      view = 0;
      shared = m';
      starts = ap (λ n. T.entered false n g p m) passed.number;
      waiting = 0;
      passed = m';
      arg = passing;
      calls =
          ap (λ v. T.then_address (pointed v) (λ o c. T.then_address (pointed (m' (wrapper_frame i) 1)) (λ o' c'. Calls 0 m' (2 * i) (record { first = Pointer o c; second = Pointer o' c'; number = Some 1 })))) (parameter g p Unset m 0 ∙ passed.first)
          ∙ ap (λ v. T.then_address (pointed v) (λ o' c'. Calls 0 m' (2 * i) (record { first = home μ b.first; second = Pointer o' c'; number = Some 1 }))) (parameter g p Unset m 1 ∙ passed.second);
      world = μ;
      grows = record { kept = λ o c w h. h; sane = λ h. h; free = λ o differ differ' h. h };
      started = record {
        view = 0;
        shared = T.with_frame (inner_code i l) passing (Number 1) m';
        starts = refl;
        matched = function_entered i l μ s b m' passing sane free free' image' passed.first_there passed.second_there refl refl true;
      };
      hands_on = λ s' r t q given. record {
        view = 1;
        shared = set_word (wrapper_frame i) 2 (Number q) t;
        resumes = refl;
        answered = set_word (wrapper_frame i) 2 (Number q) t;
        ans = q;
        answers = ap (λ v. T.then_number v (λ x. Answers (set_word (wrapper_frame i) 2 (Number q) t) x)) (word_same (wrapper_frame i) 2 (Number q) t);
        given = (stands_beside μ s' t (set_word (wrapper_frame i) 2 (Number q) t) (wrapper_frame i) free' (λ o c differ. word_other (wrapper_frame i) 2 o c (Number q) t (other_object (wrapper_frame i) 2 o c differ)) given.0, given.1);
      };
    })

-- the second layer's local simulation
pub lower_simulates : (i : ℕ) (l : List Step) → Local (lower_couple i l)
unfolding begun_view
lower_simulates i l = record {
  starts = λ μ s n b m k p sane free passed. starts_met i l μ s n.unit n.by_second b m k p sane free.0 free.1 passed;
  refuses = λ n b s x e claimed. claimed;
  follows = λ μ x s w m paired. step_met i l μ x s m paired.sane paired.free paired.image paired.frame w paired.at (slice_get l x.at) refl;
}
