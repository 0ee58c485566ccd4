-- Tables of what stands first at each position: one more.
use Rattle.std.specs.Prelude.{◌≡◌, ℕ, suc, ◌+◌, ◌<◌, ◌≤◌, nat_eq, nat_lt, Bool, true, false, not, List, [], ◌∷◌, ◌++◌, map, length, position, Option, Some, None, option_map, option_to_list, if◌then◌else◌}
use Rattle.std.specs.List.{position_or_len}
use Rattle.std.specs.Option.{option_or}
use Rattle.std.proofs.Common.{refl, ap, sym, ◌∙◌, subst, drop, get_or, ⊎_elim, arith, append_assoc}
use Rattle.std.proofs.lemmas.Bool.{cases_lt, lt-ltb, le-ltb}
use Rattle.std.proofs.lemmas.Bool.Decides.{nat_tests}
use Rattle.std.proofs.lemmas.List.{at_drop_more, at_drop_all, append-nil}
use Rattle.lowered_tree.specs.l_core.Steps as core
use Rattle.lowered_tree.specs.declared.steps.Step.{Step}
use Rattle.lowered_tree.specs.Shapes.{step_of, steps_of}
use Rattle.lowered_text.specs.declared.text.LoweredText.{LoweredText}
use Rattle.lowered_text.specs.declared.text.Marked.{Marked}
use Rattle.lowered_text.specs.Texts.{mark_of, marked_of}
use Rattle.main_translation.specs.Outlined.{labels_in, stands_at, label_before, opens_while, whiles_in}
use Rattle.unit_contents.specs.Parts.{label_in}
use Rattle.unit_contents.specs.Tables.{place_in, AreLabels, AreWhiles}
use Rattle.unit_contents.proofs.WalkLaws.{next_step, no_step}

-- ## Options

or_none : {X : Type 0} (o : Option X) → option_or o None ≡ o
or_none None = refl
or_none (Some x) = refl

or_along : {X : Type 0} (a b c : Option X) → option_or (option_or a b) c ≡ option_or a (option_or b c)
or_along None b c = refl
or_along (Some x) b c = refl

or_if : {X : Type 0} (b : Bool) (x : X) (o : Option X) → option_or (if b then Some x else None) o ≡ (if b then Some x else o)
or_if true x o = refl
or_if false x o = refl

-- ## A label at its place

pub label_put : (o : Option ℕ) (place : ℕ) (label : ℕ) (n : ℕ) (place' : Option ℕ) → place' ≡ Some place
    → option_or o (if nat_eq n place then Some label else None) ≡ option_or o (if stands_at place' n then Some label else None)
unfolding stands_at
label_put o place label n place' is =
    ap (λ b. option_or o (if b then Some label else None)) (let e : nat_eq n place ≡ nat_eq place n = grind (arith, nat_tests) in e)
    ∙ ap (λ p. option_or o (if stands_at p n then Some label else None)) (sym is)

pub label_kept : (o : Option ℕ) (label : ℕ) (n : ℕ) (place' : Option ℕ) → place' ≡ None → o ≡ option_or o (if stands_at place' n then Some label else None)
unfolding stands_at
label_kept o label n place' is = sym (ap (λ p. option_or o (if stands_at p n then Some label else None)) is ∙ or_none o)

-- ## The labels that steps branch to

labels-split : (st : core.Step) (later : List core.Step) → labels_in (st ∷ later) ≡ option_to_list (label_in st) ++ labels_in later
unfolding labels_in label_in
labels-split (core.Jump label) later = refl
labels-split (core.Way label) later = refl
labels-split st later = refl

pub labels_more : (steps : List Step) (i : ℕ) (s : Step) (label : Option ℕ) (so_far after all : List ℕ) → i < length steps → s ≡ get_or steps i s → label ≡ label_in (step_of s)
    → after ≡ so_far ++ option_to_list label → so_far ++ labels_in (steps_of (drop i steps)) ≡ all → after ++ labels_in (steps_of (drop (i + 1) steps)) ≡ all
labels_more steps i s label so_far after all within is one put known =
    let later = steps_of (drop (i + 1) steps) in
    ap (λ ls. ls ++ labels_in later) put ∙ append_assoc so_far (option_to_list label) (labels_in later)
    ∙ ap (λ ls. so_far ++ ls) (ap (λ o. option_to_list o ++ labels_in later) one ∙ sym (next_step labels_in steps i s within is ∙ labels-split (step_of s) later)) ∙ known

pub labels_whole : (steps : List Step) (i : ℕ) (so_far all : List ℕ) → length steps ≤ i → so_far ++ labels_in (steps_of (drop i steps)) ≡ all → so_far ≡ all
unfolding labels_in
labels_whole steps i so_far all past known = sym (append-nil so_far) ∙ ap (λ ls. so_far ++ ls) (sym (no_step labels_in steps i past)) ∙ known

-- ## The loops that go by a condition alone

pub while_put : (marks : List Marked) (i : ℕ) (d : Marked) (so_far after all : List ℕ) → i < length marks → opens_while (mark_of (get_or marks i d).mark) ≡ true
    → after ≡ so_far ++ (get_or marks i d).at ∷ [] → so_far ++ whiles_in (map marked_of (drop i marks)) ≡ all → after ++ whiles_in (map marked_of (drop (i + 1) marks)) ≡ all
unfolding whiles_in marked_of
while_put marks i d so_far after all within opens put known =
    let later = map marked_of (drop (i + 1) marks) in
    let m = get_or marks i d in
    ap (λ ls. ls ++ whiles_in later) put ∙ append_assoc so_far (m.at ∷ []) (whiles_in later)
    ∙ ap (λ ls. so_far ++ ls)
    (sym (at_drop_more (λ ms. whiles_in (map marked_of ms)) marks i d within ∙ ap (λ b. if b then m.at ∷ whiles_in later else whiles_in later) opens))
    ∙ known

pub while_kept : (marks : List Marked) (i : ℕ) (d : Marked) (so_far after all : List ℕ) → i < length marks → opens_while (mark_of (get_or marks i d).mark) ≡ false → after ≡ so_far
    → so_far ++ whiles_in (map marked_of (drop i marks)) ≡ all → after ++ whiles_in (map marked_of (drop (i + 1) marks)) ≡ all
unfolding whiles_in marked_of
while_kept marks i d so_far after all within opens put known =
    let later = map marked_of (drop (i + 1) marks) in
    let m = get_or marks i d in
    ap (λ ls. ls ++ whiles_in later) put
    ∙ ap (λ ls. so_far ++ ls)
    (sym (at_drop_more (λ ms. whiles_in (map marked_of ms)) marks i d within ∙ ap (λ b. if b then m.at ∷ whiles_in later else whiles_in later) opens))
    ∙ known

pub whiles_whole : (marks : List Marked) (i : ℕ) (so_far all : List ℕ) → length marks ≤ i → so_far ++ whiles_in (map marked_of (drop i marks)) ≡ all → so_far ≡ all
unfolding whiles_in
whiles_whole marks i so_far all past known =
    sym (append-nil so_far) ∙ ap (λ ls. so_far ++ ls) (sym (at_drop_all (λ ms. whiles_in (map marked_of ms)) marks i past)) ∙ known

-- ## The table of labels

-- the labels before one are put at their places
pub record ArePutTo (t : LoweredText) (i : ℕ) (table : List (Option ℕ)) : Type 0 where
  pub size : length table ≡ length t.steps.items
  pub told : (n : ℕ) → n < length table
      → option_or (get_or table n None) (label_before (place_in t) n (drop i (labels_in (steps_of t.steps.items)))) ≡ label_before (place_in t) n (labels_in (steps_of t.steps.items))

pub labels_put : (t : LoweredText) (labels : List ℕ) (i label d : ℕ) (before after : List (Option ℕ)) → labels ≡ labels_in (steps_of t.steps.items) → i < length labels
    → label ≡ get_or labels i d → length after ≡ length before
    → ((n : ℕ) → n < length before → get_or after n None ≡ option_or (get_or before n None) (if stands_at (place_in t label) n then Some label else None))
    → ArePutTo t i before → ArePutTo t (i + 1) after
unfolding label_before
labels_put t labels i label d before after all within is size put known =
    let all_labels = labels_in (steps_of t.steps.items) in
    record {
      size = size ∙ known.size;
      told = λ n h.
          let h' : n < length before = omega (arith, size, h) in
          let later = label_before (place_in t) n (drop (i + 1) all_labels) in
          ap (λ o. option_or o later) (put n h') ∙ or_along (get_or before n None) (if stands_at (place_in t label) n then Some label else None) later
          ∙ ap (option_or (get_or before n None))
          (or_if (stands_at (place_in t label) n) label later
          ∙ ap (λ l. if stands_at (place_in t l) n then Some l else later) (is ∙ ap (λ ls. get_or ls i d) all)
          ∙ sym (at_drop_more (label_before (place_in t) n) all_labels i d (subst (λ ls. i < length ls) all within)))
          ∙ known.told n h';
    }

pub labels_end : (t : LoweredText) (labels : List ℕ) (i : ℕ) (table : List (Option ℕ)) → labels ≡ labels_in (steps_of t.steps.items) → length labels ≤ i → ArePutTo t i table
    → AreLabels t table
unfolding label_before
labels_end t labels i table all past known = record {
  size = known.size;
  told = λ n h.
      sym (or_none (get_or table n None))
      ∙ ap (option_or (get_or table n None))
      (sym (at_drop_all (label_before (place_in t) n) (labels_in (steps_of t.steps.items)) i (subst (λ ls. length ls ≤ i) all past)))
      ∙ known.told n h;
}

-- ## The table of loops

front-cases : (b : Bool) (n size : ℕ) → (if nat_lt (if not b then 1 + n else 0) (suc size) then Some (if not b then 1 + n else 0) else None)
    ≡ (if b then Some 0 else option_map suc (if nat_lt n size then Some n else None))
front-cases true n size = ap (λ b. if b then Some 0 else None) (let e : nat_lt 0 (suc size) ≡ true = grind (arith, nat_tests) in e)
front-cases false n size =
    let one : 1 + n ≡ suc n = omega arith in
    ap (λ k. if nat_lt k (suc size) then Some k else None) one
    ∙ ⊎_elim
    (λ (low : n < size).
    ap (λ b. if b then Some (suc n) else None) (lt-ltb (suc n) (suc size) (omega arith)) ∙ sym (ap (λ b. option_map suc (if b then Some n else None)) (lt-ltb n size low)))
    (λ (high : size ≤ n).
    ap (λ b. if b then Some (suc n) else None) (le-ltb (suc n) (suc size) (omega arith)) ∙ sym (ap (λ b. option_map suc (if b then Some n else None)) (le-ltb n size high)))
    (cases_lt n size)

position-more : (p : ℕ → Bool) (x : ℕ) (xs : List ℕ) → position p (x ∷ xs) ≡ (if p x then Some 0 else option_map suc (position p xs))
position-more p x xs = front-cases (p x) (position_or_len p xs) (length xs)

-- the loops before one are put at their places
pub record AreCountedTo (t : LoweredText) (i : ℕ) (table : List (Option ℕ)) : Type 0 where
  pub size : length table ≡ length t.steps.items
  pub told : (n : ℕ) → n < length table
      → option_or (get_or table n None) (option_map (λ k. i + k) (position (nat_eq n) (drop i (whiles_in (map marked_of t.marks.items))))) ≡ position (nat_eq n) (whiles_in (map marked_of t.marks.items))

counted_more : (i : ℕ) (b : Bool) (o : Option ℕ) → option_map (λ k. i + k) (if b then Some 0 else option_map suc o) ≡ option_or (if b then Some i else None) (option_map (λ k. (i + 1) + k) o)
counted_more i true o = ap Some (let e : i + 0 ≡ i = omega arith in e)
counted_more i false None = refl
counted_more i false (Some k) = ap Some (let e : i + suc k ≡ (i + 1) + k = omega arith in e)

pub whiles_put : (t : LoweredText) (places : List ℕ) (i place d : ℕ) (before after : List (Option ℕ)) → places ≡ whiles_in (map marked_of t.marks.items) → i < length places
    → place ≡ get_or places i d → length after ≡ length before
    → ((n : ℕ) → n < length before → get_or after n None ≡ option_or (get_or before n None) (if nat_eq n place then Some i else None))
    → AreCountedTo t i before → AreCountedTo t (i + 1) after
whiles_put t places i place d before after all within is size put known =
    let all_places = whiles_in (map marked_of t.marks.items) in
    record {
      size = size ∙ known.size;
      told = λ n h.
          let h' : n < length before = omega (arith, size, h) in
          let later = drop (i + 1) all_places in
          let rest = option_map (λ k. (i + 1) + k) (position (nat_eq n) later) in
          ap (λ o. option_or o rest) (put n h') ∙ or_along (get_or before n None) (if nat_eq n place then Some i else None) rest
          ∙ ap (option_or (get_or before n None))
          (sym (counted_more i (nat_eq n place) (position (nat_eq n) later))
          ∙ ap (option_map (λ k. i + k))
          (sym (position-more (nat_eq n) place later)
          ∙ ap (λ k. position (nat_eq n) (k ∷ later)) (is ∙ ap (λ ps. get_or ps i d) all)
          ∙ sym (at_drop_more (position (nat_eq n)) all_places i d (subst (λ ps. i < length ps) all within))))
          ∙ known.told n h';
    }

pub whiles_end : (t : LoweredText) (places : List ℕ) (i : ℕ) (table : List (Option ℕ)) → places ≡ whiles_in (map marked_of t.marks.items) → length places ≤ i → AreCountedTo t i table
    → AreWhiles t table
whiles_end t places i table all past known =
    let all_places = whiles_in (map marked_of t.marks.items) in
    record {
      size = known.size;
      told = λ n h.
          sym (or_none (get_or table n None))
          ∙ ap (λ o. option_or (get_or table n None) (option_map (λ k. i + k) o)) (sym (at_drop_all (position (nat_eq n)) all_places i (subst (λ ps. length ps ≤ i) all past)))
          ∙ known.told n h;
    }
