-- Labels and loops of a text that stands behind others.
use Rattle.std.specs.List.{list_any, position_or_len}
use Rattle.std.specs.Prelude.{◌≡◌, ℕ, zero, suc, ◌+◌, ◌<◌, nat_eq, nat_lt, Bool, true, false, ◌&&◌, ◌||◌, List, [], ◌∷◌, map, length, drop, position, Option, Some, None, option_map, slice_get, if◌then◌else◌}
use Rattle.std.proofs.Common.{cond, refl, ap, ◌∙◌, arith}
use Rattle.std.proofs.lemmas.Bool.{ltb-true, ltb-false}
use Rattle.std.proofs.lemmas.Bool.Decides.{nat_tests}
use Rattle.unit_translation.specs.l_core.Steps.{Step, Marked, Text}
use Rattle.unit_translation.specs.main_translation.Outlined.{labels_in, stands_at, label_before, opens_while, whiles_in, name_by, label_at, turn_of, is_opening, opens_loop, is_opening_once, opens_once, turn_behind, loop_at}
use Rattle.behind_bounds.specs.BehindBounds.{steps_behind, position_behind, mark_behind, behind}
use Rattle.behind_flow.specs.BehindFlow.{OutlinedBehind, OutlinesAreBehind}
use Rattle.behind_flow.proofs.Further.{eq_further, eq_before, lt_further, further, position_same, drop_further, at_further, long_further}

-- ## Labels

eq_later : (first n m : ℕ) → n < first → nat_eq (first + m) n ≡ false
eq_later first n m below = grind (arith, nat_tests, below)

labels_past : (first : ℕ) (steps : List Step) → labels_in (steps_behind first steps) ≡ labels_in steps
unfolding steps_behind labels_in
labels_past zero steps = refl
labels_past (suc first) steps = labels_past first steps

stands_further : (first n at : ℕ) (found : Option ℕ) → at ≡ first + n → stands_at (option_map (λ k. first + k) found) at ≡ stands_at found n
unfolding stands_at
stands_further first n at None is = refl
stands_further first n at (Some m) is = ap (nat_eq (first + m)) is ∙ eq_further first m n

stands_none : (first n : ℕ) (found : Option ℕ) → n < first → stands_at (option_map (λ k. first + k) found) n ≡ false
unfolding stands_at
stands_none first n None below = refl
stands_none first n (Some m) below = eq_later first n m below

before_further : (first : ℕ) (place : ℕ → Option ℕ) (n at : ℕ) (labels : List ℕ) → at ≡ first + n → label_before (position_behind first place) at labels ≡ label_before place n labels
unfolding label_before position_behind
before_further first place n at [] is = refl
before_further first place n at (label ∷ later) is = λ i. if stands_further first n at (place label) is i then Some label else before_further first place n at later is i

before_none : (first : ℕ) (place : ℕ → Option ℕ) (n : ℕ) (labels : List ℕ) → n < first → label_before (position_behind first place) n labels ≡ None
unfolding label_before position_behind
before_none first place n [] below = refl
before_none first place n (label ∷ later) below = λ i. if stands_none first n (place label) below i then Some label else before_none first place n later below i

kept_by : {A B : Type 0} (b : Bool) (f : A → B) (x : A) (xs : List A) → (if b then f x ∷ map f xs else map f xs) ≡ map f (if b then x ∷ xs else xs)
kept_by true f x xs = refl
kept_by false f x xs = refl

whiles_further : (first : ℕ) (marks : List Marked) → whiles_in (map (mark_behind first) marks) ≡ further first (whiles_in marks)
unfolding whiles_in mark_behind
whiles_further first [] = refl
whiles_further first (one ∷ later) =
    ap (λ xs. if opens_while one.mark then (first + one.at) ∷ xs else xs) (whiles_further first later) ∙ kept_by (opens_while one.mark) (λ n. first + n) one.at (whiles_in later)

never_place : (xs : List ℕ) → position_or_len (λ (k : ℕ). false) xs ≡ length xs
never_place [] = refl
never_place (x ∷ xs) = ap (λ n. 1 + n) (never_place xs) ∙ (let e : 1 + length xs ≡ suc (length xs) = omega arith in e)

never : (xs : List ℕ) → position (λ (k : ℕ). false) xs ≡ None
never xs =
    let all = never_place xs in
    let past : nat_lt (position_or_len (λ (k : ℕ). false) xs) (length xs) ≡ false = grind (arith, nat_tests, all) in
    ap (λ b. cond b (Some (position_or_len (λ (k : ℕ). false) xs)) None) past

position_none : (first n : ℕ) (xs : List ℕ) → n < first → position (nat_eq n) (further first xs) ≡ None
position_none first n xs below = position_same (λ k. first + k) (λ k. false) (nat_eq n) (λ k. eq_before first n k below) xs ∙ never xs

label_past : (b : Bool) → (if b then name_by None None else None) ≡ None
unfolding name_by
label_past true = refl
label_past false = refl

-- ## Loops

any_same : (f : Marked → Marked) (p q : Marked → Bool) → ((one : Marked) → q (f one) ≡ p one) → (marks : List Marked) → list_any q (map f marks) ≡ list_any p marks
any_same f p q same [] = refl
any_same f p q same (one ∷ later) = λ i. same one i || any_same f p q same later i

any_none : (f : Marked → Marked) (q : Marked → Bool) → ((one : Marked) → q (f one) ≡ false) → (marks : List Marked) → list_any q (map f marks) ≡ false
any_none f q none [] = refl
any_none f q none (one ∷ later) = λ i. none one i || any_none f q none later i

and_none : (b : Bool) → (b && false) ≡ false
and_none true = refl
and_none false = refl

opens_further : (first n at : ℕ) (one : Marked) → at ≡ first + n → opens_loop at (mark_behind first one) ≡ opens_loop n one
unfolding opens_loop mark_behind
opens_further first n at one is = ap (λ b. is_opening one.mark && b) (ap (nat_eq (first + one.at)) is ∙ eq_further first one.at n)

once_further : (first n at : ℕ) (one : Marked) → at ≡ first + n → opens_once at (mark_behind first one) ≡ opens_once n one
unfolding opens_once mark_behind
once_further first n at one is = ap (λ b. is_opening_once one.mark && b) (ap (nat_eq (first + one.at)) is ∙ eq_further first one.at n)

opens_none : (first n : ℕ) (one : Marked) → n < first → opens_loop n (mark_behind first one) ≡ false
unfolding opens_loop mark_behind
opens_none first n one below = ap (λ b. is_opening one.mark && b) (eq_later first n one.at below) ∙ and_none (is_opening one.mark)

once_none : (first n : ℕ) (one : Marked) → n < first → opens_once n (mark_behind first one) ≡ false
unfolding opens_once mark_behind
once_none first n one below = ap (λ b. is_opening_once one.mark && b) (eq_later first n one.at below) ∙ and_none (is_opening_once one.mark)

-- ## The whole

module _ (first : ℕ) (u : Text) where
  abbrev b : Text
  b = behind first u

  abbrev named : Bool → Option ℕ → Option ℕ → Option (List ℕ)
  named within label loop = if within then name_by label loop else None

  label_same : (n at : ℕ) → at ≡ first + n → label_at b at ≡ label_at u n
  unfolding label_at
  label_same n at is =
      let within : nat_lt at (length b.steps) ≡ nat_lt n (length u.steps) = lt_further first n (length u.steps) at (length b.steps) is (long_further first u.steps) in
      let label : label_before b.position at (labels_in b.steps) ≡ label_before u.position n (labels_in u.steps) =
      ap (label_before b.position at) (labels_past first u.steps) ∙ before_further first u.position n at (labels_in u.steps) is in
      let loop : position (nat_eq at) (whiles_in b.marks) ≡ position (nat_eq n) (whiles_in u.marks) =
      ap (position (nat_eq at)) (whiles_further first u.marks) ∙ position_same (λ k. first + k) (nat_eq n) (nat_eq at) (λ k. ap (λ j. nat_eq j (first + k)) is ∙ eq_further first n k) (whiles_in u.marks) in
      λ i. named (within i) (label i) (loop i)

  label_none : (n : ℕ) → n < first → label_at b n ≡ None
  unfolding label_at
  label_none n below =
      let label : label_before b.position n (labels_in b.steps) ≡ None = before_none first u.position n (labels_in b.steps) below in
      let loop : position (nat_eq n) (whiles_in b.marks) ≡ None = ap (position (nat_eq n)) (whiles_further first u.marks) ∙ position_none first n (whiles_in u.marks) below in
      (λ i. named (nat_lt n (length b.steps)) (label i) (loop i)) ∙ label_past (nat_lt n (length b.steps))

  abbrev looped : Bool → Bool → Option Step → List Step → Option ℕ
  looped opens once next later = if opens then turn_of next else if once then turn_behind 0 later else None

  loop_same : (n at : ℕ) → at ≡ first + n → loop_at b at ≡ loop_at u n
  unfolding loop_at
  loop_same n at is =
      let next : suc at ≡ first + suc n = omega (arith, is) in
      let opens : list_any (opens_loop (suc at)) b.marks ≡ list_any (opens_loop (suc n)) u.marks =
      any_same (mark_behind first) (opens_loop (suc n)) (opens_loop (suc at)) (λ one. opens_further first (suc n) (suc at) one next) u.marks in
      let once : list_any (opens_once (suc at)) b.marks ≡ list_any (opens_once (suc n)) u.marks =
      any_same (mark_behind first) (opens_once (suc n)) (opens_once (suc at)) (λ one. once_further first (suc n) (suc at) one next) u.marks in
      λ i. looped (opens i) (once i) (at_further first u.steps (suc n) (suc at) next i) (drop_further first u.steps (suc n) (suc at) next i)

  -- no loop opens at the first step of the text
  none_opens : list_any (opens_loop 0) u.marks ≡ false → (n : ℕ) → n < first → (d : Bool) → nat_lt (suc n) first ≡ d → list_any (opens_loop (suc n)) b.marks ≡ false
  none_opens none n below true within = any_none (mark_behind first) (opens_loop (suc n)) (λ one. opens_none first (suc n) one (ltb-true (suc n) first within)) u.marks
  none_opens none n below false within =
      let last : suc n ≡ first + 0 = let up = ltb-false (suc n) first within in omega (arith, up, below) in
      any_same (mark_behind first) (opens_loop 0) (opens_loop (suc n)) (λ one. opens_further first 0 (suc n) one last) u.marks ∙ none

  none_once : list_any (opens_once 0) u.marks ≡ false → (n : ℕ) → n < first → (d : Bool) → nat_lt (suc n) first ≡ d → list_any (opens_once (suc n)) b.marks ≡ false
  none_once none n below true within = any_none (mark_behind first) (opens_once (suc n)) (λ one. once_none first (suc n) one (ltb-true (suc n) first within)) u.marks
  none_once none n below false within =
      let last : suc n ≡ first + 0 = let up = ltb-false (suc n) first within in omega (arith, up, below) in
      any_same (mark_behind first) (opens_once 0) (opens_once (suc n)) (λ one. once_further first 0 (suc n) one last) u.marks ∙ none

  loop_none : list_any (opens_loop 0) u.marks ≡ false → list_any (opens_once 0) u.marks ≡ false → (n : ℕ) → n < first → loop_at b n ≡ None
  unfolding loop_at
  loop_none opens once n below =
      λ i. looped (none_opens opens n below (nat_lt (suc n) first) refl i) (none_once once n below (nat_lt (suc n) first) refl i) (slice_get b.steps (suc n)) (drop (suc n) b.steps)

  outlined : OutlinedBehind first u
  outlined = record {
    labels = λ n. label_same n (first + n) refl;
    labels_before = λ n below. label_none n below;
    loops = λ n. loop_same n (first + n) refl;
    loops_before = λ opens once n below. loop_none opens once n below;
  }

pub outlined_behind : OutlinesAreBehind
outlined_behind first u = outlined first u
