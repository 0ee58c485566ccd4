-- What is known of the loops and the labels of a text, is known of them behind what keeps the bounds of dummy arrays.
use Rattle.std.specs.Prelude.{◌≡◌, ℕ, zero, suc, ◌+◌, ◌-◌, ◌<◌, ◌≤◌, nat_lt, Bool, true, false, List, [], ◌∷◌, map, length, Option, Some, None, option_map, slice_get, if◌then◌else◌}
use Rattle.std.proofs.Common.{refl, sym, ap, ◌∙◌, subst, arith}
use Rattle.std.proofs.lemmas.Bool.{eq-eqb, ltb-true, ltb-false}
use Rattle.translated_files.specs.l_core.Steps.{Step, Marked, Text}
use Rattle.translated_files.specs.main_translation.Outlined.{labels_in, stands_at, opens_while, whiles_in, label_at, loop_at}
use Rattle.translated_files.specs.unit_translation.behind_bounds.BehindBounds.{steps_behind, position_behind, mark_behind, behind}
use Rattle.behind_units.specs.BehindUnits.{UnitStandsBehind}
use Rattle.loop_marks.specs.c_loops.KeptLayouts.{one_if, loops_from}
use Rattle.loop_marks.specs.MarkedLoops.{SetsAndTests, SetsAndTestsBehind, LoopsAreMarked}

-- ## Where loops begin

-- none among the first places
none_first : (loop : ℕ → Option ℕ) (m : ℕ) → ((n : ℕ) → n < m → loop n ≡ None) → (n count rest all : ℕ) → n + count ≡ m → all ≡ count + rest → loops_from loop n all ≡ loops_from loop m rest
unfolding one_if loops_from
none_first loop m none n zero rest all there whole =
    let place : n ≡ m = omega (arith, there) in
    let same : all ≡ rest = omega (arith, whole) in
    (λ i. loops_from loop (place i) (same i))
none_first loop m none n (suc count) rest zero there whole = absurd (omega (arith, whole))
none_first loop m none n (suc count) rest (suc all) there whole =
    let here : one_if (loop n) ≡ 0 = ap one_if (none n (omega (arith, there))) in
    let more = none_first loop m none (suc n) count rest all (omega (arith, there)) (omega (arith, whole)) in
    (let e : one_if (loop n) + loops_from loop (suc n) all ≡ loops_from loop m rest = omega (arith, here, more) in e)

-- and the others so many places further on
shifted : (loop own : ℕ → Option ℕ) (m : ℕ) → ((n : ℕ) → loop (m + n) ≡ own n) → (k n count : ℕ) → k ≡ m + n → loops_from loop k count ≡ loops_from own n count
unfolding loops_from
shifted loop own m same k n zero from = refl
shifted loop own m same k n (suc count) from =
    let here : loop k ≡ own n = ap loop from ∙ same n in
    let more = shifted loop own m same (suc k) (suc n) count (omega (arith, from)) in
    (λ i. one_if (here i) + more i)

late_by : (first n size : ℕ) (found : Option ℕ) → found ≡ Some size → (n < first → found ≡ None) → first ≤ n
late_by first n size found is none = by (nat_lt n first) refl
  where
    by : (b : Bool) → nat_lt n first ≡ b → first ≤ n
    by true less = absurd (let clash : None ≡ Some size = sym (none (ltb-true n first less)) ∙ is in cc)
    by false less = let other = ltb-false n first less in omega (arith, other)

-- ## Marks

whiles_many : (first : ℕ) (marks : List Marked) → length (whiles_in (map (mark_behind first) marks)) ≡ length (whiles_in marks)
unfolding whiles_in mark_behind
whiles_many first [] = refl
whiles_many first (one ∷ later) = by (opens_while one.mark) (whiles_many first later)
  where
    by : (b : Bool) → length (whiles_in (map (mark_behind first) later)) ≡ length (whiles_in later) →
        length (if b then (first + one.at) ∷ whiles_in (map (mark_behind first) later) else whiles_in (map (mark_behind first) later)) ≡ length (if b then one.at ∷ whiles_in later else whiles_in later)
    by true more = ap suc more
    by false more = more

-- ## Labels

pub labels_same : (first : ℕ) (steps : List Step) → labels_in (steps_behind first steps) ≡ labels_in steps
unfolding labels_in steps_behind
labels_same zero steps = refl
labels_same (suc first) steps = labels_same first steps

stood : (first n : ℕ) (found : Option ℕ) → stands_at (option_map (λ k. first + k) found) n ≡ true → (m : ℕ) × (stands_at found m ≡ true)
unfolding stands_at
stood first n None h = absurd (cc)
stood first n (Some place) h = (place, eq-eqb place place refl)

pub stood_before : (first n : ℕ) (position : ℕ → Option ℕ) (label : ℕ) → stands_at (position_behind first position label) n ≡ true → (m : ℕ) × (stands_at (position label) m ≡ true)
unfolding position_behind
stood_before first n position label h = stood first n (position label) h

-- ## The whole

module _ (first : ℕ) (u : Text) (stands : UnitStandsBehind first u) (loops : LoopsAreMarked u) where
  pub late : (n size : ℕ) → loop_at (behind first u) n ≡ Some size → first ≤ n
  late n size is = late_by first n size (loop_at (behind first u) n) is (stands.loops_before n)

  sets_behind : (m size : ℕ) → SetsAndTests u.steps m size → SetsAndTests (behind first u).steps (first + m) size
  sets_behind m size s =
      let next : suc (first + m) ≡ first + suc m = omega arith in
      record { place = s.place; value = s.value; test = s.test; sets = stands.steps.places m ∙ s.sets; tests = ap (slice_get (behind first u).steps) next ∙ stands.steps.places (suc m) ∙ s.tests }

  once_behind : (m size : ℕ) → SetsAndTestsBehind u m size → SetsAndTestsBehind (behind first u) (first + m) size
  once_behind m size s =
      let last : suc (first + m) + size ≡ first + (suc m + size) = omega arith in
      record {
        place = s.place;
        value = s.value;
        test = s.test;
        sets = stands.steps.places m ∙ s.sets;
        tests = ap (slice_get (behind first u).steps) last ∙ stands.steps.places (suc m + size) ∙ s.tests;
        unlabelled = ap (label_at (behind first u)) last ∙ stands.outlined.labels (suc m + size) ∙ s.unlabelled;
      }

  own_loop : (n size : ℕ) → first + (n - first) ≡ n → loop_at (behind first u) n ≡ Some size → loop_at u (n - first) ≡ Some size
  own_loop n size place is = sym (stands.outlined.loops (n - first)) ∙ ap (loop_at (behind first u)) place ∙ is

  pub marked_behind : LoopsAreMarked (behind first u)
  marked_behind = record {
    number = none_first (loop_at (behind first u)) first stands.loops_before 0 first (length u.steps) (length (behind first u).steps) (omega arith) stands.steps.long
        ∙ shifted (loop_at (behind first u)) (loop_at u) first stands.outlined.loops first 0 (length u.steps) (omega arith) ∙ loops.number;
    before = λ once n size is. (let far = late n size is in
        let place : first + (n - first) ≡ n = omega (arith, far) in
        subst (λ k. SetsAndTests (behind first u).steps k size) place (sets_behind (n - first) size (loops.before once (n - first) size (own_loop n size place is))));
    behind = λ once n size is. (let far = late n size is in
        let place : first + (n - first) ≡ n = omega (arith, far) in
        subst (λ k. SetsAndTestsBehind (behind first u) k size) place (once_behind (n - first) size (loops.behind once (n - first) size (own_loop n size place is))));
    whiles = whiles_many first u.marks ∙ loops.whiles;
  }
