-- Which positions are reached by a branch: one step more, and of a step that leads to several one position more.
use Rattle.std.specs.Prelude.{◌≡◌, ℕ, suc, ◌+◌, ◌-◌, ◌^◌, ◌<◌, ◌≤◌, nat_eq, Bool, true, false, ◌||◌, List, [], ◌∷◌, ◌++◌, Option, Some, None, length, slice_index_or}
use Rattle.std.specs.List.{list_any}
use Rattle.std.proofs.Common.{refl, ap, sym, ◌∙◌, subst, drop, get_or, replicate, arith}
use Rattle.std.proofs.lemmas.List.{length-replicate, get_or-replicate}
use Rattle.std.proofs.lemmas.Bool.Decides.{nat_tests}
use Rattle.std.proofs.lemmas.List.Folds.{list_any-append}
use Rattle.std.proofs.lemmas.Option.{slice_get-get_or}
use Rattle.f_tree.specs.Facts.{Facts}
use Rattle.lowered_tree.specs.l_core.Steps.{Text}
use Rattle.lowered_tree.specs.declared.steps.Step.{Step}
use Rattle.lowered_tree.specs.Shapes.{step_of, steps_of}
use Rattle.lowered_text.specs.declared.text.LoweredText.{LoweredText}
use Rattle.main_translation.specs.Flow.{target_in, targets_on, targets_of, targets_from, is_target}
use Rattle.main_translation.specs.Outlined.{stands_at}
use Rattle.unit_contents.specs.Tables.{text_of, AreTargets}
use Rattle.unit_contents.proofs.WalkLaws.{next_step, no_step}

-- ## Conditions

pub or_none : (b : Bool) → (b || false) ≡ b
or_none true = refl
or_none false = refl

pub or_along : (a b c : Bool) → ((a || b) || c) ≡ (a || (b || c))
or_along true b c = refl
or_along false b c = refl

pub equal_either_way : (m n : ℕ) → nat_eq m n ≡ nat_eq n m
equal_either_way m n = grind (arith, nat_tests)

-- ## Places

pub stands-Some : (m n : ℕ) → stands_at (Some m) n ≡ nat_eq n m
unfolding stands_at
stands-Some m n = equal_either_way m n

pub stands-None : (n : ℕ) → stands_at None n ≡ false
unfolding stands_at
stands-None n = refl

-- a place that has no number is none of those that have one
pub stands_past : (n m : ℕ) → n < m → stands_at None n ≡ nat_eq n m
unfolding stands_at
stands_past n m h = grind (arith, nat_tests)

pub one_target : (n m : ℕ) → nat_eq n m ≡ list_any (nat_eq n) (m ∷ [])
one_target n m = sym (or_none (nat_eq n m))

pub some_target : (o : Option ℕ) (n : ℕ) → stands_at o n ≡ list_any (nat_eq n) (target_in o)
unfolding target_in stands_at
some_target None n = refl
some_target (Some m) n = equal_either_way m n ∙ one_target n m

-- ## So many positions, each behind the other

-- those so far are noted, and those that are left are not
pub record AreNotedFrom (first count : ℕ) (before : List Bool) (i : ℕ) (table : List Bool) : Type 0 where
  pub size : length table ≡ length before
  pub noted : (n : ℕ) → n < length before
      → (get_or table n false || list_any (nat_eq n) (targets_on (first + i) (count - i))) ≡ (get_or before n false || list_any (nat_eq n) (targets_on first count))

targets_next : (first count i : ℕ) → i < count → targets_on (first + i) (count - i) ≡ (first + i) ∷ targets_on (first + (i + 1)) (count - (i + 1))
unfolding targets_on
targets_next first count i within =
    let left : count - i ≡ suc (count - (i + 1)) = omega (arith, within) in
    let place : suc (first + i) ≡ first + (i + 1) = omega arith in
    ap (λ k. targets_on (first + i) k) left ∙ ap (λ p. (first + i) ∷ targets_on p (count - (i + 1))) place

no_targets_left : (first count i : ℕ) → count ≤ i → targets_on first (count - i) ≡ []
unfolding targets_on
no_targets_left first count i past = ap (targets_on first) (let none : count - i ≡ 0 = omega (arith, past) in none)

pub from_begin : (first count : ℕ) (table : List Bool) → AreNotedFrom first count table 0 table
from_begin first count table = record {
  size = refl;
  noted = λ n h.
      ap (λ p. get_or table n false || list_any (nat_eq n) (targets_on p (count - 0))) (let same : first + 0 ≡ first = omega arith in same)
      ∙ ap (λ k. get_or table n false || list_any (nat_eq n) (targets_on first k)) (let all : count - 0 ≡ count = omega arith in all);
}

pub from_more : (first count i : ℕ) (o : Option ℕ) (before table after : List Bool) → i < count → length before ≤ 2 ^ 64
    → ((n : ℕ) → n < 2 ^ 64 → stands_at o n ≡ nat_eq n (first + i)) → length after ≡ length table
    → ((n : ℕ) → n < length table → get_or after n false ≡ (get_or table n false || stands_at o n))
    → AreNotedFrom first count before i table → AreNotedFrom first count before (i + 1) after
from_more first count i o before table after within fits is size put known = record {
  size = size ∙ known.size;
  noted = λ n h.
      let later = list_any (nat_eq n) (targets_on (first + (i + 1)) (count - (i + 1))) in
      let now = get_or table n false in
      ap (λ b. b || later) (put n (omega (arith, known.size, h)) ∙ ap (λ b. now || b) (is n (omega (arith, h, fits))))
      ∙ or_along now (nat_eq n (first + i)) later
      ∙ ap (λ ps. now || list_any (nat_eq n) ps) (sym (targets_next first count i within))
      ∙ known.noted n h;
}

pub from_end : (first count i : ℕ) (before table : List Bool) → count ≤ i → AreNotedFrom first count before i table
    → (n : ℕ) → n < length before → get_or table n false ≡ (get_or before n false || list_any (nat_eq n) (targets_on first count))
from_end first count i before table past known n h =
    sym (or_none (get_or table n false)) ∙ ap (λ ps. get_or table n false || list_any (nat_eq n) ps) (sym (no_targets_left (first + i) count i past)) ∙ known.noted n h

-- ## One step more

target_more : (u : Text) (steps : List Step) (i n : ℕ) (s : Step) (before after all : Bool) → i < length steps → s ≡ slice_index_or steps i s
    → after ≡ (before || list_any (nat_eq n) (targets_of u i (step_of s)))
    → (before || list_any (nat_eq n) (targets_from u i (steps_of (drop i steps)))) ≡ all
    → (after || list_any (nat_eq n) (targets_from u (i + 1) (steps_of (drop (i + 1) steps)))) ≡ all
unfolding targets_from
target_more u steps i n s before after all within is put known =
    let rest = steps_of (drop (i + 1) steps) in
    let here = targets_of u i (step_of s) in
    let later = list_any (nat_eq n) (targets_from u (i + 1) rest) in
    let next : suc i ≡ i + 1 = omega arith in
    ap (λ b. b || later) put ∙ or_along before (list_any (nat_eq n) here) later
    ∙ ap (λ b. before || b)
    (sym (list_any-append (nat_eq n) here (targets_from u (i + 1) rest))
    ∙ ap (λ k. list_any (nat_eq n) (here ++ targets_from u k rest)) (sym next)
    ∙ sym (next_step (λ sts. list_any (nat_eq n) (targets_from u i sts)) steps i s within is))
    ∙ known

targets_end : (u : Text) (steps : List Step) (i n : ℕ) (noted all : Bool) → length steps ≤ i
    → (noted || list_any (nat_eq n) (targets_from u i (steps_of (drop i steps)))) ≡ all → noted ≡ all
unfolding targets_from
targets_end u steps i n noted all past known = sym (or_none noted) ∙ ap (λ b. noted || b) (sym (no_step (λ sts. list_any (nat_eq n) (targets_from u i sts)) steps i past)) ∙ known

-- ## The table

-- the targets of the steps before a position are noted, and those of the steps from it on are not
pub record AreNoted (t : LoweredText) (i : ℕ) (table : List Bool) : Type 0 where
  pub size : length table ≡ suc (length t.steps.items)
  pub noted : (c : Facts) (begins : ℕ → ℕ) (n : ℕ) → n < length table
      → (get_or table n false || list_any (nat_eq n) (targets_from (text_of t c begins) i (steps_of (drop i t.steps.items)))) ≡ is_target (text_of t c begins) n

pub noted_begin : (t : LoweredText) (table : List Bool) → table ≡ replicate (suc (length t.steps.items)) false → AreNoted t 0 table
unfolding is_target
noted_begin t table blank = record {
  size = ap length blank ∙ length-replicate (suc (length t.steps.items)) false;
  noted = λ c begins n within.
      ap (λ b. b || list_any (nat_eq n) (targets_from (text_of t c begins) 0 (steps_of t.steps.items)))
      (ap (λ bs. get_or bs n false) blank ∙ get_or-replicate (suc (length t.steps.items)) n false false (subst (λ k. n < k) (ap length blank ∙ length-replicate (suc (length t.steps.items)) false) within));
}

pub noted_more : (t : LoweredText) (ss : List Step) (i : ℕ) (s : Step) (before after : List Bool) → ss ≡ t.steps.items → i < length ss → s ≡ get_or ss i s
    → length after ≡ length before
    → ((c : Facts) (begins : ℕ → ℕ) (n : ℕ) → n < length before → get_or after n false ≡ (get_or before n false || list_any (nat_eq n) (targets_of (text_of t c begins) i (step_of s))))
    → AreNoted t i before → AreNoted t (i + 1) after
noted_more t ss i s before after same within is size put known = record {
  size = size ∙ known.size;
  noted = λ c begins n h.
      let h' : n < length before = omega (arith, size) in
      target_more (text_of t c begins) t.steps.items i n s (get_or before n false) (get_or after n false) (is_target (text_of t c begins) n) (subst (λ xs. i < length xs) same within)
      (subst (λ xs. s ≡ get_or xs i s) same is) (put c begins n h') (known.noted c begins n h');
}

pub noted_end : (t : LoweredText) (i : ℕ) (table : List Bool) → length t.steps.items ≤ i → AreNoted t i table → AreTargets t table
noted_end t i table past known = record {
  size = known.size;
  told = λ c begins n h.
      slice_get-get_or table n false h
      ∙ ap Some (targets_end (text_of t c begins) t.steps.items i n (get_or table n false) (is_target (text_of t c begins) n) past (known.noted c begins n h));
}

pub ruleset behind_forms = (stands-Some, stands_past)

pub ruleset place_forms = (stands-Some, stands-None)

pub ruleset target_forms = (or_none, one_target, some_target)
