-- Laws of the ranges of DO loops: which are open behind a statement, within a range and at both its ends. ANSI X3.9-1978, section 11.10.
use Rattle.std.specs.Prelude.{◌≡◌, ℕ, zero, suc, ◌+◌, ◌<◌, ◌≤◌, nat_lt, nat_le, Bool, true, false, ◌&&◌, ◌||◌, not, ◌⊎◌, cond, List, [], ◌∷◌, ◌++◌, filter, Option, Some, None, slice_get}
use Rattle.std.specs.List.{list_all}
use Rattle.std.proofs.Common.{refl, sym, ap, ◌∙◌, subst, arith, inl, inr}
use Rattle.std.proofs.lemmas.Bool.{cases_Bool, and_parts, both_ways, ltb-true, ltb-false, leb-true, lt-ltb, le-ltb, le-leb, lt-leb}
use Rattle.std.proofs.lemmas.List.{append-nil, append_assoc}
use Rattle.std.proofs.lemmas.List.Elements.{filter-append}
use Rattle.f_tree.specs.Facts.{Line, ProgramUnit}
use Rattle.f_tree.specs.Places.{terminal_of}
use Rattle.f_tree.specs.Setting.{IsIn, first_in, later_in}
use Rattle.f_tree.specs.Nests.{Range, loop_of, range_to, range_by, ranges_from, ranges_of, is_within, open_at, goes_past, is_contained, each_contained, ends_at, ends_by, each_ends, AreNested}
use Rattle.fortran_laws.specs.NestStatements.{NoneIsOpenAtFirst, OpenIsKnownBehind, IsOpen, OpenIsWithin, WithinIsOpen, IsOfLoop, EachRangeIsOfALoop, begins_before, OneNestInARange, InnermostEndFirst}

-- TESTED LISTS
kept : {A : Type 0} (p : A → Bool) (x : A) (xs : List A) → p x ≡ true → filter p (x ∷ xs) ≡ x ∷ filter p xs
kept p x xs h = ap (λ b. cond b (x ∷ filter p xs) (filter p xs)) h

left_out : {A : Type 0} (p : A → Bool) (x : A) (xs : List A) → p x ≡ false → filter p (x ∷ xs) ≡ filter p xs
left_out p x xs h = ap (λ b. cond b (x ∷ filter p xs) (filter p xs)) h

filter_none : {A : Type 0} (p : A → Bool) (xs : List A) → ((x : A) → IsIn x xs → p x ≡ false) → filter p xs ≡ []
filter_none p [] h = refl
filter_none p (x ∷ xs) h = left_out p x xs (h x first_in) ∙ filter_none p xs (λ y among. h y (later_in among))

filter_all : {A : Type 0} (p : A → Bool) (xs : List A) → ((x : A) → IsIn x xs → p x ≡ true) → filter p xs ≡ xs
filter_all p [] h = refl
filter_all p (x ∷ xs) h = kept p x xs (h x first_in) ∙ ap (λ ys. x ∷ ys) (filter_all p xs (λ y among. h y (later_in among)))

filter_alike : {A : Type 0} (p q : A → Bool) (xs : List A) → ((x : A) → IsIn x xs → p x ≡ q x) → filter p xs ≡ filter q xs
filter_alike p q [] h = refl
filter_alike p q (x ∷ xs) h =
    ap (λ b. cond b (x ∷ filter p xs) (filter p xs)) (h x first_in) ∙ ap (λ ys. cond (q x) (x ∷ ys) ys) (filter_alike p q xs (λ y among. h y (later_in among)))

twice_more : {A : Type 0} (p q : A → Bool) (x : A) (xs : List A) (b : Bool) → filter p (filter q xs) ≡ filter (λ y. q y && p y) xs →
    filter p (cond b (x ∷ filter q xs) (filter q xs)) ≡ cond (b && p x) (x ∷ filter (λ y. q y && p y) xs) (filter (λ y. q y && p y) xs)
twice_more p q x xs true h = ap (λ ys. cond (p x) (x ∷ ys) ys) h
twice_more p q x xs false h = h

filter_twice : {A : Type 0} (p q : A → Bool) (xs : List A) → filter p (filter q xs) ≡ filter (λ x. q x && p x) xs
filter_twice p q [] = refl
filter_twice p q (x ∷ xs) = twice_more p q x xs (q x) (filter_twice p q xs)

in_filter : {A : Type 0} (p : A → Bool) (xs : List A) (x : A) → IsIn x xs → p x ≡ true → IsIn x (filter p xs)
in_filter p [] x among h = elim among [ ]
in_filter p (x ∷ xs) _ first_in h = subst (IsIn x) (sym (kept p x xs h)) first_in
in_filter p (y ∷ xs) x (later_in among) h = in_rest (p y) (in_filter p xs x among h)
  where
    in_rest : (b : Bool) → IsIn x (filter p xs) → IsIn x (cond b (y ∷ filter p xs) (filter p xs))
    in_rest true rest = later_in rest
    in_rest false rest = rest

from_head : {A : Type 0} (p : A → Bool) (y : A) (xs : List A) (x : A) → (IsIn x (filter p xs) → IsIn x xs × (p x ≡ true)) → p y ≡ true →
    (zs : List A) → IsIn x zs → zs ≡ y ∷ filter p xs → IsIn x (y ∷ xs) × (p x ≡ true)
from_head p y xs x later yes' [] here same = elim here [ ]
from_head p y xs x later yes' (z ∷ zs) first_in same = let e : x ≡ y = cc in (subst (λ w. IsIn w (y ∷ xs)) (sym e) first_in, ap p e ∙ yes')
from_head p y xs x later yes' (z ∷ zs) (later_in here) same =
    let e : zs ≡ filter p xs = cc in
    let rest = later (subst (IsIn x) e here) in
    (later_in rest.0, rest.1)

from_either : {A : Type 0} (p : A → Bool) (y : A) (xs : List A) (x : A) → (IsIn x (filter p xs) → IsIn x xs × (p x ≡ true)) →
    IsIn x (filter p (y ∷ xs)) → (p y ≡ true) ⊎ (p y ≡ false) → IsIn x (y ∷ xs) × (p x ≡ true)
from_either p y xs x later among (inl yes') = from_head p y xs x later yes' (y ∷ filter p xs) (subst (IsIn x) (kept p y xs yes') among) refl
from_either p y xs x later among (inr no') =
    let rest = later (subst (IsIn x) (left_out p y xs no') among) in
    (later_in rest.0, rest.1)

from_filter : {A : Type 0} (p : A → Bool) (xs : List A) (x : A) → IsIn x (filter p xs) → IsIn x xs × (p x ≡ true)
from_filter p [] x among = elim among [ ]
from_filter p (y ∷ xs) x among = from_either p y xs x (from_filter p xs x) among (cases_Bool (p y))

in_append : {A : Type 0} (xs ys : List A) (x : A) → IsIn x (xs ++ ys) → IsIn x xs ⊎ IsIn x ys
in_append [] ys x among = inr among
in_append (z ∷ xs) ys _ first_in = inl first_in
in_append (z ∷ xs) ys x (later_in among) = either (in_append xs ys x among)
  where
    either : IsIn x xs ⊎ IsIn x ys → IsIn x (z ∷ xs) ⊎ IsIn x ys
    either (inl front) = inl (later_in front)
    either (inr back) = inr back

all_in : {A : Type 0} (p : A → Bool) (xs : List A) (x : A) → list_all p xs ≡ true → IsIn x xs → p x ≡ true
all_in p [] x h among = elim among [ ]
all_in p (x ∷ xs) _ h first_in = (and_parts (p x) (list_all p xs) h).0
all_in p (y ∷ xs) x h (later_in among) = all_in p xs x (and_parts (p y) (list_all p xs) h).1 among

-- WITHIN A RANGE
both_true : (a b : Bool) → a ≡ true → b ≡ true → (a && b) ≡ true
both_true a b h g = rw h g

left_false : (a b : Bool) → a ≡ false → (a && b) ≡ false
left_false a b h = ap (λ c. c && b) h

right_false : (a b : Bool) → b ≡ false → (a && b) ≡ false
right_false true b h = h
right_false false b h = refl

within_yes : (i : ℕ) (r : Range) → r.first < i → i ≤ r.last → is_within i r ≡ true
unfolding is_within
within_yes i r low high = both_true (nat_lt r.first i) (nat_le i r.last) (lt-ltb r.first i low) (le-leb i r.last high)

within_before : (i : ℕ) (r : Range) → i ≤ r.first → is_within i r ≡ false
unfolding is_within
within_before i r h = left_false (nat_lt r.first i) (nat_le i r.last) (le-ltb r.first i h)

within_behind : (i : ℕ) (r : Range) → r.last < i → is_within i r ≡ false
unfolding is_within
within_behind i r h = right_false (nat_lt r.first i) (nat_le i r.last) (lt-leb i r.last h)

within_parts : (i : ℕ) (r : Range) → is_within i r ≡ true → (r.first < i) × (i ≤ r.last)
unfolding is_within
within_parts i r h =
    let parts = and_parts (nat_lt r.first i) (nat_le i r.last) h in
    (ltb-true r.first i parts.0, leb-true i r.last parts.1)

past_yes : (i : ℕ) (r : Range) → i < r.last → goes_past i r ≡ true
unfolding goes_past
past_yes i r h = lt-ltb i r.last h

past_no : (i : ℕ) (r : Range) → r.last ≤ i → goes_past i r ≡ false
unfolding goes_past
past_no i r h = le-ltb i r.last h

cases_past : (i : ℕ) (r : Range) → (i < r.last) ⊎ (r.last ≤ i)
cases_past i r = either (cases_Bool (nat_lt i r.last))
  where
    either : (nat_lt i r.last ≡ true) ⊎ (nat_lt i r.last ≡ false) → (i < r.last) ⊎ (r.last ≤ i)
    either (inl yes') = inl (ltb-true i r.last yes')
    either (inr no') = inr (ltb-false i r.last no')

-- a range that began before a statement is open at the next one where it goes past it
within_next : (i : ℕ) (r : Range) → r.first < i → is_within (suc i) r ≡ (is_within i r && goes_past i r)
within_next i r low = either (cases_past i r)
  where
    either : (i < r.last) ⊎ (r.last ≤ i) → is_within (suc i) r ≡ (is_within i r && goes_past i r)
    either (inl past) =
        within_yes (suc i) r (omega arith) (omega arith)
        ∙ sym (both_true (is_within i r) (goes_past i r) (within_yes i r low (omega arith)) (past_yes i r past))
    either (inr ends) = within_behind (suc i) r (omega arith) ∙ sym (right_false (is_within i r) (goes_past i r) (past_no i r ends))

-- THE RANGES OF A UNIT
range_to_is : (i : ℕ) (o : Option ℕ) (r : Range) → IsIn r (range_to i o) → (r.first ≡ i) × (o ≡ Some r.last)
unfolding range_to
range_to_is i None r among = elim among [ ]
range_to_is i (Some last) _ first_in = (refl, refl)
range_to_is i (Some last) r (later_in among) = elim among [ ]

range_to_ends : (u : ProgramUnit) (i : ℕ) (o : Option ℕ) (r : Range) → ends_at u i o ≡ true → IsIn r (range_to i o) → i < r.last
unfolding range_to ends_at
range_to_ends u i None r h among = elim among [ ]
range_to_ends u i (Some last) _ h first_in = ltb-true i last (and_parts (nat_lt i last) _ h).0
range_to_ends u i (Some last) r h (later_in among) = elim among [ ]

range_by_first : (u : ProgramUnit) (i : ℕ) (o : Option (Option ℕ)) (r : Range) → IsIn r (range_by u i o) → r.first ≡ i
unfolding range_by
range_by_first u i None r among = elim among [ ]
range_by_first u i (Some label) r among = (range_to_is i (terminal_of u i label) r among).0

range_by_ends : (u : ProgramUnit) (i : ℕ) (o : Option (Option ℕ)) (r : Range) → ends_by u i o ≡ true → IsIn r (range_by u i o) → i < r.last
unfolding range_by ends_by
range_by_ends u i None r h among = elim among [ ]
range_by_ends u i (Some label) r h among = range_to_ends u i (terminal_of u i label) r h among

ranges_begin : (u : ProgramUnit) (k : ℕ) (lines : List Line) (r : Range) → IsIn r (ranges_from u k lines) → k ≤ r.first
unfolding ranges_from
ranges_begin u k [] r among = elim among [ ]
ranges_begin u k (line ∷ lines) r among =
    either (ranges_begin u (suc k) lines r) (in_append (ranges_from u (suc k) lines) (range_by u k (loop_of line.form)) r among)
  where
    either : (IsIn r (ranges_from u (suc k) lines) → suc k ≤ r.first) → IsIn r (ranges_from u (suc k) lines) ⊎ IsIn r (range_by u k (loop_of line.form)) → k ≤ r.first
    either begins (inl later) = omega (arith, begins later)
    either begins (inr here) = omega (arith, range_by_first u k (loop_of line.form) r here)

-- each is that of a DO
of_loop_here : (u : ProgramUnit) (line : Line) (k : ℕ) (o : Option (Option ℕ)) (r : Range) → slice_get u.lines k ≡ Some line → loop_of line.form ≡ o →
    IsIn r (range_by u k o) → IsOfLoop u r
unfolding range_by
of_loop_here u line k None r at is among = elim among [ ]
of_loop_here u line k (Some label) r at is among =
    let found = range_to_is k (terminal_of u k label) r among in
    record {
      line = line;
      there = ap (slice_get u.lines) found.0 ∙ at;
      label = label;
      loops = is;
      ends = ap (λ j. terminal_of u j label) found.0 ∙ found.1;
    }

of_loop_from : (u : ProgramUnit) (k : ℕ) (lines : List Line) → ((n : ℕ) → slice_get u.lines (n + k) ≡ slice_get lines n) → (r : Range) →
    IsIn r (ranges_from u k lines) → IsOfLoop u r
unfolding ranges_from
of_loop_from u k [] same r among = elim among [ ]
of_loop_from u k (line ∷ lines) same r among =
    either (of_loop_from u (suc k) lines (λ n. ap (slice_get u.lines) (omega arith) ∙ same (suc n)) r)
    (in_append (ranges_from u (suc k) lines) (range_by u k (loop_of line.form)) r among)
  where
    either : (IsIn r (ranges_from u (suc k) lines) → IsOfLoop u r) → IsIn r (ranges_from u (suc k) lines) ⊎ IsIn r (range_by u k (loop_of line.form)) → IsOfLoop u r
    either behind (inl later) = behind later
    either behind (inr here) = of_loop_here u line k (loop_of line.form) r (ap (slice_get u.lines) (omega arith) ∙ same 0) refl here

pub range_of_loop : EachRangeIsOfALoop
unfolding ranges_of
range_of_loop u r among = of_loop_from u 0 u.lines (λ n. ap (slice_get u.lines) (omega arith)) r among

-- WHAT IS OPEN
pub none_at_first : NoneIsOpenAtFirst
unfolding open_at
none_at_first u = filter_none (is_within 0) (ranges_of u) (λ r among. within_before 0 r (omega arith))

pub open_is_within : OpenIsWithin
unfolding open_at
open_is_within u i r among =
    let found = from_filter (is_within i) (ranges_of u) r among in
    let parts = within_parts i r found.1 in
    record { of_unit = found.0; behind = parts.0; not_behind = parts.1 }

pub within_is_open : WithinIsOpen
unfolding open_at
within_is_open u i r h = in_filter (is_within i) (ranges_of u) r h.of_unit (within_yes i r h.behind h.not_behind)

-- of those that began before a statement, those are open behind it that are open at it and go past it
module _ (u : ProgramUnit) (i k : ℕ) (o : Option (Option ℕ)) (later : List Range) where
  here : List Range
  here = range_by u k o

  -- at the statement itself
  open_behind_loop : i ≡ k → ends_by u k o ≡ true → ((r : Range) → IsIn r later → suc k ≤ r.first) →
      filter (is_within (suc i)) (later ++ here) ≡ here ++ filter (goes_past i) (filter (is_within i) (later ++ here))
  unfolding here
  open_behind_loop at ends behind =
      let none_later : filter (is_within (suc i)) later ≡ [] =
      filter_none (is_within (suc i)) later (λ r among. within_before (suc i) r (omega (arith, behind r among))) in
      let all_here : filter (is_within (suc i)) here ≡ here =
      filter_all (is_within (suc i)) here
      (λ r among. within_yes (suc i) r (omega (arith, range_by_first u k o r among)) (omega (arith, range_by_ends u k o r ends among))) in
      let none_open : filter (is_within i) (later ++ here) ≡ [] =
      filter_none (is_within i) (later ++ here) (λ r among. within_before i r (begins r (in_append later here r among))) in
      filter-append (is_within (suc i)) later here
      ∙ ap (λ xs. xs ++ filter (is_within (suc i)) here) none_later
      ∙ all_here
      ∙ sym (append-nil here)
      ∙ ap (λ xs. here ++ filter (goes_past i) xs) (sym none_open)
    where
      begins : (r : Range) → IsIn r later ⊎ IsIn r here → i ≤ r.first
      begins r (inl among) = omega (arith, behind r among)
      begins r (inr among) = omega (arith, range_by_first u k o r among)

  -- at one behind it
  open_behind_later : (own : List Range) → k < i → filter (is_within (suc i)) later ≡ own ++ filter (goes_past i) (filter (is_within i) later) →
      filter (is_within (suc i)) (later ++ here) ≡ own ++ filter (goes_past i) (filter (is_within i) (later ++ here))
  unfolding here
  open_behind_later own low before =
      let same_here : filter (is_within (suc i)) here ≡ filter (goes_past i) (filter (is_within i) here) =
      filter_alike (is_within (suc i)) (λ r. is_within i r && goes_past i r) here (λ r among. within_next i r (omega (arith, range_by_first u k o r among)))
      ∙ sym (filter_twice (goes_past i) (is_within i) here) in
      filter-append (is_within (suc i)) later here
      ∙ ap (λ xs. xs ++ filter (is_within (suc i)) here) before
      ∙ ap (λ xs. (own ++ filter (goes_past i) (filter (is_within i) later)) ++ xs) same_here
      ∙ append_assoc own (filter (goes_past i) (filter (is_within i) later)) (filter (goes_past i) (filter (is_within i) here))
      ∙ ap (λ xs. own ++ xs) (sym (filter-append (goes_past i) (filter (is_within i) later) (filter (is_within i) here)))
      ∙ ap (λ xs. own ++ filter (goes_past i) xs) (sym (filter-append (is_within i) later here))

behind_from : (u : ProgramUnit) (k i n : ℕ) (lines : List Line) (line : Line) → i ≡ n + k → each_ends u k lines ≡ true → slice_get lines n ≡ Some line →
    filter (is_within (suc i)) (ranges_from u k lines) ≡ range_by u i (loop_of line.form) ++ filter (goes_past i) (filter (is_within i) (ranges_from u k lines))
unfolding ranges_from each_ends here
behind_from u k i n [] line is ends at = absurd (cc)
behind_from u k i zero (l ∷ lines) line is ends at =
    let parts = and_parts (ends_by u k (loop_of l.form)) (each_ends u (suc k) lines) ends in
    let place : i ≡ k = omega arith in
    let same : l ≡ line = cc in
    open_behind_loop u i k (loop_of l.form) (ranges_from u (suc k) lines) place parts.0 (ranges_begin u (suc k) lines)
    ∙ ap (λ xs. xs ++ filter (goes_past i) (filter (is_within i) (ranges_from u (suc k) lines ++ range_by u k (loop_of l.form))))
    (ap (λ j. range_by u j (loop_of l.form)) (sym place) ∙ ap (λ m. range_by u i (loop_of m.form)) same)
behind_from u k i (suc n) (l ∷ lines) line is ends at =
    let parts = and_parts (ends_by u k (loop_of l.form)) (each_ends u (suc k) lines) ends in
    open_behind_later u i k (loop_of l.form) (ranges_from u (suc k) lines) (range_by u i (loop_of line.form)) (omega arith)
    (behind_from u (suc k) i n lines line (omega arith) parts.1 at)

pub known_behind : OpenIsKnownBehind
unfolding open_at ranges_of
known_behind u i line nested at = behind_from u 0 i i u.lines line (omega arith) nested.ended at

-- NESTED RANGES
contained_in : (u : ProgramUnit) → AreNested u → (r q : Range) → IsIn r (ranges_of u) → IsIn q (ranges_of u) → is_contained r q ≡ true
unfolding each_contained
contained_in u nested r q of_r of_q =
    all_in (is_contained r) (ranges_of u) q (all_in (λ x. list_all (is_contained x) (ranges_of u)) (ranges_of u) r nested.contained of_r) of_q

ends_within : (r q : Range) → is_contained r q ≡ true → q.first < r.first → r.first ≤ q.last → r.last ≤ q.last
unfolding is_contained
ends_within r q h low high =
    leb-true r.last q.last (subst (λ b. (not b || nat_le r.last q.last) ≡ true) (within_yes r.first q low high) h)

-- of a range that is open at a statement and another: the other is open there and began before it exactly where it is open at its DO
open_outside : (i : ℕ) (r q : Range) → r.first < i → i ≤ r.last → is_contained r q ≡ true → (is_within i q && begins_before r q) ≡ is_within r.first q
open_outside i r q behind not_behind contained = either (cases_Bool (nat_lt q.first r.first))
  where
    outer : q.first < r.first → (r.first ≤ q.last) ⊎ (q.last < r.first) → is_within i q ≡ is_within r.first q
    outer low (inl high) =
        within_yes i q (omega arith) (omega (arith, ends_within r q contained low high)) ∙ sym (within_yes r.first q low high)
    outer low (inr ended) = within_behind i q (omega arith) ∙ sym (within_behind r.first q ended)

    reaches : (nat_lt q.last r.first ≡ true) ⊎ (nat_lt q.last r.first ≡ false) → (r.first ≤ q.last) ⊎ (q.last < r.first)
    reaches (inl yes') = inr (ltb-true q.last r.first yes')
    reaches (inr no') = inl (ltb-false q.last r.first no')

    and_true : (a b : Bool) → b ≡ true → (a && b) ≡ a
    and_true true b h = h
    and_true false b h = refl

    either : (nat_lt q.first r.first ≡ true) ⊎ (nat_lt q.first r.first ≡ false) → (is_within i q && begins_before r q) ≡ is_within r.first q
    either (inl yes') = and_true (is_within i q) (begins_before r q) yes' ∙ outer (ltb-true q.first r.first yes') (reaches (cases_Bool (nat_lt q.last r.first)))
    either (inr no') = right_false (is_within i q) (begins_before r q) no' ∙ sym (within_before r.first q (ltb-false q.first r.first no'))

pub one_nest : OneNestInARange
unfolding open_at
one_nest u r i nested h =
    filter_twice (begins_before r) (is_within i) (ranges_of u)
    ∙ filter_alike (λ q. is_within i q && begins_before r q) (is_within r.first) (ranges_of u)
    (λ q among. open_outside i r q h.behind h.not_behind (contained_in u nested r q h.of_unit among))

-- THE INNERMOST FIRST. The ranges of a unit stand with the last DO first
data Falls : List Range → Type 0 where
  no_range : Falls []
  falls : (r : Range) (rs : List Range) → ((q : Range) → IsIn q rs → q.first < r.first) → Falls rs → Falls (r ∷ rs)

falls_both : (xs ys : List Range) → Falls xs → Falls ys → ((x y : Range) → IsIn x xs → IsIn y ys → y.first < x.first) → Falls (xs ++ ys)
falls_both [] ys h g apart = g
falls_both (x ∷ xs) ys (falls _ _ below rest) g apart =
    falls x (xs ++ ys) (λ q among. lower q (in_append xs ys q among)) (falls_both xs ys rest g (λ a b of_a of_b. apart a b (later_in of_a) of_b))
  where
    lower : (q : Range) → IsIn q xs ⊎ IsIn q ys → q.first < x.first
    lower q (inl front) = below q front
    lower q (inr back) = apart x q first_in back

range_to_falls : (i : ℕ) (o : Option ℕ) → Falls (range_to i o)
unfolding range_to
range_to_falls i None = no_range
range_to_falls i (Some last) = falls (record { first = i; last = last }) [] (λ q among. elim among [ ]) no_range

range_by_falls : (u : ProgramUnit) (i : ℕ) (o : Option (Option ℕ)) → Falls (range_by u i o)
unfolding range_by
range_by_falls u i None = no_range
range_by_falls u i (Some label) = range_to_falls i (terminal_of u i label)

ranges_fall : (u : ProgramUnit) (k : ℕ) (lines : List Line) → Falls (ranges_from u k lines)
unfolding ranges_from
ranges_fall u k [] = no_range
ranges_fall u k (line ∷ lines) =
    falls_both (ranges_from u (suc k) lines) (range_by u k (loop_of line.form)) (ranges_fall u (suc k) lines) (range_by_falls u k (loop_of line.form))
    (λ x y of_x of_y. omega (arith, ranges_begin u (suc k) lines x of_x, range_by_first u k (loop_of line.form) y of_y))

abbrev ends_here : ℕ → Range → Bool
ends_here i r = not (goes_past i r)

-- those that end are the first
abbrev Splits : ℕ → List Range → Type 0
Splits i ys = ys ≡ filter (ends_here i) ys ++ filter (goes_past i) ys

innermost_from : (i : ℕ) (xs : List Range) → Falls xs → ((r q : Range) → IsIn r xs → IsIn q xs → is_contained r q ≡ true) →
    Splits i (filter (is_within i) xs)
innermost_from i [] h contained = refl
innermost_from i (x ∷ xs) (falls _ _ below rest) contained =
    either (innermost_from i xs rest (λ r q of_r of_q. contained r q (later_in of_r) (later_in of_q))) (cases_Bool (is_within i x))
  where
    -- what is open behind one that goes past goes past too
    goes_on : is_within i x ≡ true → i < x.last → (q : Range) → IsIn q (filter (is_within i) xs) → goes_past i q ≡ true
    goes_on open_x past q among =
        let found = from_filter (is_within i) xs q among in
        let at_q = within_parts i q found.1 in
        let at_x = within_parts i x open_x in
        past_yes i q (omega (arith, ends_within x q (contained x q first_in (later_in found.0)) (below q found.0) (omega arith)))

    with_first : Splits i (filter (is_within i) xs) → is_within i x ≡ true → (i < x.last) ⊎ (x.last ≤ i) → Splits i (x ∷ filter (is_within i) xs)
    with_first later open_x (inl past) =
        let all_past : filter (goes_past i) (filter (is_within i) xs) ≡ filter (is_within i) xs =
        filter_all (goes_past i) (filter (is_within i) xs) (goes_on open_x past) in
        let none_ends : filter (ends_here i) (filter (is_within i) xs) ≡ [] =
        filter_none (ends_here i) (filter (is_within i) xs) (λ q among. ap not (goes_on open_x past q among)) in
        let head_past : filter (goes_past i) (x ∷ filter (is_within i) xs) ≡ x ∷ filter (is_within i) xs =
        kept (goes_past i) x (filter (is_within i) xs) (past_yes i x past) ∙ ap (λ ys. x ∷ ys) all_past in
        let head_ends : filter (ends_here i) (x ∷ filter (is_within i) xs) ≡ [] =
        left_out (ends_here i) x (filter (is_within i) xs) (ap not (past_yes i x past)) ∙ none_ends in
        sym (ap (λ ys. filter (ends_here i) (x ∷ filter (is_within i) xs) ++ ys) head_past ∙ ap (λ ys. ys ++ x ∷ filter (is_within i) xs) head_ends)
    with_first later open_x (inr ends) =
        let head_ends : filter (ends_here i) (x ∷ filter (is_within i) xs) ≡ x ∷ filter (ends_here i) (filter (is_within i) xs) =
        kept (ends_here i) x (filter (is_within i) xs) (ap not (past_no i x ends)) in
        let head_past : filter (goes_past i) (x ∷ filter (is_within i) xs) ≡ filter (goes_past i) (filter (is_within i) xs) =
        left_out (goes_past i) x (filter (is_within i) xs) (past_no i x ends) in
        ap (λ ys. x ∷ ys) later
        ∙ sym (ap (λ ys. filter (ends_here i) (x ∷ filter (is_within i) xs) ++ ys) head_past ∙ ap (λ ys. ys ++ filter (goes_past i) (filter (is_within i) xs)) head_ends)

    either : Splits i (filter (is_within i) xs) → (is_within i x ≡ true) ⊎ (is_within i x ≡ false) → Splits i (filter (is_within i) (x ∷ xs))
    either later (inl open_x) = subst (Splits i) (sym (kept (is_within i) x xs open_x)) (with_first later open_x (cases_past i x))
    either later (inr out) = subst (Splits i) (sym (left_out (is_within i) x xs out)) later

pub innermost_first : InnermostEndFirst
unfolding open_at ranges_of
innermost_first u i nested = innermost_from i (ranges_of u) (ranges_fall u 0 u.lines) (contained_in u nested)
