-- Lists of ranges that begin one behind the other, and those of them that are open.
use Rattle.std.proofs.Common.{◌≡◌, ℕ, suc, ◌+◌, ◌<◌, ◌≤◌, Bool, true, false, not, ◌&&◌, ◌||◌, List, [], ◌∷◌, ◌++◌, length, nat_eq, nat_lt, nat_le, Option, Some, None, if◌then◌else◌, refl, sym, ap, subst, ◌∙◌, arith}
use Rattle.std.proofs.lemmas.Bool.{ltb-false, lt-ltb, le-ltb, leb-true, leb-false}
use Rattle.std.proofs.lemmas.List.{append-nil, append_assoc}
use Rattle.std.proofs.lemmas.List.Folds.{list_any-append}
use Rattle.f_tree.specs.Attributes.{first_of_two}
use Rattle.found_rows.specs.declaration_rows.UnitRows.{Range, range_to, crosses, crosses_any, crosses_at}
use Rattle.loop_ranges.specs.OpenRanges.{ranges_at, first_ending, is_open_behind, without_ended, has_ended, first_of_innermost, is_before, begins_before, AreNestedBefore}
use Rattle.loop_ranges.proofs.Conditions.{or_none, or_along, and_none, by_bool, equal_by}

-- RANGES OF ENDS
pub ranges_both : (i : ℕ) (ends later : List (Option ℕ)) → ranges_at i (ends ++ later) ≡ ranges_at i ends ++ ranges_at (i + length ends) later
unfolding ranges_at
ranges_both i [] later = ap (λ n. ranges_at n later) (let e : i ≡ i + 0 = omega arith in e)
ranges_both i (end ∷ ends) later =
    ap (λ rs. range_to i end ++ rs) (ranges_both (suc i) ends later) ∙ sym (append_assoc (range_to i end) (ranges_at (suc i) ends) (ranges_at (suc i + length ends) later))
    ∙ ap (λ n. (range_to i end ++ ranges_at (suc i) ends) ++ ranges_at n later) (let e : suc i + length ends ≡ i + suc (length ends) = omega arith in e)

pub ranges_push : (ends : List (Option ℕ)) (end : Option ℕ) → ranges_at 0 (ends ++ end ∷ []) ≡ ranges_at 0 ends ++ range_to (length ends) end
unfolding ranges_at
ranges_push ends end =
    ranges_both 0 ends (end ∷ []) ∙ ap (λ n. ranges_at 0 ends ++ ranges_at n (end ∷ [])) (let e : 0 + length ends ≡ length ends = omega arith in e)
    ∙ ap (λ rs. ranges_at 0 ends ++ rs) (append-nil (range_to (length ends) end))

pub ranges_none : ranges_at 0 [] ≡ []
unfolding ranges_at
ranges_none = refl

-- THE FIRST THAT ENDS AT A PLACE
first_more : (b : Bool) (here : ℕ) (o other : Option ℕ) → (if b then Some here else first_of_two o other) ≡ first_of_two (if b then Some here else o) other
unfolding first_of_two
first_more true here o other = refl
first_more false here o other = refl

pub first_both : (k : ℕ) (rs qs : List Range) → first_ending k (rs ++ qs) ≡ first_of_two (first_ending k rs) (first_ending k qs)
unfolding first_ending first_of_two
first_both k [] qs = refl
first_both k (r ∷ rs) qs = ap (λ o. if nat_eq r.last k then Some r.first else o) (first_both k rs qs) ∙ first_more (nat_eq r.last k) r.first (first_ending k rs) (first_ending k qs)

-- OPEN RANGES
open_step : (f k : ℕ) (r : Range) (rs : List Range) → is_open_behind f k (r ∷ rs) ≡ ((nat_lt f r.first && nat_lt k r.last) || is_open_behind f k rs)
unfolding is_open_behind
open_step f k r rs = refl

pub open_none : (f k : ℕ) → is_open_behind f k [] ≡ false
unfolding is_open_behind
open_none f k = refl

pub open_both : (f k : ℕ) (rs qs : List Range) → is_open_behind f k (rs ++ qs) ≡ (is_open_behind f k rs || is_open_behind f k qs)
unfolding is_open_behind
open_both f k rs qs = list_any-append (λ (q : Range). nat_lt f q.first && nat_lt k q.last) rs qs

swapped : (a b : Bool) → (a || b) ≡ (b || a)
swapped true true = refl
swapped true false = refl
swapped false true = refl
swapped false false = refl

pub open_turned : (f k : ℕ) (rs qs : List Range) → is_open_behind f k (rs ++ qs) ≡ is_open_behind f k (qs ++ rs)
open_turned f k rs qs = open_both f k rs qs ∙ swapped (is_open_behind f k rs) (is_open_behind f k qs) ∙ sym (open_both f k qs rs)

-- a range that has ended is not open any more
ended_not_open : (f k j : ℕ) (r : Range) → k ≤ j → nat_le r.last k ≡ true → (nat_lt f r.first && nat_lt j r.last) ≡ false
ended_not_open f k j r h ended = ap (λ b. nat_lt f r.first && b) (le-ltb j r.last (let e : r.last ≤ k = leb-true r.last k ended in omega arith)) ∙ and_none (nat_lt f r.first)

pub forgotten_not_open : (f k j : ℕ) (rs : List Range) → k ≤ j → is_open_behind f j (without_ended k rs) ≡ is_open_behind f j rs
unfolding without_ended
forgotten_not_open f k j [] h = refl
forgotten_not_open f k j (r ∷ rs) h =
    by_bool (is_open_behind f j (without_ended k (r ∷ rs)) ≡ is_open_behind f j (r ∷ rs)) (nat_le r.last k)
    (λ yes'. ap (λ b. is_open_behind f j (if b then without_ended k rs else r ∷ rs)) yes' ∙ forgotten_not_open f k j rs h
    ∙ sym (open_step f j r rs ∙ ap (λ b. b || is_open_behind f j rs) (ended_not_open f k j r h yes')))
    (λ no'. ap (λ b. is_open_behind f j (if b then without_ended k rs else r ∷ rs)) no')

-- NESTED RANGES
pub nested_later : (b c : ℕ) (rs : List Range) → b ≤ c → AreNestedBefore b rs → AreNestedBefore c rs
unfolding AreNestedBefore
nested_later b c [] h nested = tt
nested_later b c (r ∷ rs) h nested = (let e = nested.0 in omega arith, nested.1)

pub nested_more : (b : ℕ) (end : Option ℕ) (rs : List Range) → AreNestedBefore b rs → AreNestedBefore (suc b) (range_to b end ++ rs)
unfolding AreNestedBefore range_to
nested_more b None rs nested = nested_later b (suc b) rs (omega arith) nested
nested_more b (Some last) rs nested = (omega arith, nested)

pub nested_none : (b : ℕ) → AreNestedBefore b []
unfolding AreNestedBefore
nested_none b = tt

pub nested_kept : (b k : ℕ) (rs : List Range) → AreNestedBefore b rs → AreNestedBefore b (without_ended k rs)
unfolding AreNestedBefore without_ended
nested_kept b k [] nested = tt
nested_kept b k (r ∷ rs) nested =
    by_bool (AreNestedBefore b (without_ended k (r ∷ rs))) (nat_le r.last k)
    (λ yes'. subst (λ c. AreNestedBefore b (if c then without_ended k rs else r ∷ rs)) (sym yes')
    (nested_kept b k rs (nested_later r.first b rs (let e = nested.0 in omega arith) nested.1)))
    (λ no'. subst (λ c. AreNestedBefore b (if c then without_ended k rs else r ∷ rs)) (sym no') nested)

-- what begins before a place is not behind it
before_not_open : (f k b : ℕ) (rs : List Range) → b ≤ suc f → AreNestedBefore b rs → is_open_behind f k rs ≡ false
unfolding AreNestedBefore
before_not_open f k b [] h nested = open_none f k
before_not_open f k b (r ∷ rs) h nested =
    let low : r.first < b = nested.0 in
    open_step f k r rs ∙ ap (λ c. (c && nat_lt k r.last) || is_open_behind f k rs) (le-ltb f r.first (omega arith)) ∙ before_not_open f k r.first rs (omega arith) nested.1

pub forgotten_ends : (k : ℕ) (rs : List Range) → has_ended k (without_ended k rs) ≡ false
unfolding has_ended without_ended
forgotten_ends k [] = refl
forgotten_ends k (r ∷ rs) =
    by_bool (has_ended k (without_ended k (r ∷ rs)) ≡ false) (nat_le r.last k)
    (λ yes'. ap (λ b. has_ended k (if b then without_ended k rs else r ∷ rs)) yes' ∙ forgotten_ends k rs)
    (λ no'. ap (λ b. has_ended k (if b then without_ended k rs else r ∷ rs)) no' ∙ no')

-- whether one is open is told by the innermost
pub open_by_innermost : (f k b : ℕ) (rs : List Range) → AreNestedBefore b rs → has_ended k rs ≡ false → is_open_behind f k rs ≡ is_before f (first_of_innermost rs)
unfolding AreNestedBefore has_ended is_before first_of_innermost
open_by_innermost f k b [] nested ends = open_none f k
open_by_innermost f k b (r ∷ rs) nested ends =
    let later : k < r.last = leb-false r.last k ends in
    open_step f k r rs ∙ ap (λ c. (nat_lt f r.first && c) || is_open_behind f k rs) (lt-ltb k r.last later)
    ∙ by_bool (((nat_lt f r.first && true) || is_open_behind f k rs) ≡ nat_lt f r.first) (nat_lt f r.first)
    (λ yes'. ap (λ c. (c && true) || is_open_behind f k rs) yes' ∙ sym yes')
    (λ no'. ap (λ c. (c && true) || is_open_behind f k rs) no' ∙ before_not_open f k r.first rs (let e : r.first ≤ f = ltb-false f r.first no' in omega arith) nested.1 ∙ sym no')

-- CROSSING. A range that ends at a place crosses none that begins behind the place
crosses_not_later : (r q : Range) → r.last < q.first → crosses r q ≡ false
unfolding crosses
crosses_not_later r q h = ap (λ b. nat_lt r.first q.first && (not b && nat_lt r.last q.last)) (lt-ltb r.last q.first h) ∙ and_none (nat_lt r.first q.first)

crosses_earlier : (r q : Range) → q.first ≤ r.last → crosses r q ≡ (nat_lt r.first q.first && nat_lt r.last q.last)
unfolding crosses
crosses_earlier r q h = ap (λ b. nat_lt r.first q.first && (not b && nat_lt r.last q.last)) (le-ltb r.last q.first h)

crosses_both : (r : Range) (rs qs : List Range) → crosses_any r (rs ++ qs) ≡ (crosses_any r rs || crosses_any r qs)
unfolding crosses_any
crosses_both r [] qs = refl
crosses_both r (q ∷ rs) qs = ap (λ b. crosses r q || b) (crosses_both r rs qs) ∙ sym (or_along (crosses r q) (crosses_any r rs) (crosses_any r qs))

crosses_step : (r : Range) (i : ℕ) (end : Option ℕ) (ends : List (Option ℕ)) → crosses_any r (ranges_at i (end ∷ ends)) ≡ (crosses_any r (range_to i end) || crosses_any r (ranges_at (suc i) ends))
unfolding ranges_at
crosses_step r i end ends = crosses_both r (range_to i end) (ranges_at (suc i) ends)

none_later : (r : Range) (i : ℕ) (end : Option ℕ) → r.last < i → crosses_any r (range_to i end) ≡ false
unfolding crosses_any range_to
none_later r i None h = refl
none_later r i (Some last) h = or_none (crosses r (record { first = i; last = last })) ∙ crosses_not_later r (record { first = i; last = last }) h

crosses_none_later : (r : Range) (i : ℕ) (ends : List (Option ℕ)) → r.last < i → crosses_any r (ranges_at i ends) ≡ false
unfolding crosses_any ranges_at
crosses_none_later r i [] h = refl
crosses_none_later r i (end ∷ ends) h =
    crosses_step r i end ends ∙ ap (λ b. b || crosses_any r (ranges_at (suc i) ends)) (none_later r i end h) ∙ crosses_none_later r (suc i) ends (omega arith)

one_earlier : (r : Range) (i : ℕ) (end : Option ℕ) → i ≤ r.last → crosses_any r (range_to i end) ≡ is_open_behind r.first r.last (range_to i end)
unfolding crosses_any range_to is_open_behind
one_earlier r i None h = refl
one_earlier r i (Some last) h = ap (λ b. b || false) (crosses_earlier r (record { first = i; last = last }) h)

crosses_open : (r : Range) (i : ℕ) (ends : List (Option ℕ)) → i + length ends ≤ suc r.last → crosses_any r (ranges_at i ends) ≡ is_open_behind r.first r.last (ranges_at i ends)
unfolding crosses_any ranges_at
crosses_open r i [] h = sym (open_none r.first r.last)
crosses_open r i (end ∷ ends) h =
    crosses_step r i end ends ∙ ap (λ b. b || crosses_any r (ranges_at (suc i) ends)) (one_earlier r i end (omega arith))
    ∙ ap (λ b. is_open_behind r.first r.last (range_to i end) || b) (crosses_open r (suc i) ends (omega arith))
    ∙ sym (open_both r.first r.last (range_to i end) (ranges_at (suc i) ends))

-- of all ranges of a unit, those that begin up to its last place
crosses_by : (r : Range) (ends later : List (Option ℕ)) → length ends ≡ suc r.last → crosses_any r (ranges_at 0 (ends ++ later)) ≡ is_open_behind r.first r.last (ranges_at 0 ends)
crosses_by r ends later same =
    ap (crosses_any r) (ranges_both 0 ends later) ∙ crosses_both r (ranges_at 0 ends) (ranges_at (0 + length ends) later)
    ∙ ap (λ b. b || crosses_any r (ranges_at (0 + length ends) later)) (crosses_open r 0 ends (omega arith))
    ∙ ap (λ b. is_open_behind r.first r.last (ranges_at 0 ends) || b) (crosses_none_later r (0 + length ends) later (omega arith))
    ∙ or_none (is_open_behind r.first r.last (ranges_at 0 ends))

-- RANGES THAT END AT A PLACE, by a place that they begin before
abbrev any_at : ℕ → Option ℕ → List Range → Bool
any_at k inner [] = false
any_at k inner (r ∷ rs) = (nat_eq r.last k && is_before r.first inner) || any_at k inner rs

any_both : (k : ℕ) (inner : Option ℕ) (rs qs : List Range) → any_at k inner (rs ++ qs) ≡ (any_at k inner rs || any_at k inner qs)
any_both k inner [] qs = refl
any_both k inner (r ∷ rs) qs =
    ap (λ b. (nat_eq r.last k && is_before r.first inner) || b) (any_both k inner rs qs)
    ∙ sym (or_along (nat_eq r.last k && is_before r.first inner) (any_at k inner rs) (any_at k inner qs))

later_not_before : (i j : ℕ) (inner : Option ℕ) → j ≤ i → is_before j inner ≡ false → is_before i inner ≡ false
unfolding is_before
later_not_before i j None h not_before = refl
later_not_before i j (Some g) h not_before = le-ltb i g (let e : g ≤ j = ltb-false j g not_before in omega arith)

any_later : (k i j : ℕ) (inner : Option ℕ) (ends : List (Option ℕ)) → j ≤ i → is_before j inner ≡ false → any_at k inner (ranges_at i ends) ≡ false
unfolding ranges_at range_to
any_later k i j inner [] h not_before = refl
any_later k i j inner (None ∷ ends) h not_before = any_later k (suc i) j inner ends (omega arith) not_before
any_later k i j inner (Some last ∷ ends) h not_before =
    ap (λ b. (nat_eq last k && b) || any_at k inner (ranges_at (suc i) ends)) (later_not_before i j inner h not_before)
    ∙ ap (λ b. b || any_at k inner (ranges_at (suc i) ends)) (and_none (nat_eq last k)) ∙ any_later k (suc i) j inner ends (omega arith) not_before

-- the first of them tells it
first_tells : (here before : Bool) (f : ℕ) (inner first : Option ℕ) (rest : Bool) → rest ≡ begins_before first inner → before ≡ is_before f inner → (before ≡ false → rest ≡ false)
    → ((here && before) || rest) ≡ begins_before (if here then Some f else first) inner
unfolding begins_before
first_tells true true f inner first rest known is none = is
first_tells true false f inner first rest known is none = none refl ∙ is
first_tells false before f inner first rest known is none = known

any_by_first : (k i : ℕ) (inner : Option ℕ) (ends : List (Option ℕ)) → any_at k inner (ranges_at i ends) ≡ begins_before (first_ending k (ranges_at i ends)) inner
unfolding ranges_at range_to first_ending begins_before
any_by_first k i inner [] = refl
any_by_first k i inner (None ∷ ends) = any_by_first k (suc i) inner ends
any_by_first k i inner (Some last ∷ ends) =
    first_tells (nat_eq last k) (is_before i inner) i inner (first_ending k (ranges_at (suc i) ends)) (any_at k inner (ranges_at (suc i) ends))
    (any_by_first k (suc i) inner ends) refl (λ not_before. any_later k (suc i) i inner ends (omega arith) not_before)

-- at a place, by what tells whether a range that begins at one and ends at the place crosses another
at_one : (k : ℕ) (r : Range) (inner : Option ℕ) (crossed : Bool) → (r.last ≡ k → crossed ≡ is_before r.first inner) → (nat_eq r.last k && crossed) ≡ (nat_eq r.last k && is_before r.first inner)
at_one k r inner crossed known =
    by_bool ((nat_eq r.last k && crossed) ≡ (nat_eq r.last k && is_before r.first inner)) (nat_eq r.last k)
    (λ yes'. ap (λ b. nat_eq r.last k && b) (known (equal_by r.last k yes')))
    (λ no'. ap (λ b. b && crossed) no' ∙ sym (ap (λ b. b && is_before r.first inner) no'))

at_by : (k : ℕ) (inner : Option ℕ) (all rs : List Range) → ((r : Range) → r.last ≡ k → crosses_any r all ≡ is_before r.first inner) → crosses_at k all rs ≡ any_at k inner rs
unfolding crosses_at
at_by k inner all [] known = refl
at_by k inner all (r ∷ rs) known =
    ap (λ b. b || crosses_at k all rs) (at_one k r inner (crosses_any r all) (known r)) ∙ ap (λ b. (nat_eq r.last k && is_before r.first inner) || b) (at_by k inner all rs known)

-- what begins behind a place is not before the innermost range that begins up to it
inner_before : (b : ℕ) (rs : List Range) → AreNestedBefore b rs → is_before b (first_of_innermost rs) ≡ false
unfolding AreNestedBefore is_before first_of_innermost
inner_before b [] nested = refl
inner_before b (r ∷ rs) nested = le-ltb b r.first (let e = nested.0 in omega arith)

by_inner : (k : ℕ) (ends later : List (Option ℕ)) (stack : List Range) (r : Range) → length ends ≡ suc k → AreNestedBefore (length ends) stack → has_ended k stack ≡ false
    → ((f : ℕ) → is_open_behind f k stack ≡ is_open_behind f k (ranges_at 0 ends)) → r.last ≡ k → crosses_any r (ranges_at 0 (ends ++ later)) ≡ is_before r.first (first_of_innermost stack)
by_inner k ends later stack r same nested ends_not known is =
    crosses_by r ends later (same ∙ ap suc (sym is)) ∙ ap (λ n. is_open_behind r.first n (ranges_at 0 ends)) is ∙ sym (known r.first)
    ∙ open_by_innermost r.first k (length ends) stack nested ends_not

pub crosses_told : (k : ℕ) (ends later : List (Option ℕ)) (stack : List Range) → length ends ≡ suc k → AreNestedBefore (length ends) stack → has_ended k stack ≡ false
    → ((f : ℕ) → is_open_behind f k stack ≡ is_open_behind f k (ranges_at 0 ends))
    → begins_before (first_ending k (ranges_at 0 ends)) (first_of_innermost stack) ≡ crosses_at k (ranges_at 0 (ends ++ later)) (ranges_at 0 (ends ++ later))
crosses_told k ends later stack same nested ends_not known =
    sym (at_by k (first_of_innermost stack) (ranges_at 0 (ends ++ later)) (ranges_at 0 (ends ++ later)) (λ r is. by_inner k ends later stack r same nested ends_not known is)
    ∙ ap (any_at k (first_of_innermost stack)) (ranges_both 0 ends later) ∙ any_both k (first_of_innermost stack) (ranges_at 0 ends) (ranges_at (0 + length ends) later)
    ∙ ap (λ b. any_at k (first_of_innermost stack) (ranges_at 0 ends) || b)
    (any_later k (0 + length ends) (length ends) (first_of_innermost stack) later (omega arith) (inner_before (length ends) stack nested))
    ∙ or_none (any_at k (first_of_innermost stack) (ranges_at 0 ends)) ∙ any_by_first k 0 (first_of_innermost stack) ends)
