-- The DO ranges that statements stand in, from the one that begins last outwards.
use Rattle.std.proofs.Common.{◌≡◌, ℕ, zero, suc, ◌+◌, ◌<◌, ◌≤◌, Bool, true, false, not, ◌&&◌, ◌||◌, List, [], ◌∷◌, ◌++◌, take, drop, get_or, length, nat_eq, nat_lt, nat_le, Option, Some, None, is_some, if◌then◌else◌, refl, sym, ap, subst, ◌∙◌, arith}
use Rattle.std.specs.List.{list_any}
use Rattle.std.proofs.lemmas.Bool.{lt-ltb, le-ltb, leb-false}
use Rattle.std.proofs.lemmas.Bool.Decides.{nat_tests}
use Rattle.std.proofs.lemmas.List.{take_more, take-append-drop, length-take-le, get_or_default, get_or_append_left}
use Rattle.std.proofs.lemmas.List.Folds.{list_any-append}
use Rattle.std.proofs.Math.Seq.{get_or-append_seam}
use Rattle.declaration_rows.specs.UnitRows.{Range, range_to}
use Rattle.declaration_rows.specs.BlockRows.{is_in_range, enters_range_of}
use Rattle.loop_ranges.specs.OpenRanges.{ranges_at}
use Rattle.loop_ranges.proofs.RangeLemmas.{ranges_both, ranges_push}
use Rattle.block_judge.specs.Arms.{places_to}
use Rattle.block_judge.specs.Ranges.{lasts_to, innermost, AreAround, Comes}
use Rattle.loop_ranges.proofs.Conditions.{or_none, or_some, and_none, by_bool, equal_by, length_more}
use Rattle.block_judge.proofs.ArmLemmas.{turned}

-- THE INNERMOST RANGE
step_some : (ends : List (Option ℕ)) (i k : ℕ) → lasts_to i (get_or ends k None) ≡ true → innermost ends i (suc k) ≡ Some k
unfolding innermost
step_some ends i k is = ap (λ b. if b then Some k else innermost ends i k) is

step_none : (ends : List (Option ℕ)) (i k : ℕ) → lasts_to i (get_or ends k None) ≡ false → innermost ends i (suc k) ≡ innermost ends i k
unfolding innermost
step_none ends i k is = ap (λ b. if b then Some k else innermost ends i k) is

none_before : (ends : List (Option ℕ)) (i : ℕ) → innermost ends i 0 ≡ None
unfolding innermost
none_before ends i = refl

lasts_less : (end : Option ℕ) (j i : ℕ) → j ≤ i → lasts_to j end ≡ false → lasts_to i end ≡ false
unfolding lasts_to
lasts_less None j i h ends = refl
lasts_less (Some last) j i h ends = let e : last < j = leb-false j last ends in grind (arith, nat_tests)

pub to_some : (k : ℕ) → places_to (Some k) ≡ suc k
unfolding places_to
to_some k = refl

pub to_none : places_to None ≡ 0
unfolding places_to
to_none = refl

pub innermost_within : (ends : List (Option ℕ)) (i k : ℕ) → places_to (innermost ends i k) ≤ k
innermost_within ends i zero = let e = ap places_to (none_before ends i) ∙ to_none in omega (arith, e)
innermost_within ends i (suc k) =
    by_bool (places_to (innermost ends i (suc k)) ≤ suc k) (lasts_to i (get_or ends k None))
    (λ yes'. let e = ap places_to (step_some ends i k yes') ∙ to_some k in omega (arith, e))
    (λ no'. let e = ap places_to (step_none ends i k no') in let f = innermost_within ends i k in omega (arith, e, f))

-- what ends before one place ends before a later one
jump : (ends : List (Option ℕ)) (j i k : ℕ) → j ≤ i → innermost ends i k ≡ innermost ends i (places_to (innermost ends j k))
jump ends j i zero h = sym (ap (innermost ends i) (ap places_to (none_before ends j) ∙ to_none))
jump ends j i (suc k) h =
    by_bool (innermost ends i (suc k) ≡ innermost ends i (places_to (innermost ends j (suc k)))) (lasts_to j (get_or ends k None))
    (λ yes'. sym (ap (innermost ends i) (ap places_to (step_some ends j k yes') ∙ to_some k)))
    (λ no'. step_none ends i k (lasts_less (get_or ends k None) j i h no') ∙ jump ends j i k h ∙ sym (ap (λ o. innermost ends i (places_to o)) (step_none ends j k no')))

pub places_of : (o : Option ℕ) (first : ℕ) → o ≡ Some first → places_to o ≡ suc first
places_of o first is = ap places_to is ∙ to_some first

-- looking for the innermost range behind a place
pub found_lasting : (ends : List (Option ℕ)) (i first : ℕ) (range end d : Option ℕ) (whole : Option ℕ) → first < length ends → range ≡ Some first → end ≡ get_or ends first d
    → lasts_to i end ≡ true → innermost ends i (places_to range) ≡ whole → range ≡ whole
found_lasting ends i first range end d whole h is read lasts so_far =
    is ∙ sym (step_some ends i first (ap (lasts_to i) (get_or_default ends first None d h ∙ sym read) ∙ lasts)) ∙ ap (innermost ends i) (sym (places_of range first is)) ∙ so_far

pub look_further : (ends around : List (Option ℕ)) (i first : ℕ) (range next end d e : Option ℕ) (whole : Option ℕ) → first ≤ i → first < length ends → first < length around
    → AreAround ends around → range ≡ Some first → end ≡ get_or ends first d → lasts_to i end ≡ false → next ≡ get_or around first e
    → innermost ends i (places_to range) ≡ whole → innermost ends i (places_to next) ≡ whole
look_further ends around i first range next end d e whole low h k known is read ended is_next so_far =
    ap (λ o. innermost ends i (places_to o)) (is_next ∙ get_or_default around first e None k ∙ known.is first k) ∙ sym (jump ends first i first low)
    ∙ sym (step_none ends i first (ap (lasts_to i) (get_or_default ends first None d h ∙ sym read) ∙ ended)) ∙ ap (innermost ends i) (sym (places_of range first is)) ∙ so_far

pub next_within : (ends around : List (Option ℕ)) (first : ℕ) (next e : Option ℕ) → first < length around → AreAround ends around → next ≡ get_or around first e → places_to next ≤ first
next_within ends around first next e k known is =
    let same : places_to next ≡ places_to (innermost ends first first) = ap places_to (is ∙ get_or_default around first e None k ∙ known.is first k) in
    let f = innermost_within ends first first in
    omega (arith, same, f)

pub none_further : (ends : List (Option ℕ)) (i : ℕ) (range whole : Option ℕ) → range ≡ None → innermost ends i (places_to range) ≡ whole → None ≡ whole
none_further ends i range whole is so_far = sym (none_before ends i) ∙ ap (innermost ends i) (sym to_none ∙ ap places_to (sym is)) ∙ so_far

-- one place more
pub around_none : (ends around : List (Option ℕ)) → around ≡ [] → AreAround ends around
around_none ends around none = record { is = λ i h. absurd (let e = ap length none in omega (arith, e, h)) }

pub around_more : (ends around after : List (Option ℕ)) (range : Option ℕ) (place : ℕ) → length around ≡ place → after ≡ around ++ range ∷ [] → AreAround ends around
    → range ≡ innermost ends place place → AreAround ends after
around_more ends around after range place same put known here = record {
  is = λ i h.
      let within : i < suc (length around) = let e = ap length put in let f = length_more around range in omega (arith, e, f, h) in
      ap (λ xs. get_or xs i None) put
      ∙ by_bool (get_or (around ++ range ∷ []) i None ≡ innermost ends i i) (nat_eq i (length around))
      (λ yes'. ap (λ n. get_or (around ++ range ∷ []) n None) (equal_by i (length around) yes') ∙ get_or-append_seam around range [] None ∙ here
      ∙ ap (λ n. innermost ends n n) (sym same ∙ sym (equal_by i (length around) yes')))
      (λ no'. let less : i < length around = grind (arith, nat_tests) in get_or_append_left around (range ∷ []) None i less ∙ known.is i less);
}

pub begin_around : (ends : List (Option ℕ)) → None ≡ innermost ends 0 0
begin_around ends = sym (none_before ends 0)

-- RANGES THAT A TEST FINDS which only those pass that a statement stands in
module _ (test : Range → Bool) (to : ℕ) (narrow : (r : Range) → is_in_range to r ≡ false → test r ≡ false) where
  not_begun : (k : ℕ) (end : Option ℕ) → to ≤ k → list_any test (range_to k end) ≡ false
  unfolding range_to is_in_range
  not_begun k None h = refl
  not_begun k (Some last) h =
      ap (λ b. b || false) (narrow (record { first = k; last = last }) (ap (λ b. b && nat_le to last) (le-ltb k to h)))

  ended : (j k : ℕ) (end : Option ℕ) → j ≤ to → lasts_to j end ≡ false → list_any test (range_to k end) ≡ false
  unfolding range_to is_in_range lasts_to
  ended j k None h lasts = refl
  ended j k (Some last) h lasts =
      let e : last < j = leb-false j last lasts in
      let over : nat_le to last ≡ false = grind (arith, nat_tests) in
      ap (λ b. b || false) (narrow (record { first = k; last = last }) (ap (λ b. nat_lt k to && b) over ∙ and_none (nat_lt k to)))

  none_later : (i : ℕ) (ends : List (Option ℕ)) → to ≤ i → list_any test (ranges_at i ends) ≡ false
  unfolding ranges_at
  none_later i [] h = refl
  none_later i (end ∷ ends) h =
      list_any-append test (range_to i end) (ranges_at (suc i) ends) ∙ ap (λ b. b || list_any test (ranges_at (suc i) ends)) (not_begun i end h) ∙ none_later (suc i) ends (omega arith)

  -- those that begin before the statement
  pub before_it : (ends : List (Option ℕ)) → to ≤ length ends → list_any test (ranges_at 0 ends) ≡ list_any test (ranges_at 0 (take to ends))
  before_it ends h =
      ap (λ es. list_any test (ranges_at 0 es)) (sym (take-append-drop to ends)) ∙ ap (list_any test) (ranges_both 0 (take to ends) (drop to ends))
      ∙ list_any-append test (ranges_at 0 (take to ends)) (ranges_at (0 + length (take to ends)) (drop to ends))
      ∙ ap (λ b. list_any test (ranges_at 0 (take to ends)) || b) (none_later (0 + length (take to ends)) (drop to ends) (let e = length-take-le to ends h in omega (arith, e)))
      ∙ or_none (list_any test (ranges_at 0 (take to ends)))

  one_more : (ends : List (Option ℕ)) (k : ℕ) → k < length ends
      → list_any test (ranges_at 0 (take (suc k) ends)) ≡ (list_any test (ranges_at 0 (take k ends)) || list_any test (range_to k (get_or ends k None)))
  one_more ends k h =
      ap (λ n. list_any test (ranges_at 0 (take n ends))) (let e : suc k ≡ k + 1 = omega arith in e) ∙ ap (λ es. list_any test (ranges_at 0 es)) (take_more ends k None h)
      ∙ ap (list_any test) (ranges_push (take k ends) (get_or ends k None))
      ∙ list_any-append test (ranges_at 0 (take k ends)) (range_to (length (take k ends)) (get_or ends k None))
      ∙ ap (λ n. list_any test (ranges_at 0 (take k ends)) || list_any test (range_to n (get_or ends k None))) (length-take-le k ends (omega arith))

  -- by the innermost range, and what begins before that one
  unfoldable by_range : List (Option ℕ) → Option ℕ → Bool
  by_range ends None = false
  by_range ends (Some first) = list_any test (ranges_at 0 (take first ends)) || list_any test (range_to first (get_or ends first None))

  no_range_yet : (ends : List (Option ℕ)) → list_any test (ranges_at 0 (take 0 ends)) ≡ false
  unfolding ranges_at
  no_range_yet ends = refl

  chained : (ends : List (Option ℕ)) (j k : ℕ) → j ≤ to → k ≤ length ends → list_any test (ranges_at 0 (take k ends)) ≡ by_range ends (innermost ends j k)
  unfolding by_range
  chained ends j zero h within = no_range_yet ends ∙ sym (ap (by_range ends) (none_before ends j))
  chained ends j (suc k) h within =
      by_bool (list_any test (ranges_at 0 (take (suc k) ends)) ≡ by_range ends (innermost ends j (suc k))) (lasts_to j (get_or ends k None))
      (λ yes'. one_more ends k (omega arith) ∙ sym (ap (by_range ends) (step_some ends j k yes')))
      (λ no'. one_more ends k (omega arith) ∙ ap (λ b. list_any test (ranges_at 0 (take k ends)) || b) (ended j k (get_or ends k None) h no')
      ∙ or_none (list_any test (ranges_at 0 (take k ends))) ∙ chained ends j k h (omega arith) ∙ sym (ap (by_range ends) (step_none ends j k no')))

  pub chain_some : (ends : List (Option ℕ)) (j first : ℕ) → j ≤ to → j ≤ length ends → innermost ends j j ≡ Some first
      → list_any test (ranges_at 0 (take j ends)) ≡ (list_any test (ranges_at 0 (take first ends)) || list_any test (range_to first (get_or ends first None)))
  unfolding by_range
  chain_some ends j first h within is = chained ends j j h within ∙ ap (by_range ends) is

  pub chain_none : (ends : List (Option ℕ)) (j : ℕ) → j ≤ to → j ≤ length ends → innermost ends j j ≡ None → list_any test (ranges_at 0 (take j ends)) ≡ false
  unfolding by_range
  chain_none ends j h within is = chained ends j j h within ∙ ap (by_range ends) is

-- A BRANCH INTO A RANGE
abbrev pub entering : ℕ → ℕ → Range → Bool
entering from to r = is_in_range to r && not (is_in_range from r)

entering_narrow : (from to : ℕ) (r : Range) → is_in_range to r ≡ false → entering from to r ≡ false
entering_narrow from to r is = ap (λ b. b && not (is_in_range from r)) is

pub enters_is : (ranges : List Range) (from to : ℕ) → enters_range_of ranges from to ≡ list_any (entering from to) ranges
unfolding enters_range_of
enters_is ranges from to = refl

first_is : (ends around : List (Option ℕ)) (i : ℕ) (o d : Option ℕ) → i < length around → AreAround ends around → o ≡ get_or around i d → o ≡ innermost ends i i
first_is ends around i o d h known is = is ∙ get_or_default around i d None h ∙ known.is i h

pub comes_first : (ends around : List (Option ℕ)) (from to : ℕ) (o d : Option ℕ) → to < length around → length around ≡ length ends → AreAround ends around → o ≡ get_or around to d
    → Comes ends from to o
comes_first ends around from to o d h same known is = record {
  upto = to;
  within = omega arith;
  is = first_is ends around to o d h known is;
  rest = enters_is (ranges_at 0 ends) from to ∙ before_it (entering from to) to (entering_narrow from to) ends (omega arith) ∙ sym (enters_is (ranges_at 0 (take to ends)) from to);
}

some_is : (ends : List (Option ℕ)) (from to first : ℕ) (o : Option ℕ) (comes : Comes ends from to o) → to ≤ length ends → o ≡ Some first
    → enters_range_of (ranges_at 0 ends) from to ≡ (enters_range_of (ranges_at 0 (take first ends)) from to || enters_range_of (range_to first (get_or ends first None)) from to)
unfolding enters_range_of
some_is ends from to first o comes h is =
    comes.rest ∙ chain_some (entering from to) to (entering_narrow from to) ends comes.upto first comes.within (let e = comes.within in omega (arith, e, h)) (sym comes.is ∙ is)

pub first_below : (ends : List (Option ℕ)) (from to first : ℕ) (o : Option ℕ) → Comes ends from to o → o ≡ Some first → first < to
first_below ends from to first o comes is =
    let low = innermost_within ends comes.upto comes.upto in
    let same : places_to (innermost ends comes.upto comes.upto) ≡ suc first = ap places_to (sym comes.is) ∙ places_of o first is in
    let within = comes.within in
    omega (arith, low, same, within)

pub comes_in : (ends : List (Option ℕ)) (from to first : ℕ) (o end d : Option ℕ) (goes : Bool) → Comes ends from to o → to ≤ length ends → o ≡ Some first → end ≡ get_or ends first d
    → goes ≡ enters_range_of (range_to first end) from to → goes ≡ true → true ≡ enters_range_of (ranges_at 0 ends) from to
comes_in ends from to first o end d goes comes h is read goes_is yes' =
    let low : first < to = first_below ends from to first o comes is in
    let same : end ≡ get_or ends first None = read ∙ get_or_default ends first d None (omega (arith, low, h)) in
    sym
    (some_is ends from to first o comes h is
    ∙ ap (λ b. enters_range_of (ranges_at 0 (take first ends)) from to || b) (ap (λ e. enters_range_of (range_to first e) from to) (sym same) ∙ sym goes_is ∙ yes')
    ∙ or_some (enters_range_of (ranges_at 0 (take first ends)) from to))

pub comes_on : (ends around : List (Option ℕ)) (from to first : ℕ) (o next end d e : Option ℕ) (goes : Bool) → Comes ends from to o → to ≤ length ends → length around ≡ length ends
    → AreAround ends around → o ≡ Some first → end ≡ get_or ends first d → next ≡ get_or around first e → goes ≡ enters_range_of (range_to first end) from to → goes ≡ false
    → Comes ends from to next
comes_on ends around from to first o next end d e goes comes h same known is read next_is goes_is no' =
    let low : first < to = first_below ends from to first o comes is in
    let read_is : end ≡ get_or ends first None = read ∙ get_or_default ends first d None (omega (arith, low, h)) in
    record {
      upto = first;
      within = omega (arith, low);
      is = first_is ends around first next e (omega (arith, low, h, same)) known next_is;
      rest = some_is ends from to first o comes h is
          ∙ ap (λ b. enters_range_of (ranges_at 0 (take first ends)) from to || b) (ap (λ x. enters_range_of (range_to first x) from to) (sym read_is) ∙ sym goes_is ∙ no')
          ∙ or_none (enters_range_of (ranges_at 0 (take first ends)) from to);
    }

pub comes_out : (ends : List (Option ℕ)) (from to : ℕ) (o : Option ℕ) → Comes ends from to o → to ≤ length ends → o ≡ None → false ≡ enters_range_of (ranges_at 0 ends) from to
comes_out ends from to o comes h is =
    sym
    (comes.rest ∙ enters_is (ranges_at 0 (take comes.upto ends)) from to
    ∙ chain_none (entering from to) to (entering_narrow from to) ends comes.upto comes.within (let e = comes.within in omega (arith, e, h)) (sym comes.is ∙ is))

-- one range
pub goes_by : (stands from_stands : Bool) (first : ℕ) (end : Option ℕ) (from to : ℕ) → stands ≡ list_any (is_in_range to) (range_to first end) → from_stands ≡ list_any (is_in_range from) (range_to first end)
    → (stands && not from_stands) ≡ enters_range_of (range_to first end) from to
unfolding range_to enters_range_of
goes_by stands from_stands first None from to is from_is = ap (λ b. b && not from_stands) is
goes_by stands from_stands first (Some last) from to is from_is =
    ap (λ b. b && not from_stands) (is ∙ or_none (is_in_range to (record { first = first; last = last })))
    ∙ ap (λ b. is_in_range to (record { first = first; last = last }) && not b) (from_is ∙ or_none (is_in_range from (record { first = first; last = last })))
    ∙ sym (or_none (is_in_range to (record { first = first; last = last }) && not (is_in_range from (record { first = first; last = last }))))

-- OUTSIDE ALL RANGES
innermost_lasts : (ends : List (Option ℕ)) (i k first : ℕ) → innermost ends i k ≡ Some first → lasts_to i (get_or ends first None) ≡ true
innermost_lasts ends i zero first is = absurd (let e = sym (none_before ends i) ∙ is in cc)
innermost_lasts ends i (suc k) first is =
    by_bool (lasts_to i (get_or ends first None) ≡ true) (lasts_to i (get_or ends k None))
    (λ yes'. let e : Some k ≡ Some first = sym (step_some ends i k yes') ∙ is in let f : k ≡ first = cc in subst (λ n. lasts_to i (get_or ends n None) ≡ true) f yes')
    (λ no'. innermost_lasts ends i k first (sym (step_none ends i k no') ∙ is))

in_it : (i first : ℕ) (end : Option ℕ) → first < i → lasts_to i end ≡ true → list_any (is_in_range i) (range_to first end) ≡ true
unfolding range_to is_in_range lasts_to
in_it i first None h lasts = lasts
in_it i first (Some last) h lasts = ap (λ b. (b && nat_le i last) || false) (lt-ltb first i h) ∙ ap (λ b. b || false) lasts

outside_as : (ends : List (Option ℕ)) (i : ℕ) → i ≤ length ends → (o : Option ℕ) → innermost ends i i ≡ o → not (is_some o) ≡ not (list_any (is_in_range i) (ranges_at 0 ends))
outside_as ends i h None is =
    sym (ap not (before_it (is_in_range i) i (λ r out. out) ends h ∙ chain_none (is_in_range i) i (λ r out. out) ends i (omega arith) h is))
outside_as ends i h (Some first) is =
    let low : suc first ≤ i = let e = innermost_within ends i i in let f = places_of (innermost ends i i) first is in omega (arith, e, f) in
    sym
    (ap not
    (before_it (is_in_range i) i (λ r out. out) ends h ∙ chain_some (is_in_range i) i (λ r out. out) ends i first (omega arith) h is
    ∙ ap (λ b. list_any (is_in_range i) (ranges_at 0 (take first ends)) || b) (in_it i first (get_or ends first None) (omega (arith, low)) (innermost_lasts ends i i first is))
    ∙ or_some (list_any (is_in_range i) (ranges_at 0 (take first ends)))))

pub outside_ranges : (ends around : List (Option ℕ)) (i : ℕ) (o d : Option ℕ) (result : Bool) → i < length around → length around ≡ length ends → AreAround ends around → o ≡ get_or around i d
    → is_some o ≡ not result → result ≡ not (list_any (is_in_range i) (ranges_at 0 ends))
outside_ranges ends around i o d result h same known is some =
    turned (is_some o) result some ∙ outside_as ends i (omega arith) o (sym (first_is ends around i o d h known is))
