-- The ranges that are open at a statement, from those that are open at the statement before.
use Rattle.std.proofs.Common.{◌≡◌, ℕ, zero, suc, ◌+◌, ◌<◌, ◌≤◌, nat_lt, nat_le, Bool, true, false, ◌&&◌, cond, List, [], ◌∷◌, ◌++◌, filter, get_or, length, Option, Some, None, if◌then◌else◌, refl, sym, ap, ◌∙◌, append_assoc, arith}
use Rattle.std.proofs.lemmas.Bool.{lt-ltb, le-ltb, ltb-true, le-leb}
use Rattle.std.proofs.lemmas.Bool.Decides.{nat_tests}
use Rattle.std.proofs.lemmas.List.{append-nil}
use Rattle.std.proofs.lemmas.List.Elements.{filter-append}
use Rattle.f_tree.specs.Nests.{Range, range_to, is_within, goes_past}
use Rattle.open_loops.specs.OpenRanges.{begun_at, open_behind, open_by}

-- the ranges of loops by where they end, the last first
unfoldable pub all_ranges : ℕ → List (Option ℕ) → List Range
all_ranges i [] = []
all_ranges i (end ∷ ends) = all_ranges (suc i) ends ++ range_to i end

within_not : (i first last : ℕ) → i ≤ first → is_within i (record { first = first; last = last }) ≡ false
unfolding is_within
within_not i first last h = ap (λ b. b && nat_le i last) (le-ltb first i h)

-- no range is open at its own statement or before it
one_not_yet : (i j : ℕ) (end : Option ℕ) → i ≤ j → filter (is_within i) (range_to j end) ≡ []
unfolding range_to
one_not_yet i j None h = refl
one_not_yet i j (Some last) h = ap (λ b. cond b (record { first = j; last = last } ∷ []) []) (within_not i j last h)

none_yet : (i j : ℕ) (ends : List (Option ℕ)) → i ≤ j → filter (is_within i) (all_ranges j ends) ≡ []
unfolding all_ranges
none_yet i j [] h = refl
none_yet i j (end ∷ ends) h =
    filter-append (is_within i) (all_ranges (suc j) ends) (range_to j end)
    ∙ ap (λ rs. rs ++ filter (is_within i) (range_to j end)) (none_yet i (suc j) ends (omega arith)) ∙ one_not_yet i j end h

-- behind its own statement
begun_if : (a b : Bool) (r : Range) → a ≡ b → cond a (r ∷ []) [] ≡ (if b then r ∷ [] else [])
begun_if a true r is = ap (λ c. cond c (r ∷ []) []) is
begun_if a false r is = ap (λ c. cond c (r ∷ []) []) is

begun : (i : ℕ) (end : Option ℕ) → filter (is_within (suc i)) (range_to i end) ≡ begun_at i end
unfolding range_to begun_at is_within
begun i None = refl
begun i (Some last) = begun_if (is_within (suc i) (record { first = i; last = last })) (nat_lt i last) (record { first = i; last = last }) (ap (λ b. b && nat_le (suc i) last) (lt-ltb i (suc i) (omega arith)))

-- behind a later statement
passed_if : (p : Range → Bool) (r : Range) (a b : Bool) → a ≡ (b && p r) → cond a (r ∷ []) [] ≡ filter p (cond b (r ∷ []) [])
passed_if p r a true is = ap (λ c. cond c (r ∷ []) []) is
passed_if p r a false is = ap (λ c. cond c (r ∷ []) []) is

past_is_at : (i last : ℕ) (b : Bool) → nat_lt i last ≡ b → b ≡ (nat_le i last && b)
past_is_at i last true is = sym (ap (λ b. b && true) (le-leb i last (let past : i < last = ltb-true i last is in omega arith)))
past_is_at i last false is = grind (arith, nat_tests)

goes_on : (i j last : ℕ) → j < i → is_within (suc i) (record { first = j; last = last }) ≡ (is_within i (record { first = j; last = last }) && goes_past i (record { first = j; last = last }))
unfolding is_within goes_past
goes_on i j last h =
    ap (λ b. b && nat_le (suc i) last) (lt-ltb j (suc i) (omega arith)) ∙ past_is_at i last (nat_lt i last) refl
    ∙ ap (λ b. (b && nat_le i last) && nat_lt i last) (sym (lt-ltb j i h))

passed_one : (i j : ℕ) (end : Option ℕ) → j < i → filter (is_within (suc i)) (range_to j end) ≡ filter (goes_past i) (filter (is_within i) (range_to j end))
unfolding range_to is_within goes_past
passed_one i j None h = refl
passed_one i j (Some last) h = passed_if (goes_past i) (record { first = j; last = last }) (is_within (suc i) (record { first = j; last = last })) (is_within i (record { first = j; last = last })) (goes_on i j last h)

both_filtered : (i : ℕ) (rs qs : List Range) → filter (goes_past i) (filter (is_within i) (rs ++ qs)) ≡ filter (goes_past i) (filter (is_within i) rs) ++ filter (goes_past i) (filter (is_within i) qs)
both_filtered i rs qs = ap (filter (goes_past i)) (filter-append (is_within i) rs qs) ∙ filter-append (goes_past i) (filter (is_within i) rs) (filter (is_within i) qs)

-- the ranges that are open behind the statement at a place
passed : (i j k : ℕ) (ends : List (Option ℕ)) → i ≡ j + k → k < length ends
    → filter (is_within (suc i)) (all_ranges j ends) ≡ begun_at i (get_or ends k None) ++ filter (goes_past i) (filter (is_within i) (all_ranges j ends))
unfolding all_ranges
passed i j k [] at h = absurd (omega (arith, h))
passed i j zero (end ∷ ends) at h =
    filter-append (is_within (suc i)) (all_ranges (suc j) ends) (range_to j end)
    ∙ ap (λ rs. rs ++ filter (is_within (suc i)) (range_to j end)) (none_yet (suc i) (suc j) ends (omega arith))
    ∙ ap (λ n. filter (is_within (suc i)) (range_to n end)) (let same : j ≡ i = omega arith in same)
    ∙ begun i end
    ∙ sym (append-nil (begun_at i end))
    ∙ ap (λ rs. begun_at i end ++ filter (goes_past i) rs)
    (sym (filter-append (is_within i) (all_ranges (suc j) ends) (range_to j end)
    ∙ ap (λ rs. rs ++ filter (is_within i) (range_to j end)) (none_yet i (suc j) ends (omega arith)) ∙ one_not_yet i j end (omega arith)))
passed i j (suc k) (end ∷ ends) at h =
    filter-append (is_within (suc i)) (all_ranges (suc j) ends) (range_to j end)
    ∙ ap (λ rs. rs ++ filter (is_within (suc i)) (range_to j end)) (passed i (suc j) k ends (omega arith) (omega (arith, h)))
    ∙ ap (λ rs. (begun_at i (get_or ends k None) ++ filter (goes_past i) (filter (is_within i) (all_ranges (suc j) ends))) ++ rs) (passed_one i j end (omega arith))
    ∙ append_assoc (begun_at i (get_or ends k None)) (filter (goes_past i) (filter (is_within i) (all_ranges (suc j) ends))) (filter (goes_past i) (filter (is_within i) (range_to j end)))
    ∙ ap (λ rs. begun_at i (get_or ends k None) ++ rs) (sym (both_filtered i (all_ranges (suc j) ends) (range_to j end)))

-- at each place
pub open_are : (ends : List (Option ℕ)) (i : ℕ) → i ≤ length ends → filter (is_within i) (all_ranges 0 ends) ≡ open_by ends i
unfolding open_by open_behind
open_are ends zero h = none_yet 0 0 ends (omega arith)
open_are ends (suc i) h =
    passed i 0 i ends (omega arith) (omega arith) ∙ ap (λ rs. begun_at i (get_or ends i None) ++ filter (goes_past i) rs) (open_are ends i (omega arith))
