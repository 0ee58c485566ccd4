-- Ranges as the code keeps them.
use Rattle.std.proofs.Common.{◌≡◌, ℕ, ◌<◌, ◌≤◌, nat_lt, nat_le, not, Some, if◌then◌else◌, true, false, List, [], ◌∷◌, ◌++◌, map, filter, reverse, refl, sym, ap, ◌∙◌, arith}
use Rattle.std.specs.List.{list_any}
use Rattle.std.proofs.lemmas.Bool.{lt-ltb, le-ltb}
use Rattle.std.proofs.lemmas.Bool.Decides.{nat_tests}
use Rattle.std.proofs.lemmas.List.{map-append, reverse-append}
use Rattle.f_tree.specs.Nests.{Range, goes_past}
use Rattle.open_loops.specs.declared.ranges.OpenLoop.{OpenLoop}
use Rattle.open_loops.specs.OpenRanges.{range_of, innermost_first, begun_at, ended_among}
use Rattle.open_loops.proofs.ListLemmas.{filter_whole, map-filter, map-reverse, reverse-filter}

past_by : (i : ℕ) (l : OpenLoop) → nat_lt i l.last ≡ goes_past i (range_of l)
unfolding goes_past range_of
past_by i l = refl

pub kept_behind : (i : ℕ) (ls : List OpenLoop) → innermost_first (filter (λ (l : OpenLoop). nat_lt i l.last) ls) ≡ filter (goes_past i) (innermost_first ls)
kept_behind i ls =
    ap reverse (map-filter range_of (λ (l : OpenLoop). nat_lt i l.last) (goes_past i) (past_by i) ls) ∙ reverse-filter (goes_past i) (map range_of ls)

ends_by : (i : ℕ) (l : OpenLoop) → nat_le l.last i ≡ not (goes_past i (range_of l))
unfolding goes_past range_of
ends_by i l = grind (arith, nat_tests)

first_by : (ls : List OpenLoop) → map (λ (l : OpenLoop). l.first) ls ≡ map (λ (r : Range). r.first) (map range_of ls)
unfolding range_of
first_by [] = refl
first_by (l ∷ ls) = ap (λ xs. l.first ∷ xs) (first_by ls)

pub ended_by : (i : ℕ) (ls : List OpenLoop) → map (λ (l : OpenLoop). l.first) (filter (λ (l : OpenLoop). nat_le l.last i) (reverse ls)) ≡ ended_among i (innermost_first ls)
unfolding ended_among
ended_by i ls =
    first_by (filter (λ (l : OpenLoop). nat_le l.last i) (reverse ls))
    ∙ ap (map (λ (r : Range). r.first))
    (map-filter range_of (λ (l : OpenLoop). nat_le l.last i) (λ (r : Range). not (goes_past i r)) (ends_by i) (reverse ls)
    ∙ ap (filter (λ (r : Range). not (goes_past i r))) (map-reverse range_of ls))

past_or_not : (i : ℕ) (l : OpenLoop) → nat_le l.last i ≡ false → nat_lt i l.last ≡ true
past_or_not i l none = grind (arith, nat_tests)

-- where none has ended, all go past
pub none_forgotten : (i : ℕ) (ls : List OpenLoop) → list_any (λ (l : OpenLoop). nat_le l.last i) ls ≡ false → innermost_first ls ≡ filter (goes_past i) (innermost_first ls)
none_forgotten i ls none =
    sym (ap innermost_first (filter_whole (λ (l : OpenLoop). nat_lt i l.last) (λ (l : OpenLoop). nat_le l.last i) (past_or_not i) ls none)) ∙ kept_behind i ls

-- one more
pub begun_open : (i last : ℕ) (ls : List OpenLoop) → i < last → innermost_first (ls ++ record { first = i; last = last } ∷ []) ≡ begun_at i (Some last) ++ innermost_first ls
unfolding begun_at range_of
begun_open i last ls past =
    ap reverse (map-append range_of ls (record { first = i; last = last } ∷ [])) ∙ reverse-append (map range_of ls) (record { first = i; last = last } ∷ [])
    ∙ ap (λ b. (if b then record { first = i; last = last } ∷ [] else []) ++ innermost_first ls) (sym (lt-ltb i last past))

pub begun_closed : (i last : ℕ) (ls : List OpenLoop) → last ≤ i → innermost_first ls ≡ begun_at i (Some last) ++ innermost_first ls
unfolding begun_at
begun_closed i last ls ended = ap (λ b. (if b then record { first = i; last = last } ∷ [] else []) ++ innermost_first ls) (sym (le-ltb i last ended))
