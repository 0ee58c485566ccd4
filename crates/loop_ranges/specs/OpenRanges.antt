-- The ranges of loops as the judge of those that cross keeps them, walking from the first statement to the last.
use Rattle.std.specs.Prelude.{◌≡◌, ℕ, suc, ◌<◌, ◌≤◌, nat_eq, nat_lt, nat_le, Bool, false, ◌&&◌, List, [], ◌∷◌, ◌++◌, map, reverse, length, Option, Some, None, if◌then◌else◌}
use Rattle.std.specs.List.{list_any}
use Rattle.found_rows.specs.declaration_rows.UnitRows as written
use Rattle.found_rows.specs.declaration_rows.UnitRows.{range_to, crosses_at}
use Rattle.loop_ranges.specs.FirstLoops.{first_at}
use Rattle.loop_ranges.specs.declared.crossing.Range.{Range}
use Rattle.loop_ranges.specs.declared.crossing.Ranges.{Ranges}

-- the ranges of the loops that statements begin, by where each ends
unfoldable pub ranges_at : ℕ → List (Option ℕ) → List written.Range
ranges_at i [] = []
ranges_at i (end ∷ ends) = range_to i end ++ ranges_at (suc i) ends

unfoldable pub range_of : Range → written.Range
range_of r = record { first = r.first; last = r.last }

-- the innermost first
abbrev pub innermost_first : List Range → List written.Range
innermost_first rs = reverse (map range_of rs)

-- the first of the ranges that end at a place
unfoldable pub first_ending : ℕ → List written.Range → Option ℕ
first_ending k [] = None
first_ending k (r ∷ rs) = if nat_eq r.last k then Some r.first else first_ending k rs

-- of the ranges that begin behind a place, is one open behind another place
unfoldable pub is_open_behind : ℕ → ℕ → List written.Range → Bool
is_open_behind f k rs = list_any (λ (q : written.Range). nat_lt f q.first && nat_lt k q.last) rs

-- without the innermost ranges that have ended
unfoldable pub without_ended : ℕ → List written.Range → List written.Range
without_ended k [] = []
without_ended k (r ∷ rs) = if nat_le r.last k then without_ended k rs else r ∷ rs

unfoldable pub has_ended : ℕ → List written.Range → Bool
has_ended k [] = false
has_ended k (r ∷ rs) = nat_le r.last k

unfoldable pub first_of_innermost : List written.Range → Option ℕ
first_of_innermost [] = None
first_of_innermost (r ∷ rs) = Some r.first

unfoldable pub is_before : ℕ → Option ℕ → Bool
is_before f None = false
is_before f (Some g) = nat_lt f g

unfoldable pub begins_before : Option ℕ → Option ℕ → Bool
begins_before None inner = false
begins_before (Some f) inner = is_before f inner

-- each range begins before those further in, and all before a place
unfoldable pub AreNestedBefore : ℕ → List written.Range → Type 0
AreNestedBefore b [] = Unit {0}
AreNestedBefore b (r ∷ rs) = (r.first < b) × AreNestedBefore r.first rs

-- what is kept of the loops that some statements begin, as far as it tells of ranges that end at a place or behind it
pub record AreRanges (ends : List (Option ℕ)) (place : ℕ) (ranges : Ranges) : Type 0 where
  pub firsts : (k : ℕ) → first_at ranges.firsts k ≡ first_ending k (ranges_at 0 ends)
  pub behind : (f k : ℕ) → place ≤ k → is_open_behind f k (innermost_first ranges.open_ranges.items) ≡ is_open_behind f k (ranges_at 0 ends)
  pub nested : AreNestedBefore (length ends) (innermost_first ranges.open_ranges.items)

-- a statement that may begin a loop is passed, and it is known whether a range that ends there crosses another
pub record Passes (place : ℕ) (end : Option ℕ) (before after : Ranges) (crosses : Bool) : Type 0 where
  pub kept : (ends : List (Option ℕ)) → length ends ≡ place → AreRanges ends place before → AreRanges (ends ++ end ∷ []) (suc place) after
  pub tells : (ends later : List (Option ℕ)) → length ends ≡ place → AreRanges ends place before →
      crosses ≡ crosses_at place (ranges_at 0 (ends ++ end ∷ later)) (ranges_at 0 (ends ++ end ∷ later))
