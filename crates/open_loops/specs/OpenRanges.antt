-- The ranges of the loops around a statement, as one walk over the statements of a unit finds them, given where each loop ends.
-- ANSI X3.9-1978, section 11.10.
use Rattle.std.specs.Prelude.{ℕ, zero, suc, nat_lt, not, List, [], ◌∷◌, ◌++◌, filter, map, reverse, Option, Some, None, slice_index_or, if◌then◌else◌}
use Rattle.f_tree.specs.Nests.{Range, goes_past}
use Rattle.open_loops.specs.declared.ranges.OpenLoop.{OpenLoop}

unfoldable pub range_of : OpenLoop → Range
range_of l = record { first = l.first; last = l.last }

-- the innermost first
abbrev pub innermost_first : List OpenLoop → List Range
innermost_first loops = reverse (map range_of loops)

-- the range that a statement begins, as far as it goes past the statement
unfoldable pub begun_at : ℕ → Option ℕ → List Range
begun_at i None = []
begun_at i (Some last) = if nat_lt i last then record { first = i; last = last } ∷ [] else []

-- the ranges that are open behind a statement, given those that are open at it
unfoldable pub open_behind : ℕ → Option ℕ → List Range → List Range
open_behind i end rs = begun_at i end ++ filter (goes_past i) rs

-- the ranges that are open at a place
unfoldable pub open_by : List (Option ℕ) → ℕ → List Range
open_by ends zero = []
open_by ends (suc i) = open_behind i (slice_index_or ends i None) (open_by ends i)

-- where the loops begin that end at a place, of those that are open there
unfoldable pub ended_among : ℕ → List Range → List ℕ
ended_among i rs = map (λ (r : Range). r.first) (filter (λ (r : Range). not (goes_past i r)) rs)
