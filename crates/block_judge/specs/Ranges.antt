-- The DO ranges that statements stand in, by where each range ends.
use Rattle.std.specs.Prelude.{◌≡◌, ℕ, zero, suc, ◌<◌, ◌≤◌, nat_le, Bool, false, List, length, slice_index_or, take, Option, Some, None, if◌then◌else◌}
use Rattle.declaration_rows.specs.BlockRows.{enters_range_of}
use Rattle.loop_ranges.specs.OpenRanges.{ranges_at}

unfoldable pub lasts_to : ℕ → Option ℕ → Bool
lasts_to place None = false
lasts_to place (Some last) = nat_le place last

-- of the ranges that begin before one place and last to another, where the one begins that begins last
unfoldable pub innermost : List (Option ℕ) → ℕ → ℕ → Option ℕ
innermost ends place zero = None
innermost ends place (suc k) = if lasts_to place (slice_index_or ends k None) then Some k else innermost ends place k

pub record AreAround (ends around : List (Option ℕ)) : Type 0 where
  pub is : (i : ℕ) → i < length around → slice_index_or around i None ≡ innermost ends i i

-- a walk from range to range around a statement: the ranges that begin before a place are still to be looked at
pub record Comes (ends : List (Option ℕ)) (from to : ℕ) (range : Option ℕ) : Type 0 where
  pub upto : ℕ
  pub within : upto ≤ to
  pub is : range ≡ innermost ends upto upto
  pub rest : enters_range_of (ranges_at 0 ends) from to ≡ enters_range_of (ranges_at 0 (take upto ends)) from to
