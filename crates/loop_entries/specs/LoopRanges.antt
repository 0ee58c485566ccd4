-- The ranges of the loops of a unit as the code has them. ANSI X3.9-1978, section 11.10, and MIL-STD-1753.
use Rattle.std.specs.Prelude.{◌≡◌, ℕ, suc, Bool, List, [], ◌∷◌, ◌++◌, map, Option, Some, None}
use Rattle.std.specs.List.{list_all, list_any}
use Rattle.f_tree.specs.Facts.{Line, ProgramUnit}
use Rattle.f_tree.specs.Nests.{Range, loop_of, range_to, ranges_of}
use Rattle.f_tree.specs.Places.{terminal_of}
use Rattle.loop_entries.specs.declared.ranges.LoopRange.{LoopRange}

unfoldable pub range_of : LoopRange → Range
range_of r = record { first = r.first; last = r.last }

abbrev pub ranges_in : List LoopRange → List Range
ranges_in rs = map range_of rs

-- the terminal statement of the loop that a statement begins, if it begins one that has a terminal statement
unfoldable pub terminal_by : ProgramUnit → ℕ → Option (Option ℕ) → Option ℕ
terminal_by p i None = None
terminal_by p i (Some label) = terminal_of p i label

unfoldable pub terminals_from : ProgramUnit → ℕ → List Line → List (Option ℕ)
terminals_from p i [] = []
terminals_from p i (line ∷ lines) = terminal_by p i (loop_of line.form) ∷ terminals_from p (suc i) lines

unfoldable pub terminals_of : ProgramUnit → List (Option ℕ)
terminals_of p = terminals_from p 0 p.lines

-- the ranges of loops in the order of their DO statements, by where each ends
unfoldable pub ranges_to : ℕ → List (Option ℕ) → List Range
ranges_to i [] = []
ranges_to i (end ∷ ends) = range_to i end ++ ranges_to (suc i) ends

-- ranges are those of a unit, in whatever order: each test finds the same in both
pub record AreRanges (p : ProgramUnit) (rs : List LoopRange) : Type 0 where
  pub all : (test : Range → Bool) → list_all test (ranges_of p) ≡ list_all (λ r. test (range_of r)) rs
  pub any : (test : Range → Bool) → list_any test (ranges_of p) ≡ list_any (λ r. test (range_of r)) rs
