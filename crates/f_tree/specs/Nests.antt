-- The ranges of the DO loops of a unit: which are open at each statement, whether they are nested, and which branches go into one.
-- ANSI X3.9-1978, section 11.10, and MIL-STD-1753 for DO WHILE and END DO. All of it is read off the flat list of the unit's statements,
-- counted from 0.
use Rattle.std.specs.Prelude.{ℕ, suc, nat_lt, nat_le, Bool, true, false, ◌&&◌, ◌||◌, not, List, [], ◌∷◌, ◌++◌, filter, Option, Some, None, slice_get, IsTrue}
use Rattle.std.specs.List.{list_all, list_any}
use Rattle.f_tree.specs.Facts.{ToLoop, ToTestLoop, Form, Passes, On, Line, ProgramUnit}
use Rattle.f_tree.specs.Places.{terminal_of}

-- a DO or DO WHILE statement, and the terminal statement of its loop
pub record Range : Type 0 where
  pub first : ℕ
  pub last : ℕ

-- what a DO or a DO WHILE says of its terminal statement: its label, if one is written; nothing where a statement is neither
unfoldable pub loop_of : Form → Option (Option ℕ)
loop_of Passes = None
loop_of (On head operands) = elim head [ ToLoop label ↦ Some label | ToTestLoop label ↦ Some label | _ ↦ None ]

unfoldable pub loop_at : Option Line → Option (Option ℕ)
loop_at None = None
loop_at (Some line) = loop_of line.form

-- the range of a loop: none where the terminal statement is missing
unfoldable pub range_to : ℕ → Option ℕ → List Range
range_to i None = []
range_to i (Some last) = record { first = i; last = last } ∷ []

unfoldable pub range_by : ProgramUnit → ℕ → Option (Option ℕ) → List Range
range_by u i None = []
range_by u i (Some label) = range_to i (terminal_of u i label)

-- the ranges of the loops of these statements, the last first
unfoldable pub ranges_from : ProgramUnit → ℕ → List Line → List Range
ranges_from u i [] = []
ranges_from u i (line ∷ lines) = ranges_from u (suc i) lines ++ range_by u i (loop_of line.form)

unfoldable pub ranges_of : ProgramUnit → List Range
ranges_of u = ranges_from u 0 u.lines

-- a range is what follows the DO statement, up to and with the terminal statement
unfoldable pub is_within : ℕ → Range → Bool
is_within i r = nat_lt r.first i && nat_le i r.last

-- the ranges that are open at a statement, the innermost first
unfoldable pub open_at : ProgramUnit → ℕ → List Range
open_at u i = filter (is_within i) (ranges_of u)

-- of these, those that do not end there
unfoldable pub goes_past : ℕ → Range → Bool
goes_past i r = nat_lt i r.last

-- a loop that begins within the range of another ends within it
unfoldable pub is_contained : Range → Range → Bool
is_contained r outer = not (is_within r.first outer) || nat_le r.last outer.last

unfoldable pub each_contained : List Range → Bool
each_contained ranges = list_all (λ r. list_all (is_contained r) ranges) ranges

-- a terminal statement stands behind its DO statement, and is no DO and no DO WHILE
unfoldable pub is_no_loop : Option (Option ℕ) → Bool
is_no_loop None = true
is_no_loop (Some label) = false

unfoldable pub ends_at : ProgramUnit → ℕ → Option ℕ → Bool
ends_at u i None = false
ends_at u i (Some last) = nat_lt i last && is_no_loop (loop_at (slice_get u.lines last))

unfoldable pub ends_by : ProgramUnit → ℕ → Option (Option ℕ) → Bool
ends_by u i None = true
ends_by u i (Some label) = ends_at u i (terminal_of u i label)

unfoldable pub each_ends : ProgramUnit → ℕ → List Line → Bool
each_ends u i [] = true
each_ends u i (line ∷ lines) = ends_by u i (loop_of line.form) && each_ends u (suc i) lines

-- the loops of a unit are nested
pub record AreNested (u : ProgramUnit) : Type 0 where
  pub ended : IsTrue (each_ends u 0 u.lines)
  pub contained : IsTrue (each_contained (ranges_of u))

-- a branch from one statement to another goes into a range from outside
unfoldable pub enters_range : ProgramUnit → ℕ → ℕ → Bool
enters_range u from to = list_any (λ r. is_within to r && not (is_within from r)) (ranges_of u)

unfoldable pub nests_opened : Unit {0}
unfolding loop_of loop_at range_to range_by ranges_from ranges_of is_within open_at goes_past is_contained each_contained is_no_loop ends_at ends_by each_ends enters_range
nests_opened = tt
