-- What is said of the ranges of the DO loops of a unit. ANSI X3.9-1978, section 11.10.
use Rattle.std.specs.Prelude.{◌≡◌, ℕ, suc, ◌<◌, ◌≤◌, nat_lt, Bool, not, List, [], ◌++◌, filter, Option, Some, slice_get, IsTrue}
use Rattle.f_tree.specs.Facts.{Line, ProgramUnit}
use Rattle.f_tree.specs.Places.{terminal_of}
use Rattle.f_tree.specs.Setting.{IsIn}
use Rattle.f_tree.specs.Nests.{Range, loop_of, range_by, ranges_of, open_at, goes_past, each_ends, AreNested}

-- no range is open at the first statement
abbrev pub NoneIsOpenAtFirst : Type 0
NoneIsOpenAtFirst = (u : ProgramUnit) → open_at u 0 ≡ []

-- behind a statement those ranges are open that are open at it and do not end there; behind a DO its own too, as the innermost
abbrev pub OpenIsKnownBehind : Type 0
OpenIsKnownBehind = (u : ProgramUnit) (i : ℕ) (line : Line) → AreNested u → slice_get u.lines i ≡ Some line →
    open_at u (suc i) ≡ range_by u i (loop_of line.form) ++ filter (goes_past i) (open_at u i)

-- a range that is open at a statement is one of the unit's, and the statement stands behind its DO and not behind its terminal statement
pub record IsOpen (u : ProgramUnit) (i : ℕ) (r : Range) : Type 0 where
  pub of_unit : IsIn r (ranges_of u)
  pub behind : r.first < i
  pub not_behind : i ≤ r.last

abbrev pub OpenIsWithin : Type 0
OpenIsWithin = (u : ProgramUnit) (i : ℕ) (r : Range) → IsIn r (open_at u i) → IsOpen u i r

abbrev pub WithinIsOpen : Type 0
WithinIsOpen = (u : ProgramUnit) (i : ℕ) (r : Range) → IsOpen u i r → IsIn r (open_at u i)

-- each range is that of a DO statement and its terminal statement
pub record IsOfLoop (u : ProgramUnit) (r : Range) : Type 0 where
  pub line : Line
  pub there : slice_get u.lines r.first ≡ Some line
  pub label : Option ℕ
  pub loops : loop_of line.form ≡ Some label
  pub ends : terminal_of u r.first label ≡ Some r.last

abbrev pub EachRangeIsOfALoop : Type 0
EachRangeIsOfALoop = (u : ProgramUnit) (r : Range) → IsIn r (ranges_of u) → IsOfLoop u r

-- at each statement of a range those ranges are open outside it that are open at its DO: so both its ends have one nest
abbrev pub begins_before : Range → Range → Bool
begins_before r q = nat_lt q.first r.first

abbrev pub OneNestInARange : Type 0
OneNestInARange = (u : ProgramUnit) (r : Range) (i : ℕ) → AreNested u → IsOpen u i r → filter (begins_before r) (open_at u i) ≡ open_at u r.first

-- those that end at a statement are the innermost of those open there
abbrev pub InnermostEndFirst : Type 0
InnermostEndFirst = (u : ProgramUnit) (i : ℕ) → AreNested u →
    open_at u i ≡ filter (λ r. not (goes_past i r)) (open_at u i) ++ filter (goes_past i) (open_at u i)
