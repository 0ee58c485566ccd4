-- What all procedures of a run share, and what one active procedure keeps for itself.
-- ANSI X3.9-1978, sections 2.13 (storage), 12 (units), 11.10 (active DO-loops).
use Rattle.std.specs.Prelude.{ℕ, ℤ, Bool, List, Option}
use Rattle.simulation.specs.Machine.{Sorts, Event, Goes, Breaks, Entry, Enters, Refused}
use Rattle.edit_meaning.specs.Formats.{Format}
use Rattle.edit_meaning.specs.ListInput.{Place}
use Rattle.edit_meaning.specs.ListItems.{Value}
use Rattle.edit_meaning.specs.Listed.{ListedValue}
use Rattle.edit_meaning.specs.TakenRecords.{Want}
pub use Rattle.run_state.specs.Endings.{Ending, Plain, Stop, Io, Range, Report}
use Rattle.run_state.specs.Units.{Units}
use Rattle.f_tree.specs.Values.{Bytes, Spot, Datum, Act, Checked, Gives, Fails}
use Rattle.f_tree.specs.Terms.{Wanted}
use Rattle.f_tree.specs.Store.{Store}
use Rattle.f_tree.specs.Facts.{Direction, Layout, Controls, Form, Facts, Frame}

-- where the records of a transfer stand (12.2)
pub data Medium : Type 0 where
  -- a unit, by its number
  External : ℤ → Medium
  -- a variable, an element, an array or a substring of type CHARACTER
  Internal : Spot → Medium

-- a transfer in progress (12.9)
pub record Transfer : Type 0 where
  pub direction : Direction
  pub layout : Layout
  pub medium : Medium
  pub controls : Controls
  -- the place that IOSTAT names
  pub status : Option Spot
  -- the format, where the transfer is not list-directed
  pub format : Format
  -- the values of an output so far
  pub values : List ListedValue
  -- how many of their records are written; of an internal file that is read, how many are read
  pub written : ℕ
  -- the records that an input has read so far, the last of which it is reading, and the values that its items were given
  pub lines : List Bytes
  pub taken : List Value
  -- where a list-directed input stands in its record, and whether a slash has ended it
  pub place : Place
  pub slashed : Bool
  -- what the items of a formatted input so far want, and whether blanks in a number are zeros at its start
  pub wants : List Want
  pub zeros : Bool

pub record World : Type 0 where
  pub store : Store
  pub units : Units
  pub transfer : Option Transfer

-- an active loop of a DO statement (11.10) or of a DO WHILE (MIL-STD-1753): the statement, its terminal statement, and how it goes on
pub data RoundKind : Type 0 where
  -- a DO WHILE, which goes on by its test
  While : RoundKind
  -- the variable, the turns left, the step, and the value that the loop gave the variable
  Counted : Spot → ℕ → ℤ → ℤ → RoundKind

pub record Round : Type 0 where
  pub first : ℕ
  pub last : ℕ
  pub kind : RoundKind

-- what comes next in an active procedure
pub data Now : Type 0 where
  Doing : Form → Now
  -- the increment of the innermost loop, behind its terminal statement
  Turning : Now
  -- a function was called: how high the store was, and the statement with the function's answer
  Waits : ℕ → (Datum → Form) → Now
  -- a subroutine was called: how high the store was
  Returning : ℕ → Now

-- one active procedure: the statement that it is at, counted from 0, and its loops, the innermost first
pub record View : Type 0 where
  pub frame : Frame
  pub at : ℕ
  pub now : Now
  pub loops : List Round

-- by what a unit is called
pub data Called : Type 0 where
  TheMain : Called
  Procedure : Bytes → Called

-- what a call passes: what it wants, the actual arguments, and the place for the result of a character function
pub record Passed : Type 0 where
  pub want : Wanted
  pub actuals : List Datum
  pub result : Option Spot

abbrev pub fortran_sorts : Sorts
fortran_sorts = record { Code = Facts; View = View; Shared = World; Name = Called; Arg = Passed; Ans = Datum; Fault = Act }

abbrev pub Happening : Type 0
Happening = Event Ending fortran_sorts

-- the run goes on, or an act stands in its way
unfoldable pub proceeding : Checked View → World → Happening
proceeding (Gives v) w = Goes v w
proceeding (Fails act) w = Breaks act

unfoldable pub entered : Checked View → World → Entry fortran_sorts
entered (Gives v) w = Enters v w
entered (Fails act) w = Refused act

unfoldable pub world_opened : Unit {0}
unfolding proceeding entered
world_opened = tt
