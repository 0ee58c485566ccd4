-- What all functions of a run share: the objects, the external units and the transfer in progress.
use Rattle.std.specs.Prelude.{ℕ, ℤ, Bool, false, List, [], Option, None}
use Rattle.edit_meaning.specs.Formats.{Format, Empty}
use Rattle.edit_meaning.specs.Listed.{ListedValue}
use Rattle.edit_meaning.specs.ListInput.{Place, Between}
use Rattle.edit_meaning.specs.ListItems.{Value}
use Rattle.edit_meaning.specs.TakenRecords as taken
use Rattle.edit_meaning.specs.Transfers.{Progress, begun}
pub use Rattle.run_state.specs.Endings.{Ending, Plain, Stop, Io, Range, Report}
use Rattle.run_state.specs.Units.{Units}
use Rattle.c_tree.specs.Objects.{Object}

pub data Direction : Type 0 where
  Output : Direction
  Input : Direction

-- how values are written or read: by a format, which was read at the start, or list-directed
pub data Layout : Type 0 where
  Formatted : Format → Layout
  Listed : Layout

-- an internal file: the object and the offset of its first record, the bytes of a record, how many records it
-- has, and how many of them are behind
pub record InternalFile : Type 0 where
  pub object : ℕ
  pub offset : ℕ
  pub size : ℕ
  pub count : ℕ
  pub position : ℕ

pub data Medium : Type 0 where
  Unit : ℤ → Medium
  Internal : InternalFile → Medium

-- a transfer in progress: whether an error, and whether an end, is answered to the caller, where it is not 0; of an
-- output the values so far, and how many of its records are written; of an input the values that its items were given so
-- far; of list-directed input the record that is being read, the place in it, and whether a slash was met, which leaves
-- the later items; and of formatted input the edits that are left and the place in the record
pub record Transfer : Type 0 where
  pub direction : Direction
  pub layout : Layout
  pub medium : Medium
  pub on_error : ℤ
  pub on_end : ℤ
  pub values : List ListedValue
  pub written : ℕ
  pub received : List Value
  pub line : List ℕ
  pub place : Place
  pub slashed : Bool
  pub course : Progress taken.Input

-- before the first record is read
abbrev pub no_place : Place
no_place = Between false []

abbrev pub no_course : Progress taken.Input
no_course =
    begun Empty (record { line = []; later = []; before = 0; zeros = false; values = []; halted = None })

pub record World : Type 0 where
  pub objects : List Object
  pub units : Units
  pub transfer : Option Transfer

-- what a call of the library gives: a number, no value, or the end of the run
pub data Reply : Type 0 where
  Gives : ℤ → World → Reply
  Void : World → Reply
  Stops : Ending → World → Reply
