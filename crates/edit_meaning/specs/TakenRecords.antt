-- Formatted input: the values that items take from records under a format. ANSI X3.9-1978, section 13.5.
use Rattle.std.specs.Prelude.{ℕ, ℤ, ◌+◌, ◌-◌, nat_le, Bool, if◌then◌else◌, Option, None, Some, unwrap_or, Result, Ok, Err, List, [], ◌∷◌, ◌++◌, length, take, drop, replicate}
use Rattle.edit_meaning.specs.Formats.{Descriptor, IntIn, LogicalIn, TextIn, Control, Literal, ToColumn, LeftBy, RightBy, NextRecord, PlusSigns, ZeroBlanks, Format, edits_for, closing}
use Rattle.edit_meaning.specs.Halts.{Halt, Number, EndOfRecords, OtherType}
use Rattle.edit_meaning.specs.ListItems.{Value, IntValue, LogicalValue, TextValue}
use Rattle.edit_meaning.specs.TakenFields.{int_in, logical_in, text_in}
use Rattle.edit_meaning.specs.Transfers.{Direction, closed_by, transferred}

-- what an item wants: an integer, a logical, or a text of a length
pub data Want : Type 0 where
  WantInt : Want
  WantLogical : Want
  WantText : ℕ → Want

-- an input so far: the record being read, the later ones, how many columns stand before the position, whether blanks are zeros, the
-- values, and why it goes no further
pub record Input : Type 0 where
  pub line : List ℕ
  pub later : List (List ℕ)
  pub before : ℕ
  pub zeros : Bool
  pub values : List Value
  pub halted : Option Halt

abbrev pub halted_by : Halt → Input → Input
halted_by halt input = record input { halted = Some halt }

-- the input comes to its next record; one of more than 1,024 characters is error number 5
abbrev pub next_of : List (List ℕ) → Input → Input
next_of [] input = halted_by EndOfRecords input
next_of (next ∷ later) input =
    if nat_le (length next) 1024 then record input { line = next; later = later; before = 0 }
    else halted_by (Number 5) (record input { later = later })

-- the position moves; past column 1,025 it is error number 5
abbrev pub moved_to : ℕ → Input → Input
moved_to columns input = if nat_le columns 1024 then record input { before = columns } else halted_by (Number 5) input

-- a text in a format has no place on input and is error number 10
abbrev pub with_control : Control → Input → Input
with_control (Literal text) input = halted_by (Number 10) input
with_control (ToColumn column) input = moved_to (column - 1) input
with_control (LeftBy columns) input = moved_to (input.before - columns) input
with_control (RightBy columns) input = moved_to (input.before + columns) input
with_control NextRecord input = next_of input.later input
with_control (PlusSigns plus) input = input
with_control (ZeroBlanks zeros) input = record input { zeros = zeros }

-- so many columns of a record from a position on, which is read as if blanks stood behind it
abbrev pub columns_of : ℕ → ℕ → List ℕ → List ℕ
columns_of before width line = take width (drop before line) ++ replicate (width - length (drop before line)) 32

-- a value from a field of a width, behind which the position stands; past column 1,025 it is error number 5
abbrev pub with_value : Value → ℕ → Input → Input
with_value value width input =
    if nat_le (input.before + width) 1024 then record input { before = input.before + width; values = input.values ++ value ∷ [] }
    else halted_by (Number 5) input

abbrev pub with_int : ℕ → Result ℤ ℕ → Input → Input
with_int width (Ok number) input = with_value (IntValue number) width input
with_int width (Err error) input = halted_by (Number error) input

abbrev pub with_logical : ℕ → Result Bool ℕ → Input → Input
with_logical width (Ok truth) input = with_value (LogicalValue truth) width input
with_logical width (Err error) input = halted_by (Number error) input

-- the item's field under its descriptor; without a width a text takes as many columns as it has. A descriptor for another type than the
-- item's has no meaning, wherever the position is
abbrev pub with_field : Descriptor → Want → Input → Input
with_field (IntIn width least) WantInt input = with_int width (int_in (columns_of input.before width input.line) input.zeros) input
with_field (LogicalIn width) WantLogical input = with_logical width (logical_in (columns_of input.before width input.line)) input
with_field (TextIn width) (WantText size) input =
    with_value (TextValue (text_in (columns_of input.before (unwrap_or width size) input.line) size)) (unwrap_or width size) input
with_field (IntIn width least) WantLogical input = halted_by OtherType input
with_field (IntIn width least) (WantText size) input = halted_by OtherType input
with_field (LogicalIn width) WantInt input = halted_by OtherType input
with_field (LogicalIn width) (WantText size) input = halted_by OtherType input
with_field (TextIn width) WantInt input = halted_by OtherType input
with_field (TextIn width) WantLogical input = halted_by OtherType input

abbrev pub input : Direction Input Want
input = record { halted = λ i. i.halted; act = with_control; item = with_field; halt = halted_by }

-- a transfer reads its first record at its start, also with no item; `zeros` is the blank mode of the unit
abbrev pub input_start : List (List ℕ) → Bool → Input
input_start records zeros = next_of records (record { line = []; later = []; before = 0; zeros = zeros; values = []; halted = None })

-- the input of a format from the records for the items, with what the format gives behind the last one
unfoldable pub taken : Format → List (List ℕ) → List Want → Bool → Input
taken format records wants zeros =
    closed_by input (closing (edits_for format (length wants)).left) (transferred input format wants (input_start records zeros))
