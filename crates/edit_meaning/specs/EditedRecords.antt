-- Formatted output: the records that a format and a list of values make, and the record in the making. ANSI X3.9-1978, section 13.5.
use Rattle.std.specs.Prelude.{ℕ, suc, ◌+◌, ◌-◌, nat_le, nat_lt, min, Bool, true, false, if◌then◌else◌, Option, None, Some, unwrap_or, List, [], ◌∷◌, ◌++◌, length, take, drop, replicate}
use Rattle.edit_meaning.specs.EditedFields.{int_field, logical_field, text_field}
use Rattle.edit_meaning.specs.Formats.{Descriptor, IntIn, LogicalIn, TextIn, Control, Literal, ToColumn, LeftBy, RightBy, NextRecord, PlusSigns, ZeroBlanks, Format, Edit, edits_for, closing}
use Rattle.edit_meaning.specs.Halts.{Halt, Number, EndOfRecords, OtherType}
use Rattle.edit_meaning.specs.Listed.{ListedValue, Int, Logical, Text}
use Rattle.edit_meaning.specs.Transfers.{Direction, closed_by, served_over, transferred}

-- what an output may fill: the columns of its records, and how many records an internal file has
pub record Sheet : Type 0 where
  pub columns : ℕ
  pub records : Option ℕ

-- the records of a unit, and those of an internal file
abbrev pub unit_sheet : Sheet
unit_sheet = record { columns = 1024; records = None }

abbrev pub internal_sheet : ℕ → ℕ → Sheet
internal_sheet records columns = record { columns = min columns 1024; records = Some records }

-- an output so far: its complete records, the record in the making up to the last column written, how many columns stand before the
-- position, whether plus signs are written, and why it goes no further
pub record Output : Type 0 where
  pub complete : List (List ℕ)
  pub making : List ℕ
  pub before : ℕ
  pub plus : Bool
  pub halted : Option Halt

abbrev pub has_record : Option ℕ → ℕ → Bool
has_record None complete = true
has_record (Some records) complete = nat_lt complete records

-- the output comes to its next record; an internal file may be used up
abbrev pub arrived : Sheet → List (List ℕ) → Output → Output
arrived sheet complete out =
    let next : Output = record out { complete = complete; making = []; before = 0 } in
    if has_record sheet.records (length complete) then next else record next { halted = Some EndOfRecords }

abbrev pub output_start : Sheet → Output
output_start sheet = arrived sheet [] (record { complete = []; making = []; before = 0; plus = false; halted = None })

-- the position moves; past column 1,025 it is error number 5
abbrev pub moved_to : ℕ → Output → Output
moved_to columns out =
    if nat_le columns 1024 then record out { before = columns } else record out { halted = Some (Number 5) }

-- characters at a position of a record; a gap before them is blanks. An empty text writes nothing, so that no gap is filled before it
abbrev pub written_at : ℕ → List ℕ → List ℕ → List ℕ
written_at columns [] line = line
written_at columns (first ∷ text) line =
    take columns line ++ replicate (columns - length line) 32 ++ (first ∷ text) ++ drop (columns + length (first ∷ text)) line

-- characters at the position, which moves behind them; a record past its last column is error number 5
abbrev pub with_text : Sheet → List ℕ → Output → Output
with_text sheet text out =
    if nat_le (out.before + length text) sheet.columns then
    record out { making = written_at out.before text out.making; before = out.before + length text }
    else record out { halted = Some (Number 5) }

abbrev pub with_control : Sheet → Control → Output → Output
with_control sheet (Literal text) out = with_text sheet text out
with_control sheet (ToColumn column) out = moved_to (column - 1) out
with_control sheet (LeftBy columns) out = moved_to (out.before - columns) out
with_control sheet (RightBy columns) out = moved_to (out.before + columns) out
with_control sheet NextRecord out = arrived sheet (out.complete ++ out.making ∷ []) out
with_control sheet (PlusSigns plus) out = record out { plus = plus }
with_control sheet (ZeroBlanks zeros) out = out

-- the field of a value under a descriptor
abbrev pub field_of : Descriptor → ListedValue → Bool → Option (List ℕ)
field_of (IntIn width least) (Int number) plus = Some (int_field number width least plus)
field_of (LogicalIn width) (Logical truth) plus = Some (logical_field truth width)
field_of (TextIn width) (Text text) plus = Some (text_field text (unwrap_or width (length text)))
field_of (IntIn width least) (Logical truth) plus = None
field_of (IntIn width least) (Text text) plus = None
field_of (LogicalIn width) (Int number) plus = None
field_of (LogicalIn width) (Text text) plus = None
field_of (TextIn width) (Int number) plus = None
field_of (TextIn width) (Logical truth) plus = None

-- a descriptor for another type than the value's has no meaning, wherever the position is
abbrev pub with_field : Sheet → Option (List ℕ) → Output → Output
with_field sheet None out = record out { halted = Some OtherType }
with_field sheet (Some field) out = with_text sheet field out

abbrev pub output : Sheet → Direction Output ListedValue
output sheet = record {
  halted = λ out. out.halted;
  act = with_control sheet;
  item = λ descriptor value out. with_field sheet (field_of descriptor value out.plus) out;
  halt = λ halt out. record out { halted = Some halt };
}

-- the end of an output writes its record
abbrev pub ended : Option Halt → Output → Output
ended (Some halt) out = out
ended None out = record out { complete = out.complete ++ out.making ∷ [] }

-- the output is closed: what the format gives behind the last item, and the last record
abbrev pub output_closed : Sheet → List Edit → Output → Output
output_closed sheet left out =
    let last : Output = closed_by (output sheet) (closing left) out in ended last.halted last

abbrev pub finished : Bool → Sheet → List Edit → Output → Output
finished false sheet left out = out
finished true sheet left out = output_closed sheet left out

-- the output of a format over values; where it is closed, with what the format gives behind the last item, and its last record
unfoldable pub made_on : Sheet → Format → List ListedValue → Bool → Output
made_on sheet format values closed =
    finished closed sheet (edits_for format (length values)).left (transferred (output sheet) format values (output_start sheet))

-- the output of a format over values up to the descriptor of the item that comes next: what the format gives before it is done
unfoldable pub made_ahead : Sheet → Format → List ListedValue → Output
made_ahead sheet format values = served_over (output sheet) (edits_for format (suc (length values))) values (output_start sheet)

-- the output on a unit
abbrev pub made : Format → List ListedValue → Bool → Output
made format values closed = made_on unit_sheet format values closed
