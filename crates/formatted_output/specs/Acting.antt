-- What the edits of a format do to the record in the making and to the unit: the records that they complete are written
-- (ANSI X3.9-1978, 12.9.5.2 and 13).
use Rattle.std.specs.Prelude.{◌≡◌, ℕ, ◌≤◌, ◌<◌, ℤ, List, ◌++◌, length, take, Option, Some, None, Result, Ok, Err}
use Rattle.run_state.specs.declared.refusals.UnitRefusal.{UnitRefusal}
use Rattle.c_tree.specs.TransferOutput.{halt_number}
use Rattle.edit_rules.specs.edit_meaning.Formats as formats
use Rattle.edit_rules.specs.edit_meaning.Formats.{Item, Act, Control, closing}
use Rattle.edit_rules.specs.edit_meaning.Halts.{Halt}
use Rattle.edit_rules.specs.edit_meaning.EditedRecords.{Output, unit_sheet}
use Rattle.edit_rules.specs.declared.edits.Edit.{Edit}
use Rattle.edit_rules.specs.declared.edits.Edit.TheVariants as edit
use Rattle.f2c_outside.specs.Table.{Row}
use Rattle.listed_output.specs.Writing.{Writes}
use Rattle.formatted_records.specs.declared.sheet.RecordSheet.{RecordSheet}
use Rattle.formatted_records.specs.Sheets.{StandsOn, shown, descriptor_of}
use Rattle.formatted_output.specs.declared.acts.Stop.{Stop}
use Rattle.formatted_output.specs.declared.acts.Stop.TheVariants as stop
use Rattle.formatted_output.specs.declared.acts.Turn.{Turn}
use Rattle.formatted_output.specs.declared.acts.Turn.TheVariants as turn

-- the characters of a literal stand at the front of a line, or they are more than it has columns
abbrev pub IsUndoubled : List ℕ → List ℕ → Option ℕ → Type 0
IsUndoubled wanted line (Some used) = (used ≤ length line) × (take used line ≡ wanted)
IsUndoubled wanted line None = length line < length wanted

-- what a walk's edit is for: an item, the record, or neither
abbrev pub TurnOf : Option formats.Edit → Turn → Type 0
TurnOf given (turn.Takes field) = given ≡ Some (Item (descriptor_of field))
TurnOf given turn.Acts = (control : Control) × (given ≡ Some (Act control))
TurnOf given turn.Ends = given ≡ None

abbrev pub InRecord : Edit → Type 0
InRecord edit.NextRecord = ⊥
InRecord other = Unit {0}

-- how the writing of the records went
abbrev pub writing : {T : Type 0} → Result T Stop → Result (Unit {0}) UnitRefusal
writing (Ok done) = Ok tt
writing (Err (stop.Number number)) = Ok tt
writing (Err (stop.Refused refusal)) = Err refusal
writing (Err (stop.Fault fault)) = Ok tt

abbrev pub IsHaltedBy : ℤ → Option Halt → Type 0
IsHaltedBy number halted = (halt : Halt) × (halted ≡ Some halt) × (halt_number halt ≡ number)

-- why an output goes no further: its lines are its complete records, and it is halted; or one is refused, and others may come behind it
abbrev pub StopsBy : Output → List (List ℕ) → Stop → Type 0
StopsBy out complete (stop.Number number) = (out.complete ≡ complete) × IsHaltedBy number out.halted
StopsBy out complete (stop.Refused refusal) = (later : List (List ℕ)) × (out.complete ≡ complete ++ later)
StopsBy out complete (stop.Fault fault) = ⊥

-- an output goes on, with lines behind the complete records before it
abbrev pub Comes : Output → List (List ℕ) → RecordSheet → Result (Unit {0}) Stop → Type 0
Comes out complete new (Ok done) = StandsOn unit_sheet complete new × (out ≡ shown new complete)
Comes out complete new (Err why) = StopsBy out complete why

-- an act does this to the output, and writes the records that it completes
pub record Does (act : Output → Output) (unit : ℤ) (old new : RecordSheet) (rows rows' : List Row) (result : Result (Unit {0}) Stop) : Type 0 where
  pub lines : List (List ℕ)
  pub writes : Writes unit lines rows rows' (writing result)
  pub comes : (complete : List (List ℕ)) → StandsOn unit_sheet complete old → Comes (act (shown old complete)) (complete ++ lines) new result
