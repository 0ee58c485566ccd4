-- A formatted output on a unit as the transfer in progress of the meaning of C texts, and what its calls answer
-- (ANSI X3.9-1978, 12.8, 12.9.5.2 and 13).
use Rattle.std.specs.Prelude.{◌≡◌, ℕ, ℤ, pos, false, List, [], ◌∷◌, length, Option, Some, None, Result, Ok, Err}
use Rattle.c_tree.specs.run_state.Units.{Units}
use Rattle.c_tree.specs.declared.outcome.CValue.{CValue}
use Rattle.c_tree.specs.Faults.{Or, failing}
use Rattle.c_tree.specs.Objects.{Object}
use Rattle.c_tree.specs.World.{Output, Formatted, Transfer, Reply, Gives, Stops, Io}
use Rattle.c_tree.specs.World as media
use Rattle.c_tree.specs.Builtins.{ByFormat, OnUnit, TransferKind, transfer_kind, Begin, Finish, do_fio}
use Rattle.c_tree.specs.Library.{library}
use Rattle.edit_rules.specs.edit_meaning.Formats.{Format, pass, reverted, edits_for}
use Rattle.edit_rules.specs.edit_meaning.EditedRecords.{unit_sheet, made_on}
use Rattle.edit_rules.specs.edit_meaning.FormatGrammar.{SpellsFormat}
use Rattle.edit_rules.specs.Walks as walks
use Rattle.edit_rules.specs.Walks.{Stands}
use Rattle.f2c_outside.specs.Table.{Row}
use Rattle.f2c_outside.specs.Meaning.{Tells, units_of}
use Rattle.unit_answers.specs.declared.ends.CallEnd.{CallEnd}
use Rattle.unit_answers.specs.declared.ends.CallEnd.TheVariants.{Fault, Ended, Device}
use Rattle.unit_answers.specs.Failing.{FailedOn, NoneFailed}
use Rattle.unit_answers.specs.Answers.{world_with, numbered_answer, refused_answer, Replies}
use Rattle.listed_output.specs.Writing.{StayedOn}
use Rattle.control_lists.specs.declared.controls.UnitControl.{UnitControl}
use Rattle.formatted_records.specs.Sheets.{StandsOn, Begins, shown}
use Rattle.formatted_output.specs.declared.calls.FormattedOutput.{FormattedOutput}
use Rattle.formatted_output.specs.declared.calls.Start.{Start}
use Rattle.formatted_output.specs.declared.calls.Start.TheVariants as start
use Rattle.formatted_output.specs.declared.calls.Passage.{Passage}
use Rattle.formatted_output.specs.declared.calls.Passage.TheVariants.{GoesOn, Over}
use Rattle.formatted_output.specs.declared.acts.Stop.{Stop}
use Rattle.formatted_output.specs.declared.acts.Stop.TheVariants as stop

-- formatted output on a unit
abbrev pub formatted_kind : TransferKind
formatted_kind = transfer_kind Output ByFormat OnUnit

-- an output stands for a transfer: its walk stands in the text of the format, behind the edits that the values so far got; each of
-- these got one, and they made what its sheet has, behind complete records that are written
pub record StandsFor (text : List ℕ) (output : FormattedOutput) (transfer : Transfer) : Type 0 where
  pub direction : transfer.direction ≡ Output
  pub format : Format
  pub layout : transfer.layout ≡ Formatted format
  pub medium : transfer.medium ≡ media.Unit output.unit
  pub on_error : transfer.on_error ≡ output.on_error
  pub on_end : transfer.on_end ≡ output.on_end
  pub served : (edits_for format (length transfer.values)).unserved ≡ 0
  pub walks : Stands text (pass (reverted format)) output.walk (edits_for format (length transfer.values)).left
  pub complete : List (List ℕ)
  pub on : StandsOn unit_sheet complete output.sheet
  pub made : made_on unit_sheet format transfer.values false ≡ shown output.sheet complete
  pub written : transfer.written ≡ length complete

-- a transfer begins or goes on, for which an output stands
pub record StandsIn (meaning : Or Reply) (objects : List Object) (units : Units) (text : List ℕ) (output : FormattedOutput) : Type 0 where
  pub transfer : Transfer
  pub stands : StandsFor text output transfer
  pub replies : meaning ≡ Ok (Gives (pos 0) (world_with objects (Some transfer) units))

-- `s_wsfe`
abbrev pub StartReplies : Or Reply → List Object → Units → List ℕ → Result Start CallEnd → Type 0
StartReplies meaning objects units text (Ok (start.Begins output)) = StandsIn meaning objects units text output
StartReplies meaning objects units text (Ok (start.Answers number)) = meaning ≡ Ok (Gives number (world_with objects None units))
StartReplies meaning objects units text (Err (Fault fault)) = meaning ≡ failing fault
StartReplies meaning objects units text (Err (Ended number)) = meaning ≡ Ok (Stops (Io number) (world_with objects None units))
StartReplies meaning objects units text (Err (Device unit)) = ⊥

abbrev pub AnswersStart : List Object → CValue → List Row → List ℕ → Result Start CallEnd → Type 0
AnswersStart objects pointer rows text result =
    StartReplies (library (Begin formatted_kind) (world_with objects None (units_of rows)) (pointer ∷ [])) objects (units_of rows) text result

-- an output as it begins, in the text of a format
pub record IsBegun (control : UnitControl) (text : List ℕ) (output : FormattedOutput) : Type 0 where
  pub unit : output.unit ≡ control.unit
  pub on_error : output.on_error ≡ control.on_error
  pub on_end : output.on_end ≡ control.on_end
  pub walks : (format : Format) → (after : List ℕ) → SpellsFormat format text after → Stands text (pass (reverted format)) output.walk (pass format)
  pub sheet : Begins unit_sheet output.sheet

-- the rest of a start where its unit is connected, once the format is read
abbrev pub FormatStarts : Or (Option Format) → UnitControl → List ℕ → Result Start CallEnd → Type 0
FormatStarts meaning control text (Ok (start.Begins output)) =
    (format : Format) × ((after : List ℕ) × (meaning ≡ Ok (Some format)) × SpellsFormat format text after × IsBegun control text output)
FormatStarts meaning control text (Ok (start.Answers number)) = (meaning ≡ Ok None) × (numbered_answer (pos 10) control.on_error control.on_end ≡ Ok number)
FormatStarts meaning control text (Err (Fault fault)) = meaning ≡ failing fault
FormatStarts meaning control text (Err (Ended number)) =
    (meaning ≡ Ok None) × (numbered_answer (pos 10) control.on_error control.on_end ≡ Err (Ended number))
FormatStarts meaning control text (Err (Device unit)) = ⊥

abbrev pub start_of : Result ℤ CallEnd → Result Start CallEnd
start_of (Ok number) = Ok (start.Answers number)
start_of (Err end) = Err end

-- the device of the unit failed, or none did; at a fault only that of the unit was called
abbrev pub EndDevice : FormattedOutput → List Row → List Row → Result ℤ CallEnd → Type 0
EndDevice output old new (Ok number) = NoneFailed old new
EndDevice output old new (Err (Fault fault)) = StayedOn output.unit old new
EndDevice output old new (Err (Ended number)) = NoneFailed old new
EndDevice output old new (Err (Device unit)) = (unit ≡ output.unit) × FailedOn unit old new

-- `e_wsfe`: for every transfer for which the output stood, the call replies what its meaning gives; the device of its unit fails where it
-- is answered, and nowhere else
pub record AnswersEnd (text : List ℕ) (output : FormattedOutput) (old new : List Row) (result : Result ℤ CallEnd) : Type 0 where
  pub tells : Tells old → Tells new
  pub replies : Tells old → (objects : List Object) → (transfer : Transfer) → StandsFor text output transfer →
      Replies (library (Finish formatted_kind) (world_with objects (Some transfer) (units_of old)) []) (world_with objects None (units_of new)) result
  pub devices : EndDevice output old new result

-- what a call answers where an output goes no further
abbrev pub stop_answer : ℤ → ℤ → ℤ → Stop → Result ℤ CallEnd
stop_answer unit on_error on_end (stop.Number number) = numbered_answer number on_error on_end
stop_answer unit on_error on_end (stop.Refused refusal) = refused_answer unit refusal on_error on_end
stop_answer unit on_error on_end (stop.Fault fault) = Err (Fault fault)

abbrev pub end_answer : FormattedOutput → Result (Unit {0}) Stop → Result ℤ CallEnd
end_answer output (Ok done) = Ok (pos 0)
end_answer output (Err why) = stop_answer output.unit output.on_error output.on_end why

-- `do_fio`
abbrev pub ItemsReply : Or Reply → List Object → Units → List ℕ → FormattedOutput → Result Passage CallEnd → Type 0
ItemsReply meaning objects units text output (Ok GoesOn) = StandsIn meaning objects units text output
ItemsReply meaning objects units text output (Ok (Over number)) = meaning ≡ Ok (Gives number (world_with objects None units))
ItemsReply meaning objects units text output (Err (Fault fault)) = meaning ≡ failing fault
ItemsReply meaning objects units text output (Err (Ended number)) = meaning ≡ Ok (Stops (Io number) (world_with objects None units))
ItemsReply meaning objects units text output (Err (Device unit)) = Unit {0}

abbrev pub ItemsDevice : FormattedOutput → List Row → List Row → Result Passage CallEnd → Type 0
ItemsDevice output old new (Ok passage) = NoneFailed old new
ItemsDevice output old new (Err (Fault fault)) = StayedOn output.unit old new
ItemsDevice output old new (Err (Ended number)) = NoneFailed old new
ItemsDevice output old new (Err (Device unit)) = (unit ≡ output.unit) × FailedOn unit old new

-- for every transfer for which the output stood, the call replies what its meaning gives; the device of its unit fails where it is
-- answered, and nowhere else; at a fault no other unit has changed; and the output goes on standing in the text of its format
pub record AnswersItems (text : List ℕ) (objects : List Object) (arguments : List CValue) (output output' : FormattedOutput) (old new : List Row) (result : Result Passage CallEnd) : Type 0 where
  pub inside : walks.StandsIn output'.walk text
  pub tells : Tells old → Tells new
  pub replies : Tells old → (transfer : Transfer) → StandsFor text output transfer →
      ItemsReply (library do_fio (world_with objects (Some transfer) (units_of old)) arguments) objects (units_of new) text output' result
  pub devices : ItemsDevice output old new result

abbrev pub over_by : Result ℤ CallEnd → Result Passage CallEnd
over_by (Ok number) = Ok (Over number)
over_by (Err end) = Err end
