-- A formatted output on an internal file as the transfer in progress of the meaning of C texts, and what its calls answer
-- (ANSI X3.9-1978, 12.2.5, 12.8, 12.9.5.2 and 13).
use Rattle.std.specs.Prelude.{◌≡◌, ℕ, zero, suc, ℤ, pos, negsuc, false, List, [], ◌∷◌, length, Option, Some, None, Result, Ok, Err}
use Rattle.c_tree.specs.run_state.Units.{Units}
use Rattle.c_tree.specs.declared.outcome.CValue.{CValue}
use Rattle.c_tree.specs.Faults.{Or, failing}
use Rattle.c_tree.specs.Objects.{Object}
use Rattle.c_tree.specs.World.{Output, Formatted, Internal, InternalFile, Transfer, Reply, Gives, Stops, Io}
use Rattle.c_tree.specs.Builtins.{ByFormat, InMemory, TransferKind, transfer_kind, Begin, Finish, do_fio}
use Rattle.c_tree.specs.Library.{library}
use Rattle.edit_rules.specs.edit_meaning.Formats.{Format, pass, reverted, edits_for}
use Rattle.edit_rules.specs.edit_meaning.EditedRecords.{Sheet, internal_sheet, made_on}
use Rattle.edit_rules.specs.edit_meaning.FormatGrammar.{SpellsFormat}
use Rattle.edit_rules.specs.Walks as walks
use Rattle.edit_rules.specs.Walks.{Stands}
use Rattle.item_deeds.specs.Forms.{SameForms}
use Rattle.unit_answers.specs.declared.ends.CallEnd.{CallEnd}
use Rattle.unit_answers.specs.declared.ends.CallEnd.TheVariants.{Fault, Ended, Device}
use Rattle.unit_answers.specs.Answers.{world_with, numbered_answer, Replies, IfDevice}
use Rattle.control_lists.specs.declared.controls.InternalControl.{InternalControl}
use Rattle.control_lists.specs.Controls.{file_shown}
use Rattle.formatted_records.specs.Sheets.{StandsOn, Begins, shown}
use Rattle.formatted_output.specs.declared.calls.Passage.{Passage}
use Rattle.formatted_output.specs.declared.calls.Passage.TheVariants.{GoesOn, Over}
use Rattle.formatted_output.specs.Transferring.{over_by}
use Rattle.internal_output.specs.Files.{file_of, refusal_answer}
use Rattle.internal_formatted.specs.declared.calls.InternalFormatted.{InternalFormatted}
use Rattle.internal_formatted.specs.declared.calls.Start.{Start}
use Rattle.internal_formatted.specs.declared.calls.Start.TheVariants as start
use Rattle.internal_formatted.specs.declared.acts.Stop.{Stop}
use Rattle.internal_formatted.specs.declared.acts.Stop.TheVariants as stop

-- formatted output on an internal file
abbrev pub formatted_kind : TransferKind
formatted_kind = transfer_kind Output ByFormat InMemory

-- the sheet of a file
abbrev pub page_in : InternalFile → Sheet
page_in file = internal_sheet file.count file.size

-- an output on a file with records stands for a transfer: its walk stands in the text of the format, behind the edits that the values so
-- far got; each of these got one, and they made what its sheet has, behind complete records that are stored
pub record Going (text : List ℕ) (output : InternalFormatted) (transfer : Transfer) : Type 0 where
  pub direction : transfer.direction ≡ Output
  pub format : Format
  pub layout : transfer.layout ≡ Formatted format
  pub medium : transfer.medium ≡ Internal (file_of output.file)
  pub on_error : transfer.on_error ≡ output.on_error
  pub on_end : transfer.on_end ≡ output.on_end
  pub served : (edits_for format (length transfer.values)).unserved ≡ 0
  pub walks : Stands text (pass (reverted format)) output.walk (edits_for format (length transfer.values)).left
  pub complete : List (List ℕ)
  pub on : StandsOn (page_in (file_of output.file)) complete output.sheet
  pub made : made_on (page_in (file_of output.file)) format transfer.values false ≡ shown output.sheet complete
  pub written : transfer.written ≡ length complete

-- an output on a file that has no record, before its first item: its walk stands in the text of the format
pub record Recordless (text : List ℕ) (output : InternalFormatted) (transfer : Transfer) : Type 0 where
  pub direction : transfer.direction ≡ Output
  pub format : Format
  pub layout : transfer.layout ≡ Formatted format
  pub medium : transfer.medium ≡ Internal (file_of output.file)
  pub on_error : transfer.on_error ≡ output.on_error
  pub on_end : transfer.on_end ≡ output.on_end
  pub none : output.file.count ≡ 0
  pub values : transfer.values ≡ []
  pub written : transfer.written ≡ 0
  pub inside : walks.StandsIn output.walk text

pub data StandsFor (text : List ℕ) (output : InternalFormatted) (transfer : Transfer) : Type 0 where
  WithRecords : Going text output transfer → StandsFor text output transfer
  WithoutRecords : Recordless text output transfer → StandsFor text output transfer

-- a transfer begins or goes on, for which an output stands
pub record StandsIn (meaning : Or Reply) (objects : List Object) (units : Units) (text : List ℕ) (output : InternalFormatted) : Type 0 where
  pub transfer : Transfer
  pub stands : StandsFor text output transfer
  pub replies : meaning ≡ Ok (Gives (pos 0) (world_with objects (Some transfer) units))

-- `s_wsfi`
abbrev pub StartReplies : Or Reply → List Object → Units → List ℕ → Result Start CallEnd → Type 0
StartReplies meaning objects units text (Ok (start.Begins output)) = StandsIn meaning objects units text output
StartReplies meaning objects units text (Ok (start.Answers number)) = meaning ≡ Ok (Gives number (world_with objects None units))
StartReplies meaning objects units text (Err (Fault fault)) = meaning ≡ failing fault
StartReplies meaning objects units text (Err (Ended number)) = meaning ≡ Ok (Stops (Io number) (world_with objects None units))
StartReplies meaning objects units text (Err (Device unit)) = ⊥

abbrev pub AnswersStart : List Object → CValue → List ℕ → Result Start CallEnd → Type 0
AnswersStart objects pointer text result =
    (units : Units) → StartReplies (library (Begin formatted_kind) (world_with objects None units) (pointer ∷ [])) objects units text result

-- the first record of a file that has one
abbrev pub BeginsPage : InternalControl → InternalFormatted → Type 0
BeginsPage control output = (control.count ≡ 0 → ⊥) → Begins (page_in (file_shown control)) output.sheet

-- an output as it begins, in the text of a format
pub record IsBegun (control : InternalControl) (text : List ℕ) (output : InternalFormatted) : Type 0 where
  pub file : file_of output.file ≡ file_shown control
  pub on_error : output.on_error ≡ control.on_error
  pub on_end : output.on_end ≡ control.on_end
  pub walks : (format : Format) → (after : List ℕ) → SpellsFormat format text after → Stands text (pass (reverted format)) output.walk (pass format)
  pub sheet : BeginsPage control output

-- the rest of a start once its list is read
abbrev pub FormatStarts : Or (Option Format) → InternalControl → List ℕ → Result Start CallEnd → Type 0
FormatStarts meaning control text (Ok (start.Begins output)) =
    (format : Format) × ((after : List ℕ) × (meaning ≡ Ok (Some format)) × SpellsFormat format text after × IsBegun control text output)
FormatStarts meaning control text (Ok (start.Answers number)) = (meaning ≡ Ok None) × (numbered_answer (pos 10) control.on_error control.on_end ≡ Ok number)
FormatStarts meaning control text (Err (Fault fault)) = meaning ≡ failing fault
FormatStarts meaning control text (Err (Ended number)) =
    (meaning ≡ Ok None) × (numbered_answer (pos 10) control.on_error control.on_end ≡ Err (Ended number))
FormatStarts meaning control text (Err (Device unit)) = ⊥

abbrev pub start_of : Result ℤ CallEnd → Result Start CallEnd
start_of (Ok number) = Ok (start.Answers number)
start_of (Err end) = Err end

-- `e_wsfi`: for every transfer for which the output stood, the call replies what its meaning gives; objects keep their forms, and no
-- device fails
pub record AnswersEnd (text : List ℕ) (output : InternalFormatted) (old new : List Object) (result : Result ℤ CallEnd) : Type 0 where
  pub replies : (units : Units) → (transfer : Transfer) → StandsFor text output transfer →
      Replies (library (Finish formatted_kind) (world_with old (Some transfer) units) []) (world_with new None units) result
  pub forms : SameForms old new
  pub no_device : IfDevice result (λ unit. ⊥) (Unit {0})

-- what a call answers where an output goes no further
abbrev pub stop_answer : ℤ → ℤ → Stop → Result ℤ CallEnd
stop_answer on_error on_end (stop.Number number) = numbered_answer number on_error on_end
stop_answer on_error on_end (stop.Refused refusal) = refusal_answer refusal on_error on_end
stop_answer on_error on_end (stop.Fault fault) = Err (Fault fault)

abbrev pub end_answer : InternalFormatted → Result (Unit {0}) Stop → Result ℤ CallEnd
end_answer output (Ok done) = Ok (pos 0)
end_answer output (Err why) = stop_answer output.on_error output.on_end why

-- `do_fio`
abbrev pub ItemsReply : Or Reply → List Object → Units → List ℕ → InternalFormatted → Result Passage CallEnd → Type 0
ItemsReply meaning objects units text output (Ok GoesOn) = StandsIn meaning objects units text output
ItemsReply meaning objects units text output (Ok (Over number)) = meaning ≡ Ok (Gives number (world_with objects None units))
ItemsReply meaning objects units text output (Err (Fault fault)) = meaning ≡ failing fault
ItemsReply meaning objects units text output (Err (Ended number)) = meaning ≡ Ok (Stops (Io number) (world_with objects None units))
ItemsReply meaning objects units text output (Err (Device unit)) = ⊥

abbrev pub NoDevice : Result Passage CallEnd → Type 0
NoDevice (Ok passage) = Unit {0}
NoDevice (Err (Fault fault)) = Unit {0}
NoDevice (Err (Ended number)) = Unit {0}
NoDevice (Err (Device unit)) = ⊥

-- for every transfer for which the output stood, the call replies what its meaning gives; objects keep their forms, no device fails, and
-- the output goes on standing in the text of its format
pub record AnswersItems (text : List ℕ) (arguments : List CValue) (output output' : InternalFormatted) (old new : List Object) (result : Result Passage CallEnd) : Type 0 where
  pub inside : walks.StandsIn output'.walk text
  pub replies : (units : Units) → (transfer : Transfer) → StandsFor text output transfer →
      ItemsReply (library do_fio (world_with old (Some transfer) units) arguments) new units text output' result
  pub forms : SameForms old new
  pub no_device : NoDevice result

-- items on a file that has no record
abbrev pub none_answer : ℕ → ℤ → ℤ → Result Passage CallEnd
none_answer zero on_error on_end = Ok GoesOn
none_answer (suc count) on_error on_end = over_by (numbered_answer (negsuc 0) on_error on_end)
