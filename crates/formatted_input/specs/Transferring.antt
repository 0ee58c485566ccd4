-- A formatted input on a unit as the transfer in progress of the meaning of C texts, and what its calls answer
-- (ANSI X3.9-1978, 12.8, 12.9.5.1 and 13).
use Rattle.std.specs.Prelude.{◌≡◌, ℕ, ℤ, pos, List, [], ◌∷◌, Option, Some, None, Result, Ok, Err}
use Rattle.c_tree.specs.run_state.Units.{Units}
use Rattle.c_tree.specs.declared.outcome.CValue.{CValue}
use Rattle.c_tree.specs.Faults.{Or, after, failing}
use Rattle.c_tree.specs.Objects.{Object}
use Rattle.c_tree.specs.World.{Input, Formatted, Transfer, Reply, Gives, Stops, Io}
use Rattle.c_tree.specs.World as media
use Rattle.c_tree.specs.Transfers.{unit_control, new_transfer, when_format}
use Rattle.c_tree.specs.TransferStarts.{reading}
use Rattle.c_tree.specs.Builtins.{ByFormat, OnUnit, TransferKind, transfer_kind, Begin, Finish, do_fio}
use Rattle.c_tree.specs.Library.{library}
use Rattle.edit_rules.specs.edit_meaning.Formats.{Format, pass, reverted}
use Rattle.edit_rules.specs.edit_meaning.FormatGrammar.{SpellsFormat}
use Rattle.edit_rules.specs.edit_meaning.ListItems.{Value}
use Rattle.edit_rules.specs.Walks as walks
use Rattle.f2c_outside.specs.Table.{Row}
use Rattle.f2c_outside.specs.Meaning.{Tells, units_of}
use Rattle.unit_answers.specs.declared.ends.CallEnd.{CallEnd}
use Rattle.unit_answers.specs.declared.ends.CallEnd.TheVariants.{Fault, Ended, Device}
use Rattle.unit_answers.specs.Failing.{FailedOn, NoneFailed}
use Rattle.unit_answers.specs.Answers.{world_with, numbered_answer, Replies}
use Rattle.control_lists.specs.declared.controls.UnitControl.{UnitControl}
use Rattle.control_lists.specs.Controls.{unit_shown}
use Rattle.listed_output.specs.Writing.{StayedOn}
use Rattle.listed_input.specs.Transferring.{NamesUnit}
use Rattle.item_deeds.specs.Forms.{SameForms}
use Rattle.taken_records.specs.Records.{shown}
use Rattle.formatted_output.specs.declared.calls.Passage.{Passage}
use Rattle.formatted_output.specs.declared.calls.Passage.TheVariants.{GoesOn, Over}
use Rattle.formatted_input.specs.declared.calls.FormattedInput.{FormattedInput}
use Rattle.formatted_input.specs.declared.calls.Start.{Start}
use Rattle.formatted_input.specs.declared.calls.Start.TheVariants as start
use Rattle.formatted_input.specs.declared.acts.Stop.{Stop}
use Rattle.formatted_input.specs.declared.acts.Stop.TheVariants as stop

-- formatted input on a unit
abbrev pub formatted_kind : TransferKind
formatted_kind = transfer_kind Input ByFormat OnUnit

-- an input stands for a transfer: its walk stands in the text of the format, behind the edits that the items so far got, and both are
-- at one place of a record; what records come next is the unit's to tell, and the values so far are stored
pub record StandsFor (text : List ℕ) (input : FormattedInput) (transfer : Transfer) : Type 0 where
  pub direction : transfer.direction ≡ Input
  pub format : Format
  pub layout : transfer.layout ≡ Formatted format
  pub medium : transfer.medium ≡ media.Unit input.unit
  pub on_error : transfer.on_error ≡ input.on_error
  pub on_end : transfer.on_end ≡ input.on_end
  pub walks : walks.Stands text (pass (reverted format)) input.walk transfer.course.left
  pub later : List (List ℕ)
  pub values : List Value
  pub place : transfer.course.state ≡ shown input.record later values

-- a transfer begins or goes on, for which an input stands
pub record Stands (meaning : Or Reply) (objects : List Object) (units : Units) (text : List ℕ) (input : FormattedInput) : Type 0 where
  pub transfer : Transfer
  pub stands : StandsFor text input transfer
  pub replies : meaning ≡ Ok (Gives (pos 0) (world_with objects (Some transfer) units))

-- `s_rsfe`
abbrev pub StartReplies : Or Reply → List Object → Units → List ℕ → Result Start CallEnd → Type 0
StartReplies meaning objects units text (Ok (start.Begins input)) = Stands meaning objects units text input
StartReplies meaning objects units text (Ok (start.Answers number)) = meaning ≡ Ok (Gives number (world_with objects None units))
StartReplies meaning objects units text (Err (Fault fault)) = meaning ≡ failing fault
StartReplies meaning objects units text (Err (Ended number)) = meaning ≡ Ok (Stops (Io number) (world_with objects None units))
StartReplies meaning objects units text (Err (Device unit)) = Unit {0}

-- the device of the unit of the start failed, or none did
abbrev pub StartDevice : (ℤ → Type 0) → List Row → List Row → Result Start CallEnd → Type 0
StartDevice Own old new (Ok start) = NoneFailed old new
StartDevice Own old new (Err (Fault fault)) = new ≡ old
StartDevice Own old new (Err (Ended number)) = NoneFailed old new
StartDevice Own old new (Err (Device unit)) = Own unit × FailedOn unit old new

-- an input that begins stands in the text of its format
abbrev pub BeginsIn : List ℕ → Result Start CallEnd → Type 0
BeginsIn text (Ok (start.Begins input)) = walks.StandsIn input.walk text
BeginsIn text (Ok (start.Answers number)) = Unit {0}
BeginsIn text (Err end) = Unit {0}

-- where the devices tell their records, a start replies what its meaning gives over the units that the rows mean; the device of its own
-- unit fails where it is answered, and nowhere else; at a fault the rows stay as they were
pub record AnswersBegin (meaning : Units → Or Reply) (Own : ℤ → Type 0) (objects : List Object) (old new : List Row) (text : List ℕ) (result : Result Start CallEnd) : Type 0 where
  pub inside : BeginsIn text result
  pub tells : Tells old → Tells new
  pub replies : Tells old → StartReplies (meaning (units_of old)) objects (units_of new) text result
  pub devices : StartDevice Own old new result

abbrev pub AnswersStart : List Object → CValue → List Row → List Row → List ℕ → Result Start CallEnd → Type 0
AnswersStart objects pointer old new text result =
    AnswersBegin (λ units. library (Begin formatted_kind) (world_with objects None units) (pointer ∷ [])) (NamesUnit (unit_control objects pointer)) objects old new text result

-- the rest of a start whose unit is connected: the first record is read under a format
abbrev pub first_under : List Object → Units → UnitControl → Format → Or Reply
first_under objects units control format =
    reading (new_transfer Input (Formatted format) (unit_shown control)) (world_with objects None units)

abbrev pub AnswersReading : UnitControl → List Row → List Row → List ℕ → Result Start CallEnd → Type 0
AnswersReading control old new text result =
    (objects : List Object) → (format : Format) → (behind : List ℕ) → SpellsFormat format text behind →
    AnswersBegin (λ units. first_under objects units control format) (λ unit. unit ≡ control.unit) objects old new text result

-- and the format that is read before it
abbrev pub under : List Object → Units → UnitControl → Or (Option Format) → Or Reply
under objects units control given =
    after given λ format. when_format format (unit_shown control) (world_with objects None units) λ format. first_under objects units control format

abbrev pub AnswersUnder : Or (Option Format) → List Object → UnitControl → List Row → List Row → List ℕ → Result Start CallEnd → Type 0
AnswersUnder given objects control old new text result =
    AnswersBegin (λ units. under objects units control given) (λ unit. unit ≡ control.unit) objects old new text result

abbrev pub start_of : Result ℤ CallEnd → Result Start CallEnd
start_of (Ok number) = Ok (start.Answers number)
start_of (Err end) = Err end

-- the device of the unit failed, or none did; at a fault only that of the unit was called
abbrev pub EndDevice : FormattedInput → List Row → List Row → Result ℤ CallEnd → Type 0
EndDevice input old new (Ok number) = NoneFailed old new
EndDevice input old new (Err (Fault fault)) = StayedOn input.unit old new
EndDevice input old new (Err (Ended number)) = NoneFailed old new
EndDevice input old new (Err (Device unit)) = (unit ≡ input.unit) × FailedOn unit old new

-- `e_rsfe`: for every transfer for which the input stood, the call replies what its meaning gives; the device of its unit fails where it
-- is answered, and nowhere else
pub record AnswersEnd (text : List ℕ) (input : FormattedInput) (old new : List Row) (result : Result ℤ CallEnd) : Type 0 where
  pub tells : Tells old → Tells new
  pub replies : Tells old → (objects : List Object) → (transfer : Transfer) → StandsFor text input transfer →
      Replies (library (Finish formatted_kind) (world_with objects (Some transfer) (units_of old)) []) (world_with objects None (units_of new)) result
  pub devices : EndDevice input old new result

-- what a call answers where an input goes no further
abbrev pub stop_answer : ℤ → ℤ → ℤ → Stop → Result ℤ CallEnd
stop_answer unit on_error on_end (stop.Number number) = numbered_answer number on_error on_end
stop_answer unit on_error on_end stop.Device = Err (Device unit)
stop_answer unit on_error on_end (stop.Fault fault) = Err (Fault fault)

abbrev pub end_answer : FormattedInput → Result (Unit {0}) Stop → Result ℤ CallEnd
end_answer input (Ok done) = Ok (pos 0)
end_answer input (Err why) = stop_answer input.unit input.on_error input.on_end why

-- `do_fio`
abbrev pub ItemsReply : Or Reply → List Object → Units → List ℕ → FormattedInput → Result Passage CallEnd → Type 0
ItemsReply meaning objects units text input (Ok GoesOn) = Stands meaning objects units text input
ItemsReply meaning objects units text input (Ok (Over number)) = meaning ≡ Ok (Gives number (world_with objects None units))
ItemsReply meaning objects units text input (Err (Fault fault)) = meaning ≡ failing fault
ItemsReply meaning objects units text input (Err (Ended number)) = meaning ≡ Ok (Stops (Io number) (world_with objects None units))
ItemsReply meaning objects units text input (Err (Device unit)) = Unit {0}

abbrev pub ItemsDevice : FormattedInput → List Row → List Row → Result Passage CallEnd → Type 0
ItemsDevice input old new (Ok passage) = NoneFailed old new
ItemsDevice input old new (Err (Fault fault)) = StayedOn input.unit old new
ItemsDevice input old new (Err (Ended number)) = NoneFailed old new
ItemsDevice input old new (Err (Device unit)) = (unit ≡ input.unit) × FailedOn unit old new

-- for every transfer for which the input stood, the call replies what its meaning gives; the device of its unit fails where it is
-- answered, and nowhere else; at a fault no other unit has changed; the objects keep their forms; and the input goes on standing in the
-- text of its format
pub record AnswersItems (text : List ℕ) (objects objects' : List Object) (arguments : List CValue) (input input' : FormattedInput) (old new : List Row) (result : Result Passage CallEnd) : Type 0 where
  pub inside : walks.StandsIn input'.walk text
  pub tells : Tells old → Tells new
  pub replies : Tells old → (transfer : Transfer) → StandsFor text input transfer →
      ItemsReply (library do_fio (world_with objects (Some transfer) (units_of old)) arguments) objects' (units_of new) text input' result
  pub devices : ItemsDevice input old new result
  pub forms : SameForms objects objects'

abbrev pub over_by : Result ℤ CallEnd → Result Passage CallEnd
over_by (Ok number) = Ok (Over number)
over_by (Err end) = Err end
