-- A formatted input on an internal file as the transfer in progress of the meaning of C texts, and what its calls answer
-- (ANSI X3.9-1978, 12.2.5, 12.8, 12.9.5.1 and 13).
use Rattle.std.specs.Prelude.{◌≡◌, ℕ, ℤ, pos, List, [], ◌∷◌, Option, Some, None, Result, Ok, Err}
use Rattle.c_tree.specs.run_state.Units.{Units}
use Rattle.c_tree.specs.declared.outcome.CValue.{CValue}
use Rattle.c_tree.specs.Faults.{Or, after, failing}
use Rattle.c_tree.specs.Objects.{Object}
use Rattle.c_tree.specs.World.{Input, Formatted, Internal, Transfer, Reply, Gives, Stops, Io}
use Rattle.c_tree.specs.Transfers.{new_transfer, when_format}
use Rattle.c_tree.specs.TransferStarts.{reading}
use Rattle.c_tree.specs.Builtins.{ByFormat, InMemory, TransferKind, transfer_kind, Begin, Finish, do_fio}
use Rattle.c_tree.specs.Library.{library}
use Rattle.edit_rules.specs.edit_meaning.Formats.{Format, pass, reverted}
use Rattle.edit_rules.specs.edit_meaning.FormatGrammar.{SpellsFormat}
use Rattle.edit_rules.specs.edit_meaning.ListItems.{Value}
use Rattle.edit_rules.specs.Walks as walks
use Rattle.item_deeds.specs.Forms.{SameForms}
use Rattle.unit_answers.specs.declared.ends.CallEnd.{CallEnd}
use Rattle.unit_answers.specs.declared.ends.CallEnd.TheVariants.{Fault, Ended, Device}
use Rattle.unit_answers.specs.Answers.{world_with, numbered_answer, Replies, IfDevice}
use Rattle.control_lists.specs.declared.controls.InternalControl.{InternalControl}
use Rattle.control_lists.specs.Controls.{internal_shown}
use Rattle.formatted_output.specs.declared.calls.Passage.{Passage}
use Rattle.formatted_output.specs.declared.calls.Passage.TheVariants.{GoesOn, Over}
use Rattle.internal_output.specs.Files.{file_of}
use Rattle.taken_records.specs.Records.{shown}
use Rattle.internal_formatted_input.specs.declared.calls.InternalFormattedInput.{InternalFormattedInput}
use Rattle.internal_formatted_input.specs.declared.calls.Start.{Start}
use Rattle.internal_formatted_input.specs.declared.calls.Start.TheVariants as start
use Rattle.internal_formatted_input.specs.declared.acts.Stop.{Stop}
use Rattle.internal_formatted_input.specs.declared.acts.Stop.TheVariants as stop

-- formatted input on an internal file
abbrev pub formatted_kind : TransferKind
formatted_kind = transfer_kind Input ByFormat InMemory

-- an input stands for a transfer: its walk stands in the text of the format, behind the edits that the items so far got, and both are
-- at one place of a record; what records come next is the file's to tell, and the values so far are stored
pub record StandsFor (text : List ℕ) (input : InternalFormattedInput) (transfer : Transfer) : Type 0 where
  pub direction : transfer.direction ≡ Input
  pub format : Format
  pub layout : transfer.layout ≡ Formatted format
  pub medium : transfer.medium ≡ Internal (file_of input.file)
  pub on_error : transfer.on_error ≡ input.on_error
  pub on_end : transfer.on_end ≡ input.on_end
  pub walks : walks.Stands text (pass (reverted format)) input.walk transfer.course.left
  pub later : List (List ℕ)
  pub values : List Value
  pub place : transfer.course.state ≡ shown input.record later values

-- a transfer begins or goes on, for which an input stands
pub record StandsIn (meaning : Or Reply) (objects : List Object) (units : Units) (text : List ℕ) (input : InternalFormattedInput) : Type 0 where
  pub transfer : Transfer
  pub stands : StandsFor text input transfer
  pub replies : meaning ≡ Ok (Gives (pos 0) (world_with objects (Some transfer) units))

-- `s_rsfi`
abbrev pub StartReplies : Or Reply → List Object → Units → List ℕ → Result Start CallEnd → Type 0
StartReplies meaning objects units text (Ok (start.Begins input)) = StandsIn meaning objects units text input
StartReplies meaning objects units text (Ok (start.Answers number)) = meaning ≡ Ok (Gives number (world_with objects None units))
StartReplies meaning objects units text (Err (Fault fault)) = meaning ≡ failing fault
StartReplies meaning objects units text (Err (Ended number)) = meaning ≡ Ok (Stops (Io number) (world_with objects None units))
StartReplies meaning objects units text (Err (Device unit)) = ⊥

-- an input that begins stands in the text of its format, and no device fails
abbrev pub BeginsIn : List ℕ → Result Start CallEnd → Type 0
BeginsIn text (Ok (start.Begins input)) = walks.StandsIn input.walk text
BeginsIn text (Ok (start.Answers number)) = Unit {0}
BeginsIn text (Err (Fault fault)) = Unit {0}
BeginsIn text (Err (Ended number)) = Unit {0}
BeginsIn text (Err (Device unit)) = ⊥

pub record Answers (meaning : Units → Or Reply) (objects : List Object) (text : List ℕ) (result : Result Start CallEnd) : Type 0 where
  pub inside : BeginsIn text result
  pub replies : (units : Units) → StartReplies (meaning units) objects units text result

abbrev pub AnswersStart : List Object → CValue → List ℕ → Result Start CallEnd → Type 0
AnswersStart objects pointer text result =
    Answers (λ units. library (Begin formatted_kind) (world_with objects None units) (pointer ∷ [])) objects text result

-- the rest of a start once its list and its format are read: the first record is read
abbrev pub first_under : List Object → InternalControl → Format → Units → Or Reply
first_under objects control format units =
    reading (new_transfer Input (Formatted format) (internal_shown control)) (world_with objects None units)

abbrev pub FirstReads : List Object → InternalControl → List ℕ → Result Start CallEnd → Type 0
FirstReads objects control text result =
    (format : Format) → (behind : List ℕ) → SpellsFormat format text behind → Answers (first_under objects control format) objects text result

-- and once its list is read
abbrev pub under : List Object → InternalControl → Or (Option Format) → Units → Or Reply
under objects control given units =
    after given λ format. when_format format (internal_shown control) (world_with objects None units) λ format. first_under objects control format units

abbrev pub FormatStarts : Or (Option Format) → List Object → InternalControl → List ℕ → Result Start CallEnd → Type 0
FormatStarts given objects control text result = Answers (under objects control given) objects text result

abbrev pub start_of : Result ℤ CallEnd → Result Start CallEnd
start_of (Ok number) = Ok (start.Answers number)
start_of (Err end) = Err end

-- `e_rsfi`: for every transfer for which the input stood, the call replies what its meaning gives; the objects stay, and no device fails
pub record AnswersEnd (text : List ℕ) (input : InternalFormattedInput) (objects : List Object) (result : Result ℤ CallEnd) : Type 0 where
  pub replies : (units : Units) → (transfer : Transfer) → StandsFor text input transfer →
      Replies (library (Finish formatted_kind) (world_with objects (Some transfer) units) []) (world_with objects None units) result
  pub no_device : IfDevice result (λ unit. ⊥) (Unit {0})

-- what a call answers where an input goes no further
abbrev pub stop_answer : ℤ → ℤ → Stop → Result ℤ CallEnd
stop_answer on_error on_end (stop.Number number) = numbered_answer number on_error on_end
stop_answer on_error on_end (stop.Fault fault) = Err (Fault fault)

abbrev pub end_answer : InternalFormattedInput → Result (Unit {0}) Stop → Result ℤ CallEnd
end_answer input (Ok done) = Ok (pos 0)
end_answer input (Err why) = stop_answer input.on_error input.on_end why

-- `do_fio`
abbrev pub ItemsReply : Or Reply → List Object → Units → List ℕ → InternalFormattedInput → Result Passage CallEnd → Type 0
ItemsReply meaning objects units text input (Ok GoesOn) = StandsIn meaning objects units text input
ItemsReply meaning objects units text input (Ok (Over number)) = meaning ≡ Ok (Gives number (world_with objects None units))
ItemsReply meaning objects units text input (Err (Fault fault)) = meaning ≡ failing fault
ItemsReply meaning objects units text input (Err (Ended number)) = meaning ≡ Ok (Stops (Io number) (world_with objects None units))
ItemsReply meaning objects units text input (Err (Device unit)) = ⊥

abbrev pub NoDevice : Result Passage CallEnd → Type 0
NoDevice (Ok passage) = Unit {0}
NoDevice (Err (Fault fault)) = Unit {0}
NoDevice (Err (Ended number)) = Unit {0}
NoDevice (Err (Device unit)) = ⊥

-- for every transfer for which the input stood, the call replies what its meaning gives; objects keep their forms, no device fails, and
-- the input goes on standing in the text of its format
pub record AnswersItems (text : List ℕ) (arguments : List CValue) (input input' : InternalFormattedInput) (old new : List Object) (result : Result Passage CallEnd) : Type 0 where
  pub inside : walks.StandsIn input'.walk text
  pub replies : (units : Units) → (transfer : Transfer) → StandsFor text input transfer →
      ItemsReply (library do_fio (world_with old (Some transfer) units) arguments) new units text input' result
  pub forms : SameForms old new
  pub no_device : NoDevice result
