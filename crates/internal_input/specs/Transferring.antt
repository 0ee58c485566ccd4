-- A list-directed input on an internal file as the transfer in progress of the meaning of C texts, and what its calls answer
-- (ANSI X3.9-1978, 12.2.5, 12.8 and 13.6.1).
use Rattle.std.specs.Prelude.{◌≡◌, ℤ, pos, false, List, [], ◌∷◌, Some, None, Result, Ok, Err}
use Rattle.c_tree.specs.run_state.Units.{Units}
use Rattle.c_tree.specs.declared.outcome.CValue.{CValue}
use Rattle.c_tree.specs.Faults.{Or, failing}
use Rattle.c_tree.specs.Objects.{Object}
use Rattle.c_tree.specs.World.{Input, Listed, Internal, Transfer, Reply, Gives, Stops, Io}
use Rattle.c_tree.specs.Transfers.{Control, new_transfer}
use Rattle.c_tree.specs.TransferStarts.{reading}
use Rattle.c_tree.specs.Builtins.{ByList, InMemory, TransferKind, transfer_kind, Begin, Finish, do_lio}
use Rattle.c_tree.specs.Library.{library}
use Rattle.item_deeds.specs.Forms.{SameForms}
use Rattle.unit_answers.specs.declared.ends.CallEnd.{CallEnd}
use Rattle.unit_answers.specs.declared.ends.CallEnd.TheVariants.{Fault, Ended, Device}
use Rattle.unit_answers.specs.Answers.{world_with}
use Rattle.control_lists.specs.declared.controls.InternalControl.{InternalControl}
use Rattle.control_lists.specs.Controls.{internal_shown}
use Rattle.listed_output.specs.declared.calls.Passage.{Passage}
use Rattle.listed_output.specs.declared.calls.Passage.TheVariants.{GoesOn, Over}
use Rattle.listed_input.specs.Reading.{place_of}
use Rattle.internal_output.specs.Files.{file_of}
use Rattle.internal_output.specs.Transferring.{NoDevice}
use Rattle.internal_input.specs.declared.calls.InternalInput.{InternalInput}
use Rattle.internal_input.specs.declared.calls.Start.{Start}
use Rattle.internal_input.specs.declared.calls.Start.TheVariants.{Begins, Answers}

-- list-directed input on an internal file
abbrev pub internal_kind : TransferKind
internal_kind = transfer_kind Input ByList InMemory

-- an input stands for a transfer: both are at one place of a record, or behind a slash
pub record StandsFor (input : InternalInput) (transfer : Transfer) : Type 0 where
  pub direction : transfer.direction ≡ Input
  pub layout : transfer.layout ≡ Listed
  pub medium : transfer.medium ≡ Internal (file_of input.file)
  pub on_error : transfer.on_error ≡ input.on_error
  pub on_end : transfer.on_end ≡ input.on_end
  pub slashed : transfer.slashed ≡ input.slashed
  pub place : input.slashed ≡ false → transfer.place ≡ place_of input.reading

-- a transfer begins or goes on, for which an input stands
pub record Stands (meaning : Or Reply) (objects : List Object) (units : Units) (input : InternalInput) : Type 0 where
  pub transfer : Transfer
  pub stands : StandsFor input transfer
  pub replies : meaning ≡ Ok (Gives (pos 0) (world_with objects (Some transfer) units))

-- `s_rsli`
abbrev pub StartReplies : Or Reply → List Object → Units → Result Start CallEnd → Type 0
StartReplies meaning objects units (Ok (Begins input)) = Stands meaning objects units input
StartReplies meaning objects units (Ok (Answers number)) = meaning ≡ Ok (Gives number (world_with objects None units))
StartReplies meaning objects units (Err (Fault fault)) = meaning ≡ failing fault
StartReplies meaning objects units (Err (Ended number)) = meaning ≡ Ok (Stops (Io number) (world_with objects None units))
StartReplies meaning objects units (Err (Device unit)) = ⊥

abbrev pub NoDeviceAtStart : Result Start CallEnd → Type 0
NoDeviceAtStart (Ok start) = Unit {0}
NoDeviceAtStart (Err (Fault fault)) = Unit {0}
NoDeviceAtStart (Err (Ended number)) = Unit {0}
NoDeviceAtStart (Err (Device unit)) = ⊥

-- outside a transfer the call replies what its meaning gives, over any units, and no device fails
pub record AnswersStart (objects : List Object) (pointer : CValue) (result : Result Start CallEnd) : Type 0 where
  pub replies : (units : Units) → StartReplies (library (Begin internal_kind) (world_with objects None units) (pointer ∷ [])) objects units result
  pub no_device : NoDeviceAtStart result

-- `do_lio`
abbrev pub ItemsReply : Or Reply → List Object → Units → InternalInput → Result Passage CallEnd → Type 0
ItemsReply meaning objects units input (Ok GoesOn) = Stands meaning objects units input
ItemsReply meaning objects units input (Ok (Over number)) = meaning ≡ Ok (Gives number (world_with objects None units))
ItemsReply meaning objects units input (Err (Fault fault)) = meaning ≡ failing fault
ItemsReply meaning objects units input (Err (Ended number)) = meaning ≡ Ok (Stops (Io number) (world_with objects None units))
ItemsReply meaning objects units input (Err (Device unit)) = ⊥

-- for every transfer for which the input stood, the call replies what its meaning gives; objects keep their forms, and no device fails
pub record AnswersItems (arguments : List CValue) (input input' : InternalInput) (old new : List Object) (result : Result Passage CallEnd) : Type 0 where
  pub replies : (units : Units) → (transfer : Transfer) → StandsFor input transfer →
      ItemsReply (library do_lio (world_with old (Some transfer) units) arguments) new units input' result
  pub forms : SameForms old new
  pub no_device : NoDevice result

-- `e_rsli`: for every transfer for which the input stood
abbrev pub AnswersEnd : InternalInput → ℤ → Type 0
AnswersEnd input number =
    (objects : List Object) → (units : Units) → (transfer : Transfer) → StandsFor input transfer →
    library (Finish internal_kind) (world_with objects (Some transfer) units) [] ≡ Ok (Gives number (world_with objects None units))

-- the rest of a start, once its list is read
abbrev pub begins : List Object → Units → Control → Or Reply
begins objects units control = reading (new_transfer Input Listed control) (world_with objects None units)

pub record AnswersReading (control : InternalControl) (objects : List Object) (result : Result Start CallEnd) : Type 0 where
  pub replies : (units : Units) → StartReplies (begins objects units (internal_shown control)) objects units result
  pub no_device : NoDeviceAtStart result

abbrev pub start_of : Result ℤ CallEnd → Result Start CallEnd
start_of (Ok number) = Ok (Answers number)
start_of (Err end) = Err end
