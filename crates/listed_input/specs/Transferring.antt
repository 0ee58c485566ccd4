-- A list-directed input on a unit as the transfer in progress of the meaning of C texts, and what its calls answer
-- (ANSI X3.9-1978, 12.8 and 13.6.1).
use Rattle.std.specs.Prelude.{◌≡◌, ℤ, pos, false, List, [], ◌∷◌, Some, None, Result, Ok, Err}
use Rattle.c_tree.specs.run_state.Units.{Units}
use Rattle.c_tree.specs.declared.outcome.CValue.{CValue}
use Rattle.c_tree.specs.Faults.{Or, failing}
use Rattle.c_tree.specs.Objects.{Object}
use Rattle.c_tree.specs.World.{Input, Listed, Transfer, Reply, Gives, Stops, Io}
use Rattle.c_tree.specs.World as media
use Rattle.c_tree.specs.Transfers.{Control, unit_control, new_transfer}
use Rattle.c_tree.specs.TransferStarts.{reading}
use Rattle.c_tree.specs.Builtins.{ByList, OnUnit, TransferKind, transfer_kind, Begin, Finish, do_lio}
use Rattle.c_tree.specs.Library.{library}
use Rattle.f2c_outside.specs.Table.{Row}
use Rattle.f2c_outside.specs.Meaning.{Tells, units_of}
use Rattle.unit_answers.specs.declared.ends.CallEnd.{CallEnd}
use Rattle.unit_answers.specs.declared.ends.CallEnd.TheVariants.{Fault, Ended, Device}
use Rattle.unit_answers.specs.Failing.{FailedOn, NoneFailed}
use Rattle.unit_answers.specs.Answers.{world_with}
use Rattle.control_lists.specs.declared.controls.UnitControl.{UnitControl}
use Rattle.control_lists.specs.Controls.{unit_shown}
use Rattle.listed_output.specs.Writing.{StayedOn}
use Rattle.listed_input.specs.Reading.{place_of, StandsFar}
use Rattle.item_deeds.specs.Forms.{SameForms}
use Rattle.listed_output.specs.declared.calls.Passage.{Passage}
use Rattle.listed_output.specs.declared.calls.Passage.TheVariants.{GoesOn, Over}
use Rattle.listed_input.specs.declared.ends.InputEnd.{InputEnd}
use Rattle.listed_input.specs.declared.ends.InputEnd.TheVariants.{Call, Uncounted}
use Rattle.listed_input.specs.declared.calls.ListedInput.{ListedInput}
use Rattle.listed_input.specs.declared.calls.Start.{Start}
use Rattle.listed_input.specs.declared.calls.Start.TheVariants.{Begins, Answers}

-- list-directed input on a unit
abbrev pub listed_kind : TransferKind
listed_kind = transfer_kind Input ByList OnUnit

-- an input stands for a transfer: both are at one place of a record, or behind a slash
pub record StandsFor (input : ListedInput) (transfer : Transfer) : Type 0 where
  pub direction : transfer.direction ≡ Input
  pub layout : transfer.layout ≡ Listed
  pub medium : transfer.medium ≡ media.Unit input.unit
  pub on_error : transfer.on_error ≡ input.on_error
  pub on_end : transfer.on_end ≡ input.on_end
  pub slashed : transfer.slashed ≡ input.slashed
  pub place : input.slashed ≡ false → transfer.place ≡ place_of input.reading

-- a transfer begins or goes on, for which an input stands
pub record Stands (meaning : Or Reply) (objects : List Object) (units : Units) (input : ListedInput) : Type 0 where
  pub transfer : Transfer
  pub stands : StandsFor input transfer
  pub replies : meaning ≡ Ok (Gives (pos 0) (world_with objects (Some transfer) units))

-- `s_rsle`
abbrev pub StartReplies : Or Reply → List Object → Units → Result Start CallEnd → Type 0
StartReplies meaning objects units (Ok (Begins input)) = Stands meaning objects units input
StartReplies meaning objects units (Ok (Answers number)) = meaning ≡ Ok (Gives number (world_with objects None units))
StartReplies meaning objects units (Err (Fault fault)) = meaning ≡ failing fault
StartReplies meaning objects units (Err (Ended number)) = meaning ≡ Ok (Stops (Io number) (world_with objects None units))
StartReplies meaning objects units (Err (Device unit)) = Unit {0}

-- a control list names this unit
abbrev pub NamesUnit : Or Control → ℤ → Type 0
NamesUnit (Ok control) unit = control.medium ≡ media.Unit unit
NamesUnit (Err reason) unit = ⊥

-- the device of the unit of the start failed, or none did
abbrev pub StartDevice : (ℤ → Type 0) → List Row → List Row → Result Start CallEnd → Type 0
StartDevice Own old new (Ok start) = NoneFailed old new
StartDevice Own old new (Err (Fault fault)) = new ≡ old
StartDevice Own old new (Err (Ended number)) = NoneFailed old new
StartDevice Own old new (Err (Device unit)) = Own unit × FailedOn unit old new

-- where the devices tell their records, the call replies what its meaning gives over the units that the rows mean; the device of the unit
-- that its list names fails where it is answered, and nowhere else; at a fault the rows stay as they were
pub record AnswersStart (objects : List Object) (pointer : CValue) (old new : List Row) (result : Result Start CallEnd) : Type 0 where
  pub tells : Tells old → Tells new
  pub replies : Tells old →
      StartReplies (library (Begin listed_kind) (world_with objects None (units_of old)) (pointer ∷ [])) objects (units_of new) result
  pub devices : StartDevice (NamesUnit (unit_control objects pointer)) old new result

-- `e_rsle`: for every transfer for which the input stood
abbrev pub AnswersEnd : ListedInput → ℤ → Type 0
AnswersEnd input number =
    (objects : List Object) → (units : Units) → (transfer : Transfer) → StandsFor input transfer →
    library (Finish listed_kind) (world_with objects (Some transfer) units) [] ≡ Ok (Gives number (world_with objects None units))

-- what holds where more is to be counted than 64 bits tell
abbrev pub UncountedCall : Result Passage InputEnd → Type 0 → Type 0
UncountedCall (Ok passage) P = Unit {0}
UncountedCall (Err (Call end)) P = Unit {0}
UncountedCall (Err Uncounted) P = P

-- `do_lio`
abbrev pub ItemsReply : Or Reply → List Object → Units → ListedInput → Result Passage InputEnd → Type 0
ItemsReply meaning objects units input (Ok GoesOn) = Stands meaning objects units input
ItemsReply meaning objects units input (Ok (Over number)) = meaning ≡ Ok (Gives number (world_with objects None units))
ItemsReply meaning objects units input (Err (Call (Fault fault))) = meaning ≡ failing fault
ItemsReply meaning objects units input (Err (Call (Ended number))) = meaning ≡ Ok (Stops (Io number) (world_with objects None units))
ItemsReply meaning objects units input (Err (Call (Device unit))) = Unit {0}
ItemsReply meaning objects units input (Err Uncounted) = Unit {0}

abbrev pub ItemsDevice : ListedInput → List Row → List Row → Result Passage InputEnd → Type 0
ItemsDevice input old new (Ok passage) = NoneFailed old new
ItemsDevice input old new (Err (Call (Fault fault))) = StayedOn input.unit old new
ItemsDevice input old new (Err (Call (Ended number))) = NoneFailed old new
ItemsDevice input old new (Err (Call (Device unit))) = (unit ≡ input.unit) × FailedOn unit old new
ItemsDevice input old new (Err Uncounted) = NoneFailed old new

-- for every transfer for which the input stood, the call replies what its meaning gives; the device of its unit fails where it is
-- answered, and nowhere else; at a fault no other unit has changed; more is to be counted than 64 bits tell only where the unit stands
-- behind 2^53 records or more then; the objects keep their forms
pub record AnswersItems (objects objects' : List Object) (arguments : List CValue) (input input' : ListedInput) (old new : List Row) (result : Result Passage InputEnd) : Type 0 where
  pub tells : Tells old → Tells new
  pub replies : Tells old → (transfer : Transfer) → StandsFor input transfer →
      ItemsReply (library do_lio (world_with objects (Some transfer) (units_of old)) arguments) objects' (units_of new) input' result
  pub devices : ItemsDevice input old new result
  pub uncounted : UncountedCall result (StandsFar input.unit new)
  pub forms : SameForms objects objects'

-- the rest of a start whose unit is connected
abbrev pub begins : List Object → Units → Control → Or Reply
begins objects units control = reading (new_transfer Input Listed control) (world_with objects None units)

pub record AnswersReading (control : UnitControl) (objects : List Object) (old new : List Row) (result : Result Start CallEnd) : Type 0 where
  pub tells : Tells old → Tells new
  pub replies : Tells old → StartReplies (begins objects (units_of old) (unit_shown control)) objects (units_of new) result
  pub devices : StartDevice (λ unit. unit ≡ control.unit) old new result

abbrev pub start_of : Result ℤ CallEnd → Result Start CallEnd
start_of (Ok number) = Ok (Answers number)
start_of (Err end) = Err end
