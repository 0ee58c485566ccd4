-- A list-directed output on a unit as the transfer in progress of the meaning of C texts, and what its calls answer
-- (ANSI X3.9-1978, 12.8 and 13.6.2).
use Rattle.std.specs.Prelude.{◌≡◌, ℕ, ℤ, pos, List, [], ◌∷◌, length, Some, None, Result, Ok, Err}
use Rattle.c_tree.specs.run_state.Units.{Units}
use Rattle.c_tree.specs.declared.outcome.CValue.{CValue}
use Rattle.c_tree.specs.declared.outcome.CFault.{CFault}
use Rattle.c_tree.specs.Faults.{Or, after, failing}
use Rattle.c_tree.specs.Objects.{Object}
use Rattle.c_tree.specs.World.{Output, Listed, Transfer, Reply, Gives, Stops, Io}
use Rattle.c_tree.specs.World as media
use Rattle.c_tree.specs.Builtins.{ByList, OnUnit, TransferKind, transfer_kind, Begin, Finish, do_lio}
use Rattle.c_tree.specs.Library.{library}
use Rattle.c_tree.specs.TransferOutput.{items_at}
use Rattle.edit_rules.specs.edit_meaning.Listed.{ListedValue, listing}
use Rattle.edit_rules.specs.Writer.{making_of}
use Rattle.f2c_outside.specs.Table.{Row}
use Rattle.f2c_outside.specs.Meaning.{Tells, units_of}
use Rattle.unit_answers.specs.declared.ends.CallEnd.{CallEnd}
use Rattle.unit_answers.specs.declared.ends.CallEnd.TheVariants.{Fault, Ended, Device}
use Rattle.unit_answers.specs.Failing.{FailedOn, NoneFailed}
use Rattle.unit_answers.specs.Answers.{world_with, Replies, IfDevice}
use Rattle.control_lists.specs.declared.controls.UnitControl.{UnitControl}
use Rattle.listed_output.specs.declared.kinds.ItemList.{ItemList}
use Rattle.listed_output.specs.Items.{list_shown, items_given}
use Rattle.listed_output.specs.Kinds.{kind_shown}
use Rattle.listed_output.specs.declared.calls.ListedOutput.{ListedOutput}
use Rattle.listed_output.specs.declared.calls.Start.{Start}
use Rattle.listed_output.specs.declared.calls.Start.TheVariants.{Begins, Answers}
use Rattle.listed_output.specs.declared.calls.Passage.{Passage}
use Rattle.listed_output.specs.declared.calls.Passage.TheVariants.{GoesOn, Over}

-- list-directed output on a unit
abbrev pub listed_kind : TransferKind
listed_kind = transfer_kind Output ByList OnUnit

-- the record in the making of an output
abbrev pub making_in : ListedOutput → List ℕ
making_in output = making_of output.making.writer output.making.line

-- an output stands for a transfer: its line begins with the record in the making of the values so far, and the complete records of
-- these are written
pub record StandsFor (output : ListedOutput) (transfer : Transfer) : Type 0 where
  pub direction : transfer.direction ≡ Output
  pub layout : transfer.layout ≡ Listed
  pub medium : transfer.medium ≡ media.Unit output.unit
  pub on_error : transfer.on_error ≡ output.on_error
  pub on_end : transfer.on_end ≡ output.on_end
  pub written : transfer.written ≡ length (listing transfer.values).complete
  pub making : (listing transfer.values).making ≡ making_in output

-- a transfer begins or goes on, for which an output stands
pub record Stands (meaning : Or Reply) (objects : List Object) (units : Units) (output : ListedOutput) : Type 0 where
  pub transfer : Transfer
  pub stands : StandsFor output transfer
  pub replies : meaning ≡ Ok (Gives (pos 0) (world_with objects (Some transfer) units))

-- `s_wsle`
abbrev pub StartReplies : Or Reply → List Object → Units → Result Start CallEnd → Type 0
StartReplies meaning objects units (Ok (Begins output)) = Stands meaning objects units output
StartReplies meaning objects units (Ok (Answers number)) = meaning ≡ Ok (Gives number (world_with objects None units))
StartReplies meaning objects units (Err (Fault fault)) = meaning ≡ failing fault
StartReplies meaning objects units (Err (Ended number)) = meaning ≡ Ok (Stops (Io number) (world_with objects None units))
StartReplies meaning objects units (Err (Device unit)) = ⊥

abbrev pub AnswersStart : List Object → CValue → List Row → Result Start CallEnd → Type 0
AnswersStart objects pointer rows result =
    StartReplies (library (Begin listed_kind) (world_with objects None (units_of rows)) (pointer ∷ [])) objects (units_of rows) result

-- `do_lio`
abbrev pub ItemsReply : Or Reply → List Object → Units → ListedOutput → Result Passage CallEnd → Type 0
ItemsReply meaning objects units output (Ok GoesOn) = Stands meaning objects units output
ItemsReply meaning objects units output (Ok (Over number)) = meaning ≡ Ok (Gives number (world_with objects None units))
ItemsReply meaning objects units output (Err (Fault fault)) = meaning ≡ failing fault
ItemsReply meaning objects units output (Err (Ended number)) = meaning ≡ Ok (Stops (Io number) (world_with objects None units))
ItemsReply meaning objects units output (Err (Device unit)) = Unit {0}

abbrev pub ItemsDevice : ListedOutput → List Row → List Row → Result Passage CallEnd → Type 0
ItemsDevice output old new (Ok passage) = NoneFailed old new
ItemsDevice output old new (Err (Fault fault)) = new ≡ old
ItemsDevice output old new (Err (Ended number)) = NoneFailed old new
ItemsDevice output old new (Err (Device unit)) = (unit ≡ output.unit) × FailedOn unit old new

-- for every transfer for which the output stood, the call replies what its meaning gives; the device of its unit fails where it is
-- answered, and nowhere else
pub record AnswersItems (objects : List Object) (arguments : List CValue) (output output' : ListedOutput) (old new : List Row) (result : Result Passage CallEnd) : Type 0 where
  pub tells : Tells old → Tells new
  pub replies : Tells old → (transfer : Transfer) → StandsFor output transfer →
      ItemsReply (library do_lio (world_with objects (Some transfer) (units_of old)) arguments) objects (units_of new) output' result
  pub devices : ItemsDevice output old new result

-- `e_wsle`
pub record AnswersEnd (output : ListedOutput) (old new : List Row) (result : Result ℤ CallEnd) : Type 0 where
  pub tells : Tells old → Tells new
  pub replies : Tells old → (objects : List Object) → (transfer : Transfer) → StandsFor output transfer →
      Replies (library (Finish listed_kind) (world_with objects (Some transfer) (units_of old)) []) (world_with objects None (units_of new)) result
  pub devices : IfDevice result (λ unit. (unit ≡ output.unit) × FailedOn unit old new) (NoneFailed old new)

-- an output as it begins: its record in the making holds the first blank
pub record IsBegun (control : UnitControl) (output : ListedOutput) : Type 0 where
  pub unit : output.unit ≡ control.unit
  pub on_error : output.on_error ≡ control.on_error
  pub on_end : output.on_end ≡ control.on_end
  pub making : making_in output ≡ 32 ∷ []

-- all items of a call are there, or its first fault
abbrev pub IsReady : List Object → CValue → CValue → CValue → CValue → Result ItemList CFault → Type 0
IsReady objects kind count first size (Ok list) =
    (items_given objects kind count size ≡ Ok (list_shown list)) × (values : List ListedValue) × (items_at (kind_shown list.kind) objects list.size list.count first ≡ Ok values)
IsReady objects kind count first size (Err fault) =
    after (items_given objects kind count size) (λ given. items_at given.kind objects given.size given.count first) ≡ failing fault

abbrev pub over_by : Result ℤ CallEnd → Result Passage CallEnd
over_by (Ok number) = Ok (Over number)
over_by (Err end) = Err end

abbrev pub start_of : Result ℤ CallEnd → Result Start CallEnd
start_of (Ok number) = Ok (Answers number)
start_of (Err end) = Err end
