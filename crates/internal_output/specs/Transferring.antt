-- A list-directed output on an internal file as the transfer in progress of the meaning of C texts, and what its calls answer
-- (ANSI X3.9-1978, 12.2.5, 12.8 and 13.6.2).
use Rattle.std.specs.Prelude.{◌≡◌, ℕ, ℤ, pos, List, [], ◌∷◌, length, Some, None, Result, Ok, Err}
use Rattle.c_tree.specs.run_state.Units.{Units}
use Rattle.c_tree.specs.declared.outcome.CValue.{CValue}
use Rattle.c_tree.specs.declared.outcome.CFault.{CFault}
use Rattle.c_tree.specs.Faults.{Or, failing}
use Rattle.c_tree.specs.Objects.{Object}
use Rattle.c_tree.specs.World.{Output, Listed, Internal, Transfer, Reply, Gives, Stops, Io}
use Rattle.c_tree.specs.Builtins.{ByList, InMemory, TransferKind, transfer_kind, Begin, Finish, do_lio}
use Rattle.c_tree.specs.Library.{library}
use Rattle.edit_rules.specs.edit_meaning.Listed.{listing}
use Rattle.edit_rules.specs.Writer.{making_of}
use Rattle.item_deeds.specs.Forms.{SameForms}
use Rattle.unit_answers.specs.declared.ends.CallEnd.{CallEnd}
use Rattle.unit_answers.specs.declared.ends.CallEnd.TheVariants.{Fault, Ended, Device}
use Rattle.unit_answers.specs.Answers.{world_with, Replies, IfDevice}
use Rattle.control_lists.specs.declared.controls.InternalControl.{InternalControl}
use Rattle.control_lists.specs.Controls.{file_shown}
use Rattle.listed_output.specs.declared.calls.Passage.{Passage}
use Rattle.listed_output.specs.declared.calls.Passage.TheVariants.{GoesOn, Over}
use Rattle.internal_output.specs.declared.calls.InternalOutput.{InternalOutput}
use Rattle.internal_output.specs.Files.{file_of}

-- list-directed output on an internal file
abbrev pub internal_kind : TransferKind
internal_kind = transfer_kind Output ByList InMemory

-- the record in the making of an output
abbrev pub making_in : InternalOutput → List ℕ
making_in output = making_of output.making.writer output.making.line

-- an output stands for a transfer: its line begins with the record in the making of the values so far, and the complete records of
-- these are stored
pub record StandsFor (output : InternalOutput) (transfer : Transfer) : Type 0 where
  pub direction : transfer.direction ≡ Output
  pub layout : transfer.layout ≡ Listed
  pub medium : transfer.medium ≡ Internal (file_of output.file)
  pub on_error : transfer.on_error ≡ output.on_error
  pub on_end : transfer.on_end ≡ output.on_end
  pub written : transfer.written ≡ length (listing transfer.values).complete
  pub making : (listing transfer.values).making ≡ making_in output

-- a transfer begins or goes on, for which an output stands
pub record Stands (meaning : Or Reply) (objects : List Object) (units : Units) (output : InternalOutput) : Type 0 where
  pub transfer : Transfer
  pub stands : StandsFor output transfer
  pub replies : meaning ≡ Ok (Gives (pos 0) (world_with objects (Some transfer) units))

-- `s_wsli`
abbrev pub StartReplies : Or Reply → List Object → Units → Result InternalOutput CFault → Type 0
StartReplies meaning objects units (Ok output) = Stands meaning objects units output
StartReplies meaning objects units (Err fault) = meaning ≡ failing fault

abbrev pub AnswersStart : List Object → CValue → Result InternalOutput CFault → Type 0
AnswersStart objects pointer result =
    (units : Units) → StartReplies (library (Begin internal_kind) (world_with objects None units) (pointer ∷ [])) objects units result

-- `do_lio`
abbrev pub ItemsReply : Or Reply → List Object → Units → InternalOutput → Result Passage CallEnd → Type 0
ItemsReply meaning objects units output (Ok GoesOn) = Stands meaning objects units output
ItemsReply meaning objects units output (Ok (Over number)) = meaning ≡ Ok (Gives number (world_with objects None units))
ItemsReply meaning objects units output (Err (Fault fault)) = meaning ≡ failing fault
ItemsReply meaning objects units output (Err (Ended number)) = meaning ≡ Ok (Stops (Io number) (world_with objects None units))
ItemsReply meaning objects units output (Err (Device unit)) = ⊥

abbrev pub NoDevice : Result Passage CallEnd → Type 0
NoDevice (Ok passage) = Unit {0}
NoDevice (Err (Fault fault)) = Unit {0}
NoDevice (Err (Ended number)) = Unit {0}
NoDevice (Err (Device unit)) = ⊥

-- for every transfer for which the output stood, the call replies what its meaning gives; objects keep their forms, and no device fails
pub record AnswersItems (arguments : List CValue) (output output' : InternalOutput) (old new : List Object) (result : Result Passage CallEnd) : Type 0 where
  pub replies : (units : Units) → (transfer : Transfer) → StandsFor output transfer →
      ItemsReply (library do_lio (world_with old (Some transfer) units) arguments) new units output' result
  pub forms : SameForms old new
  pub no_device : NoDevice result

-- `e_wsli`
pub record AnswersEnd (output : InternalOutput) (old new : List Object) (result : Result ℤ CallEnd) : Type 0 where
  pub replies : (units : Units) → (transfer : Transfer) → StandsFor output transfer →
      Replies (library (Finish internal_kind) (world_with old (Some transfer) units) []) (world_with new None units) result
  pub forms : SameForms old new
  pub no_device : IfDevice result (λ unit. ⊥) (Unit {0})

-- an output as it begins: no record is behind, and its record in the making holds the first blank
pub record IsBegun (control : InternalControl) (output : InternalOutput) : Type 0 where
  pub file : file_of output.file ≡ file_shown control
  pub on_error : output.on_error ≡ control.on_error
  pub on_end : output.on_end ≡ control.on_end
  pub making : making_in output ≡ 32 ∷ []
