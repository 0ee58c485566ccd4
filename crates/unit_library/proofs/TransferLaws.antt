-- Starts and ends of transfers (ANSI X3.9-1978, 12.8).
use Rattle.std.proofs.Common.{◌≡◌, ℤ, List, [], ◌∷◌, Option, Some, None, refl}
use Rattle.std.specs.Prelude.{Result, Ok, Err}
use Rattle.c_tree.specs.run_state.Units.{Units}
use Rattle.c_tree.specs.declared.outcome.CValue.{CValue}
use Rattle.c_tree.specs.declared.outcome.CFault.TheVariants as fault
use Rattle.c_tree.specs.Faults.{failing}
use Rattle.c_tree.specs.Objects.{Object}
use Rattle.c_tree.specs.World.{Transfer}
use Rattle.c_tree.specs.Builtins.{Builtin, Begin, Finish, TransferKind}
use Rattle.c_tree.specs.Library.{library}
use Rattle.c_tree.specs.TransferStarts.{starts}
use Rattle.c_tree.specs.TransferCalls.{ends}
use Rattle.item_deeds.specs.Deeds.{world_of}
use Rattle.item_deeds.proofs.FormLaws.{same-objects}
use Rattle.f2c_outside.specs.Table.{Row}
use Rattle.f2c_outside.specs.Meaning.{units_of}
use Rattle.unit_answers.specs.declared.ends.CallEnd.{CallEnd}
use Rattle.unit_answers.specs.declared.ends.CallEnd.TheVariants.{Fault, Ended, Device}
use Rattle.unit_answers.proofs.FailureLaws.{none-failed}
use Rattle.listed_output.specs.declared.calls.ListedOutput.{ListedOutput}
use Rattle.listed_output.specs.declared.calls.Start.{Start}
use Rattle.listed_output.specs.declared.calls.Start.TheVariants.{Begins, Answers}
use Rattle.listed_output.specs.Transferring.{AnswersStart, AnswersEnd}
use Rattle.unit_library.specs.declared.functions.TransferType.{TransferType}
use Rattle.unit_library.specs.declared.functions.TransferType.TheVariants as moved
use Rattle.unit_library.specs.declared.transfers.TransferInProgress.{TransferInProgress}
use Rattle.unit_library.specs.declared.transfers.TransferInProgress.TheVariants as going
use Rattle.unit_library.specs.Functions.{kind_of}
use Rattle.unit_library.specs.Transfers.{behind_start}
use Rattle.unit_library.specs.Replies.{CallResult, broken_by, ended_by, started_by}
use Rattle.unit_library.specs.Calls.{Calls}
use Rattle.unit_library.proofs.ListedEnds.{ends-well}
use Rattle.unit_library.proofs.GivenCalls.{outside, fault-inside, fault-outside, EndsInside, ended-inside, ended-outside}
use Rattle.unit_library.proofs.SameCalls.{arguments-same, calls-as}

-- STARTS
begins-inside : (kind : TransferKind) (objects : List Object) (pointer : CValue) (units : Units) (transfer : Transfer) →
    library (Begin kind) (world_of objects units (Some transfer)) (pointer ∷ []) ≡ failing fault.Library
unfolding library starts
begins-inside kind objects pointer units transfer = refl

-- for any one argument
one-argument : (builtin : Builtin) (objects : List Object) (held : TransferInProgress) (rows : List Row) (arguments' : List CValue) (pointer : CValue) (result : CallResult) →
    pointer ∷ [] ≡ arguments' → result ≡ broken_by fault.Library →
    ((units : Units) → (transfer : Transfer) → library builtin (world_of objects units (Some transfer)) (pointer ∷ []) ≡ failing fault.Library) →
    Calls builtin arguments' objects objects (Some held) (Some held) rows rows result
one-argument builtin objects held rows arguments' pointer result same is fails =
    arguments-same builtin (pointer ∷ []) arguments' objects objects (Some held) (Some held) rows rows (broken_by fault.Library) result same is
    (fault-inside builtin (pointer ∷ []) objects held rows fault.Library fails)

pub begin-inside : (which : TransferType) (arguments' : List CValue) (objects : List Object) (pointer : CValue) (held : TransferInProgress) (rows : List Row) (result : CallResult) →
    pointer ∷ [] ≡ arguments' → result ≡ broken_by fault.Library →
    Calls (Begin (kind_of which)) arguments' objects objects (Some held) (Some held) rows rows result
begin-inside which arguments' objects pointer held rows result same is =
    one-argument (Begin (kind_of which)) objects held rows arguments' pointer result same is (begins-inside (kind_of which) objects pointer)

start-called : (objects : List Object) (pointer : CValue) (rows : List Row) (start : Result Start CallEnd) → AnswersStart objects pointer rows start →
    Calls (Begin (kind_of moved.ListedOutput)) (pointer ∷ []) objects objects None (behind_start start) rows rows (started_by start)
start-called objects pointer rows (Ok (Begins output)) begun =
    outside (started_by (Ok (Begins output))) (λ tells. tells) (λ tells. record { transfer = Some begun.transfer; in_progress = begun.stands; holds = begun.replies }) (none-failed rows)
    (same-objects objects)
start-called objects pointer rows (Ok (Answers number)) replies = ended-outside (Ok number) (λ tells. tells) (λ tells. replies) (none-failed rows) (same-objects objects)
start-called objects pointer rows (Err (Fault why)) replies = ended-outside (Err (Fault why)) (λ tells. tells) (λ tells. replies) refl (same-objects objects)
start-called objects pointer rows (Err (Ended number)) replies = ended-outside (Err (Ended number)) (λ tells. tells) (λ tells. replies) (none-failed rows) (same-objects objects)
start-called objects pointer rows (Err (Device unit)) replies = absurd replies

pub start-listed : (arguments' : List CValue) (objects : List Object) (pointer : CValue) (rows : List Row) (start : Result Start CallEnd) (held held' : Option TransferInProgress)
    (result : CallResult) → pointer ∷ [] ≡ arguments' → held ≡ None → held' ≡ behind_start start → result ≡ started_by start → AnswersStart objects pointer rows start →
    Calls (Begin (kind_of moved.ListedOutput)) arguments' objects objects held held' rows rows result
start-listed arguments' objects pointer rows start held held' result same none behind is answers =
    calls-as (pointer ∷ []) arguments' held None held' (behind_start start) result (started_by start) same none behind is (start-called objects pointer rows start answers)

-- ENDS
ends-outside : (kind : TransferKind) (objects : List Object) (units : Units) → library (Finish kind) (world_of objects units None) [] ≡ failing fault.Library
unfolding library ends
ends-outside kind objects units = refl

pub finish-outside : (which : TransferType) (rows : List Row) (result : CallResult) → result ≡ broken_by fault.Library →
    (objects : List Object) → Calls (Finish (kind_of which)) [] objects objects None None rows rows result
finish-outside which rows result is objects =
    arguments-same (Finish (kind_of which)) [] [] objects objects None None rows rows (broken_by fault.Library) result refl is
    (fault-outside (Finish (kind_of which)) [] objects rows fault.Library (ends-outside (kind_of which) objects))

ends-listed : (output : ListedOutput) (objects : List Object) (old new : List Row) (answer : Result ℤ CallEnd) → AnswersEnd output old new answer →
    EndsInside (Finish (kind_of moved.ListedOutput)) [] objects (going.ListedOutput output) old new answer
ends-listed output objects old new (Ok number) on = on.devices
ends-listed output objects old new (Err (Fault why)) on =
    record { none = on.devices; rows = λ tells transfer stands. absurd (ends-well output objects (units_of old) transfer why stands (on.replies tells objects transfer stands)) }
ends-listed output objects old new (Err (Ended number)) on = on.devices
ends-listed output objects old new (Err (Device unit)) on = record { own = on.devices.0; failed = on.devices.1; called_on = λ transfer. refl }

pub finish-listed : (output : ListedOutput) (old new : List Row) (answer : Result ℤ CallEnd) (held : Option TransferInProgress) (result : CallResult) →
    held ≡ Some (going.ListedOutput output) → result ≡ ended_by answer → AnswersEnd output old new answer → (objects : List Object) →
    Calls (Finish (kind_of moved.ListedOutput)) [] objects objects held None old new result
finish-listed output old new answer held result holds is on objects =
    calls-as [] [] held (Some (going.ListedOutput output)) None None result (ended_by answer) refl holds refl is
    (ended-inside answer on.tells (λ tells transfer stands. on.replies tells objects transfer stands) (ends-listed output objects old new answer on) (same-objects objects))
