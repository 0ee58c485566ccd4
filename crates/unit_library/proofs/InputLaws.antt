-- List-directed input on a unit: its start, its items and its end (ANSI X3.9-1978, 12.8 and 13.6.1).
use Rattle.std.proofs.Common.{◌≡◌, ℤ, List, [], ◌∷◌, Option, Some, None, refl, ap}
use Rattle.std.specs.Prelude.{Result, Ok, Err}
use Rattle.c_tree.specs.declared.outcome.CValue.{CValue}
use Rattle.c_tree.specs.Objects.{Object}
use Rattle.c_tree.specs.Builtins.{ByList, Begin, Finish, do_lio}
use Rattle.c_tree.specs.TransferCalls.{is_style}
use Rattle.item_deeds.proofs.FormLaws.{same-objects}
use Rattle.f2c_outside.specs.Table.{Row}
use Rattle.f2c_outside.specs.Meaning.{units_of}
use Rattle.unit_answers.specs.declared.ends.CallEnd.{CallEnd}
use Rattle.unit_answers.specs.declared.ends.CallEnd.TheVariants.{Fault, Ended, Device}
use Rattle.unit_answers.proofs.FailureLaws.{none-failed}
use Rattle.listed_output.specs.declared.calls.Passage.{Passage}
use Rattle.listed_output.specs.declared.calls.Passage.TheVariants.{GoesOn, Over}
use Rattle.listed_input.specs.declared.ends.InputEnd.{InputEnd}
use Rattle.listed_input.specs.declared.ends.InputEnd.TheVariants.{Call, Uncounted}
use Rattle.listed_input.specs.declared.calls.ListedInput.{ListedInput}
use Rattle.listed_input.specs.declared.calls.Start.{Start}
use Rattle.listed_input.specs.declared.calls.Start.TheVariants.{Begins, Answers}
use Rattle.listed_input.specs.Transferring.{AnswersStart, AnswersItems, AnswersEnd}
use Rattle.run_library.specs.declared.library.LibraryReply.TheVariants as reply
use Rattle.unit_library.specs.declared.functions.TransferType.TheVariants as moved
use Rattle.unit_library.specs.declared.transfers.TransferInProgress.{TransferInProgress}
use Rattle.unit_library.specs.declared.transfers.TransferInProgress.TheVariants as going
use Rattle.unit_library.specs.Functions.{kind_of}
use Rattle.unit_library.specs.Inputs.{behind_start, started_by, behind_items, passed_by}
use Rattle.unit_library.specs.Replies.{CallResult}
use Rattle.unit_library.specs.Calls.{Calls}
use Rattle.unit_library.proofs.NamedUnits.{start-names}
use Rattle.unit_library.proofs.GivenCalls.{inside, outside, ended-inside, ended-outside, breaks-moved}
use Rattle.unit_library.proofs.SameCalls.{calls-as}

-- STARTS
start-called : (objects : List Object) (pointer : CValue) (old new : List Row) (start : Result Start CallEnd) → AnswersStart objects pointer old new start →
    Calls (Begin (kind_of moved.ListedInput)) (pointer ∷ []) objects objects None (behind_start start) old new (started_by start)
start-called objects pointer old new (Ok (Begins input)) on =
    outside (started_by (Ok (Begins input))) on.tells
    (λ tells. let begun = on.replies tells in record { transfer = Some begun.transfer; in_progress = begun.stands; holds = begun.replies }) on.devices (same-objects objects)
start-called objects pointer old new (Ok (Answers number)) on = ended-outside (Ok number) on.tells on.replies on.devices (same-objects objects)
start-called objects pointer old new (Err (Fault why)) on = ended-outside (Err (Fault why)) on.tells on.replies on.devices (same-objects objects)
start-called objects pointer old new (Err (Ended number)) on = ended-outside (Err (Ended number)) on.tells on.replies on.devices (same-objects objects)
start-called objects pointer old new (Err (Device unit)) on =
    ended-outside (Err (Device unit)) on.tells (λ tells. tt) (start-names objects pointer unit on.devices.0, on.devices.1) (same-objects objects)

pub start-input : (arguments' : List CValue) (objects : List Object) (pointer : CValue) (old new : List Row) (start : Result Start CallEnd) (held held' : Option TransferInProgress)
    (result : CallResult) → pointer ∷ [] ≡ arguments' → held ≡ None → held' ≡ behind_start start → result ≡ started_by start → AnswersStart objects pointer old new start →
    Calls (Begin (kind_of moved.ListedInput)) arguments' objects objects held held' old new result
start-input arguments' objects pointer old new start held held' result same none behind is answers =
    calls-as (pointer ∷ []) arguments' held None held' (behind_start start) result (started_by start) same none behind is (start-called objects pointer old new start answers)

-- ITEMS
items-called : (arguments : List CValue) (input input' : ListedInput) (objects objects' : List Object) (old new : List Row) (passage : Result Passage InputEnd) →
    AnswersItems objects objects' arguments input input' old new passage →
    Calls do_lio arguments objects objects' (Some (going.ListedInput input)) (behind_items passage input input') old new (passed_by passage)
items-called arguments input input' objects objects' old new (Ok GoesOn) on =
    inside (passed_by (Ok GoesOn)) on.tells
    (λ tells transfer stands. let goes = on.replies tells transfer stands in record { transfer = Some goes.transfer; in_progress = goes.stands; holds = goes.replies }) on.devices on.forms
items-called arguments input input' objects objects' old new (Ok (Over number)) on = ended-inside (Ok number) on.tells on.replies on.devices on.forms
items-called arguments input input' objects objects' old new (Err (Call (Fault why))) on =
    inside (passed_by (Err (Call (Fault why)))) on.tells (λ tells transfer stands. record { transfer = Some transfer; in_progress = stands; holds = on.replies tells transfer stands })
    (breaks-moved do_lio (going.ListedInput input) input.unit old new refl (λ transfer stands. ap (is_style ByList) stands.layout) on.devices) on.forms
items-called arguments input input' objects objects' old new (Err (Call (Ended number))) on = ended-inside (Err (Ended number)) on.tells on.replies on.devices on.forms
items-called arguments input input' objects objects' old new (Err (Call (Device unit))) on =
    ended-inside (Err (Device unit)) on.tells (λ tells transfer stands. tt) (record { own = on.devices.0; failed = on.devices.1; called_on = λ transfer. refl }) on.forms
items-called arguments input input' objects objects' old new (Err Uncounted) on = inside (passed_by (Err Uncounted)) on.tells (λ tells transfer stands. tt)
    (on.devices, record { unit = input.unit; own = refl; called_on = λ transfer. refl; far = on.uncounted }) on.forms

pub items-read : (arguments arguments' : List CValue) (input input' : ListedInput) (objects objects' : List Object) (old new : List Row) (passage : Result Passage InputEnd)
    (held held' : Option TransferInProgress) (result : CallResult) → arguments ≡ arguments' → held ≡ Some (going.ListedInput input) → held' ≡ behind_items passage input input' →
    result ≡ passed_by passage → AnswersItems objects objects' arguments input input' old new passage → Calls do_lio arguments' objects objects' held held' old new result
items-read arguments arguments' input input' objects objects' old new passage held held' result same holds behind is on =
    calls-as arguments arguments' held (Some (going.ListedInput input)) held' (behind_items passage input input') result (passed_by passage) same holds behind is
    (items-called arguments input input' objects objects' old new passage on)

-- ENDS
pub finish-input : (input : ListedInput) (number said : ℤ) (held : Option TransferInProgress) → held ≡ Some (going.ListedInput input) → said ≡ number → AnswersEnd input number →
    (objects : List Object) → (rows : List Row) → Calls (Finish (kind_of moved.ListedInput)) [] objects objects held None rows rows (Ok (reply.Gives said))
finish-input input number said held holds is answers objects rows =
    calls-as [] [] held (Some (going.ListedInput input)) None None (Ok (reply.Gives said)) (Ok (reply.Gives number)) refl holds refl (ap (λ (n : ℤ). Ok (reply.Gives n)) is)
    (ended-inside (Ok number) (λ tells. tells) (λ tells transfer stands. answers objects (units_of rows) transfer stands) (none-failed rows) (same-objects objects))
