-- List-directed output on an internal file: its start, its items and its end (ANSI X3.9-1978, 12.2.5, 12.8 and 13.6.2).
use Rattle.std.proofs.Common.{◌≡◌, ℤ, pos, List, [], ◌∷◌, Option, Some, None, refl}
use Rattle.std.specs.Prelude.{Result, Ok, Err}
use Rattle.c_tree.specs.declared.outcome.CValue.{CValue}
use Rattle.c_tree.specs.declared.outcome.CFault.{CFault}
use Rattle.c_tree.specs.Objects.{Object}
use Rattle.c_tree.specs.Builtins.{Begin, Finish, do_lio}
use Rattle.item_deeds.proofs.FormLaws.{same-objects}
use Rattle.f2c_outside.specs.Table.{Row}
use Rattle.f2c_outside.specs.Meaning.{units_of}
use Rattle.unit_answers.specs.declared.ends.CallEnd.{CallEnd}
use Rattle.unit_answers.specs.declared.ends.CallEnd.TheVariants.{Fault, Ended, Device}
use Rattle.unit_answers.proofs.FailureLaws.{none-failed}
use Rattle.listed_output.specs.declared.calls.Passage.{Passage}
use Rattle.listed_output.specs.declared.calls.Passage.TheVariants.{GoesOn, Over}
use Rattle.internal_output.specs.declared.calls.InternalOutput.{InternalOutput}
use Rattle.internal_output.specs.Transferring.{AnswersStart, AnswersItems, AnswersEnd}
use Rattle.run_library.specs.declared.library.LibraryReply.TheVariants as reply
use Rattle.unit_library.specs.declared.functions.TransferType.TheVariants as moved
use Rattle.unit_library.specs.declared.transfers.TransferInProgress.{TransferInProgress}
use Rattle.unit_library.specs.declared.transfers.TransferInProgress.TheVariants as going
use Rattle.unit_library.specs.Functions.{kind_of}
use Rattle.unit_library.specs.Transfers.{behind_items}
use Rattle.unit_library.specs.Replies.{CallResult, broken_by, ended_by, passed_by}
use Rattle.unit_library.specs.Calls.{Calls}
use Rattle.unit_library.proofs.GivenCalls.{inside, outside, fault-outside, ended-inside, no-device, breaks-still}
use Rattle.unit_library.proofs.SameCalls.{calls-as}

-- STARTS
pub start-begins : (arguments' : List CValue) (objects : List Object) (pointer : CValue) (output : InternalOutput) (held : Option TransferInProgress) → pointer ∷ [] ≡ arguments' →
    held ≡ None → AnswersStart objects pointer (Ok output) → (rows : List Row) →
    Calls (Begin (kind_of moved.InternalListedOutput)) arguments' objects objects held (Some (going.InternalOutput output)) rows rows (Ok (reply.Gives (pos 0)))
start-begins arguments' objects pointer output held same none begun rows =
    let starts = begun (units_of rows) in
    calls-as (pointer ∷ []) arguments' held None (Some (going.InternalOutput output)) (Some (going.InternalOutput output)) (Ok (reply.Gives (pos 0))) (Ok (reply.Gives (pos 0))) same none refl refl
    (outside (Ok (reply.Gives (pos 0))) (λ tells. tells) (λ tells. record { transfer = Some starts.transfer; in_progress = starts.stands; holds = starts.replies }) (none-failed rows)
    (same-objects objects))

pub start-faulty : (arguments' : List CValue) (objects : List Object) (pointer : CValue) (why : CFault) (held : Option TransferInProgress) (result : CallResult) → pointer ∷ [] ≡ arguments' →
    held ≡ None → result ≡ broken_by why → AnswersStart objects pointer (Err why) → (rows : List Row) →
    Calls (Begin (kind_of moved.InternalListedOutput)) arguments' objects objects held held rows rows result
start-faulty arguments' objects pointer why held result same none is fails rows =
    calls-as (pointer ∷ []) arguments' held None held None result (broken_by why) same none none is
    (fault-outside (Begin (kind_of moved.InternalListedOutput)) (pointer ∷ []) objects rows why fails)

-- ITEMS
items-called : (arguments : List CValue) (output output' : InternalOutput) (old new : List Object) (rows : List Row) (passage : Result Passage CallEnd) →
    AnswersItems arguments output output' old new passage →
    Calls do_lio arguments old new (Some (going.InternalOutput output)) (behind_items passage (going.InternalOutput output) (going.InternalOutput output')) rows rows (passed_by passage)
items-called arguments output output' old new rows (Ok GoesOn) on =
    inside (passed_by (Ok GoesOn)) (λ tells. tells)
    (λ tells transfer stands. let goes = on.replies (units_of rows) transfer stands in record { transfer = Some goes.transfer; in_progress = goes.stands; holds = goes.replies })
    (none-failed rows) on.forms
items-called arguments output output' old new rows (Ok (Over number)) on =
    ended-inside (Ok number) (λ tells. tells) (λ tells transfer stands. on.replies (units_of rows) transfer stands) (none-failed rows) on.forms
items-called arguments output output' old new rows (Err (Fault why)) on =
    inside (passed_by (Err (Fault why))) (λ tells. tells)
    (λ tells transfer stands. record { transfer = Some transfer; in_progress = stands; holds = on.replies (units_of rows) transfer stands })
    (breaks-still do_lio (going.InternalOutput output) rows) on.forms
items-called arguments output output' old new rows (Err (Ended number)) on =
    ended-inside (Err (Ended number)) (λ tells. tells) (λ tells transfer stands. on.replies (units_of rows) transfer stands) (none-failed rows) on.forms
items-called arguments output output' old new rows (Err (Device unit)) on = absurd on.no_device

pub items-put : (arguments arguments' : List CValue) (output output' : InternalOutput) (old new : List Object) (passage : Result Passage CallEnd) (held held' : Option TransferInProgress)
    (result : CallResult) → arguments ≡ arguments' → held ≡ Some (going.InternalOutput output) → held' ≡ behind_items passage (going.InternalOutput output) (going.InternalOutput output') →
    result ≡ passed_by passage → AnswersItems arguments output output' old new passage → (rows : List Row) → Calls do_lio arguments' old new held held' rows rows result
items-put arguments arguments' output output' old new passage held held' result same holds behind is on rows =
    calls-as arguments arguments' held (Some (going.InternalOutput output)) held' (behind_items passage (going.InternalOutput output) (going.InternalOutput output')) result (passed_by passage) same
    holds behind is (items-called arguments output output' old new rows passage on)

-- ENDS
pub finish-internal : (output : InternalOutput) (old new : List Object) (answer : Result ℤ CallEnd) (held : Option TransferInProgress) (result : CallResult) →
    held ≡ Some (going.InternalOutput output) → result ≡ ended_by answer → AnswersEnd output old new answer → (rows : List Row) →
    Calls (Finish (kind_of moved.InternalListedOutput)) [] old new held None rows rows result
finish-internal output old new answer held result holds is on rows =
    calls-as [] [] held (Some (going.InternalOutput output)) None None result (ended_by answer) refl holds refl is
    (ended-inside answer (λ tells. tells) (λ tells transfer stands. on.replies (units_of rows) transfer stands) (no-device (Finish (kind_of moved.InternalListedOutput)) [] old (going.InternalOutput output) answer rows on.no_device) on.forms)
