-- List-directed input on an internal file: its start, its items and its end (ANSI X3.9-1978, 12.2.5, 12.8 and 13.6.1).
use Rattle.std.proofs.Common.{◌≡◌, ℤ, List, [], ◌∷◌, Option, Some, None, refl, ap, subst}
use Rattle.std.specs.Prelude.{pos, Result, Ok, Err}
use Rattle.c_tree.specs.declared.outcome.CValue.{CValue}
use Rattle.c_tree.specs.Objects.{Object}
use Rattle.c_tree.specs.Builtins.{Begin, Finish, do_lio}
use Rattle.item_deeds.proofs.FormLaws.{same-objects}
use Rattle.f2c_outside.specs.Table.{Row}
use Rattle.f2c_outside.specs.Meaning.{units_of}
use Rattle.unit_answers.specs.declared.ends.CallEnd.{CallEnd}
use Rattle.unit_answers.specs.declared.ends.CallEnd.TheVariants.{Fault, Ended, Device}
use Rattle.unit_answers.proofs.FailureLaws.{none-failed}
use Rattle.listed_output.specs.declared.calls.Passage.{Passage}
use Rattle.listed_output.specs.declared.calls.Passage.TheVariants.{GoesOn, Over}
use Rattle.internal_input.specs.declared.calls.InternalInput.{InternalInput}
use Rattle.internal_input.specs.declared.calls.Start.{Start}
use Rattle.internal_input.specs.declared.calls.Start.TheVariants.{Begins, Answers}
use Rattle.internal_input.specs.Transferring.{AnswersStart, AnswersItems, AnswersEnd}
use Rattle.run_library.specs.declared.library.LibraryReply.TheVariants as reply
use Rattle.unit_library.specs.declared.functions.TransferType.TheVariants as moved
use Rattle.unit_library.specs.declared.transfers.TransferInProgress.{TransferInProgress}
use Rattle.unit_library.specs.declared.transfers.TransferInProgress.TheVariants as going
use Rattle.unit_library.specs.Functions.{kind_of}
use Rattle.unit_library.specs.Transfers.{behind_items}
use Rattle.unit_library.specs.Replies.{CallResult, cut_by, passed_by}
use Rattle.unit_library.specs.Calls.{Calls}
use Rattle.unit_library.proofs.GivenCalls.{inside, outside, ended-inside, ended-outside, breaks-still}
use Rattle.unit_library.proofs.SameCalls.{calls-as}

-- STARTS
pub start-begins : (arguments' : List CValue) (objects : List Object) (pointer : CValue) (input : InternalInput) (state : Option TransferInProgress) (start : Result Start CallEnd) →
    pointer ∷ [] ≡ arguments' → state ≡ None → start ≡ Ok (Begins input) → AnswersStart objects pointer start → (rows : List Row) →
    Calls (Begin (kind_of moved.InternalListedInput)) arguments' objects objects state (Some (going.InternalInput input)) rows rows (Ok (reply.Gives (pos 0)))
start-begins arguments' objects pointer input state start same none is begun rows =
    let begins : AnswersStart objects pointer (Ok (Begins input)) = subst (AnswersStart objects pointer) is begun in
    let starts = begins.replies (units_of rows) in
    calls-as (pointer ∷ []) arguments' state None (Some (going.InternalInput input)) (Some (going.InternalInput input)) (Ok (reply.Gives (pos 0))) (Ok (reply.Gives (pos 0))) same none refl refl
    (outside (Ok (reply.Gives (pos 0))) (λ tells. tells) (λ tells. record { transfer = Some starts.transfer; in_progress = starts.stands; holds = starts.replies }) (none-failed rows)
    (same-objects objects))

pub start-answers : (arguments' : List CValue) (objects : List Object) (pointer : CValue) (number said : ℤ) (state : Option TransferInProgress) (start : Result Start CallEnd) →
    pointer ∷ [] ≡ arguments' → state ≡ None → said ≡ number → start ≡ Ok (Answers number) → AnswersStart objects pointer start → (rows : List Row) →
    Calls (Begin (kind_of moved.InternalListedInput)) arguments' objects objects state state rows rows (Ok (reply.Gives said))
start-answers arguments' objects pointer number said state start same none says is on rows =
    let answers : AnswersStart objects pointer (Ok (Answers number)) = subst (AnswersStart objects pointer) is on in
    calls-as (pointer ∷ []) arguments' state None state None (Ok (reply.Gives said)) (Ok (reply.Gives number)) same none none (ap (λ (n : ℤ). Ok (reply.Gives n)) says)
    (ended-outside (Ok number) (λ tells. tells) (λ tells. answers.replies (units_of rows)) (none-failed rows) (same-objects objects))

cuts : (objects : List Object) (pointer : CValue) (rows : List Row) (end : CallEnd) → AnswersStart objects pointer (Err end) →
    Calls (Begin (kind_of moved.InternalListedInput)) (pointer ∷ []) objects objects None None rows rows (cut_by end)
cuts objects pointer rows (Fault why) on = ended-outside (Err (Fault why)) (λ tells. tells) (λ tells. on.replies (units_of rows)) refl (same-objects objects)
cuts objects pointer rows (Ended number) on = ended-outside (Err (Ended number)) (λ tells. tells) (λ tells. on.replies (units_of rows)) (none-failed rows) (same-objects objects)
cuts objects pointer rows (Device unit) on = absurd on.no_device

pub start-cut : (arguments' : List CValue) (objects : List Object) (pointer : CValue) (end : CallEnd) (state : Option TransferInProgress) (result : CallResult) → pointer ∷ [] ≡ arguments' →
    state ≡ None → result ≡ cut_by end → AnswersStart objects pointer (Err end) → (rows : List Row) →
    Calls (Begin (kind_of moved.InternalListedInput)) arguments' objects objects state state rows rows result
start-cut arguments' objects pointer end state result same none is on rows =
    calls-as (pointer ∷ []) arguments' state None state None result (cut_by end) same none none is (cuts objects pointer rows end on)

-- ITEMS
items-called : (arguments : List CValue) (input input' : InternalInput) (old new : List Object) (rows : List Row) (passage : Result Passage CallEnd) →
    AnswersItems arguments input input' old new passage →
    Calls do_lio arguments old new (Some (going.InternalInput input)) (behind_items passage (going.InternalInput input) (going.InternalInput input')) rows rows (passed_by passage)
items-called arguments input input' old new rows (Ok GoesOn) on =
    inside (passed_by (Ok GoesOn)) (λ tells. tells)
    (λ tells transfer stands. let goes = on.replies (units_of rows) transfer stands in record { transfer = Some goes.transfer; in_progress = goes.stands; holds = goes.replies })
    (none-failed rows) on.forms
items-called arguments input input' old new rows (Ok (Over number)) on =
    ended-inside (Ok number) (λ tells. tells) (λ tells transfer stands. on.replies (units_of rows) transfer stands) (none-failed rows) on.forms
items-called arguments input input' old new rows (Err (Fault why)) on =
    inside (passed_by (Err (Fault why))) (λ tells. tells)
    (λ tells transfer stands. record { transfer = Some transfer; in_progress = stands; holds = on.replies (units_of rows) transfer stands })
    (breaks-still do_lio (going.InternalInput input) rows) on.forms
items-called arguments input input' old new rows (Err (Ended number)) on =
    ended-inside (Err (Ended number)) (λ tells. tells) (λ tells transfer stands. on.replies (units_of rows) transfer stands) (none-failed rows) on.forms
items-called arguments input input' old new rows (Err (Device unit)) on = absurd on.no_device

pub items-read : (arguments arguments' : List CValue) (input input' : InternalInput) (old new : List Object) (passage : Result Passage CallEnd) (held held' : Option TransferInProgress)
    (result : CallResult) → arguments ≡ arguments' → held ≡ Some (going.InternalInput input) → held' ≡ behind_items passage (going.InternalInput input) (going.InternalInput input') →
    result ≡ passed_by passage → AnswersItems arguments input input' old new passage → (rows : List Row) → Calls do_lio arguments' old new held held' rows rows result
items-read arguments arguments' input input' old new passage held held' result same holds behind is on rows =
    calls-as arguments arguments' held (Some (going.InternalInput input)) held' (behind_items passage (going.InternalInput input) (going.InternalInput input')) result (passed_by passage) same
    holds behind is (items-called arguments input input' old new rows passage on)

-- ENDS
pub finish-from-file : (input : InternalInput) (number said : ℤ) (held : Option TransferInProgress) → held ≡ Some (going.InternalInput input) → said ≡ number → AnswersEnd input number →
    (objects : List Object) → (rows : List Row) → Calls (Finish (kind_of moved.InternalListedInput)) [] objects objects held None rows rows (Ok (reply.Gives said))
finish-from-file input number said held holds is answers objects rows =
    calls-as [] [] held (Some (going.InternalInput input)) None None (Ok (reply.Gives said)) (Ok (reply.Gives number)) refl holds refl (ap (λ (n : ℤ). Ok (reply.Gives n)) is)
    (ended-inside (Ok number) (λ tells. tells) (λ tells transfer stands. answers objects (units_of rows) transfer stands) (none-failed rows) (same-objects objects))
