-- Formatted output on an internal file: its start, its items and its end (ANSI X3.9-1978, 12.2.5, 12.8 and 13).
use Rattle.std.proofs.Common.{◌≡◌, ℕ, ℤ, List, [], ◌∷◌, length, Option, Some, None, refl, ap, subst, sym}
use Rattle.std.specs.Prelude.{pos, Result, Ok, Err}
use Rattle.c_tree.specs.declared.outcome.CValue.{CValue}
use Rattle.c_tree.specs.Objects.{Object}
use Rattle.c_tree.specs.Builtins.{Begin, Finish, do_fio}
use Rattle.c_tree.specs.World.{Transfer}
use Rattle.edit_rules.specs.Walks.{StandsIn}
use Rattle.edit_rules.specs.edit_meaning.Formats.{pass, reverted, edits_for}
use Rattle.item_deeds.proofs.FormLaws.{same-objects}
use Rattle.f2c_outside.specs.Table.{Row}
use Rattle.f2c_outside.specs.Meaning.{units_of}
use Rattle.unit_answers.specs.declared.ends.CallEnd.{CallEnd}
use Rattle.unit_answers.specs.declared.ends.CallEnd.TheVariants.{Fault, Ended, Device}
use Rattle.unit_answers.proofs.FailureLaws.{none-failed}
use Rattle.formatted_output.specs.declared.calls.Passage.{Passage}
use Rattle.formatted_output.specs.declared.calls.Passage.TheVariants.{GoesOn, Over}
use Rattle.internal_formatted.specs.declared.calls.InternalFormatted.{InternalFormatted}
use Rattle.internal_formatted.specs.declared.calls.Start.{Start}
use Rattle.internal_formatted.specs.declared.calls.Start.TheVariants.{Begins, Answers}
use Rattle.internal_formatted.specs.Transferring.{StandsFor, WithRecords, WithoutRecords, AnswersStart, AnswersItems, AnswersEnd}
use Rattle.run_library.specs.declared.library.LibraryReply.TheVariants as reply
use Rattle.unit_library.specs.declared.formatted_in_progress.InternalInProgress.{InternalInProgress}
use Rattle.unit_library.specs.declared.functions.TransferType.TheVariants as moved
use Rattle.unit_library.specs.declared.transfers.TransferInProgress.{TransferInProgress}
use Rattle.unit_library.specs.declared.transfers.TransferInProgress.TheVariants as going
use Rattle.unit_library.specs.Functions.{kind_of}
use Rattle.unit_library.specs.Formatted.{behind_items, passed_by}
use Rattle.unit_library.specs.Replies.{CallResult, ended_by, cut_by}
use Rattle.unit_library.specs.Calls.{Calls}
use Rattle.unit_library.proofs.GivenCalls.{inside, outside, ended-inside, ended-outside, no-device, breaks-still}
use Rattle.unit_library.proofs.SameCalls.{calls-as}

-- STARTS
stands-inside : (text : List ℕ) (output : InternalFormatted) (transfer : Transfer) → StandsFor text output transfer → StandsIn output.walk text
stands-inside text output transfer (WithRecords stands) =
    record { again = pass (reverted stands.format); rest = (edits_for stands.format (length transfer.values)).left; stands = stands.walks }
stands-inside text output transfer (WithoutRecords stands) = stands.inside

-- an output that begins stands in its format
pub begun-inside : (objects : List Object) (pointer : CValue) (text : List ℕ) (output : InternalFormatted) (start : Result Start CallEnd) → start ≡ Ok (Begins output) →
    AnswersStart objects pointer text start → StandsIn output.walk text
begun-inside objects pointer text output start is answers =
    let begun : AnswersStart objects pointer text (Ok (Begins output)) = subst (AnswersStart objects pointer text) is answers in
    stands-inside text output (begun (units_of [])).transfer (begun (units_of [])).stands

pub start-begins : (arguments' : List CValue) (objects : List Object) (pointer : CValue) (output : InternalFormatted) (text : List ℕ) (known : ∥ StandsIn output.walk text ∥₁)
    (state : Option TransferInProgress) (start : Result Start CallEnd) → pointer ∷ [] ≡ arguments' → state ≡ None → start ≡ Ok (Begins output) → AnswersStart objects pointer text start →
    (rows : List Row) →
    Calls (Begin (kind_of moved.InternalFormattedOutput)) arguments' objects objects state (Some (going.InternalFormatted (record { output = output; format = text; stands = known }))) rows rows
    (Ok (reply.Gives (pos 0)))
start-begins arguments' objects pointer output text known state start same none is begun rows =
    let held : InternalInProgress = record { output = output; format = text; stands = known } in
    let starts = subst (AnswersStart objects pointer text) is begun (units_of rows) in
    calls-as (pointer ∷ []) arguments' state None (Some (going.InternalFormatted held)) (Some (going.InternalFormatted held)) (Ok (reply.Gives (pos 0))) (Ok (reply.Gives (pos 0))) same none refl
    refl
    (outside (Ok (reply.Gives (pos 0))) (λ tells. tells) (λ tells. record { transfer = Some starts.transfer; in_progress = starts.stands; holds = starts.replies }) (none-failed rows)
    (same-objects objects))

pub start-answers : (arguments' : List CValue) (objects : List Object) (pointer : CValue) (text : List ℕ) (number said : ℤ) (state : Option TransferInProgress) (start : Result Start CallEnd) →
    pointer ∷ [] ≡ arguments' → state ≡ None → said ≡ number → start ≡ Ok (Answers number) → AnswersStart objects pointer text start → (rows : List Row) →
    Calls (Begin (kind_of moved.InternalFormattedOutput)) arguments' objects objects state state rows rows (Ok (reply.Gives said))
start-answers arguments' objects pointer text number said state start same none says is replies rows =
    calls-as (pointer ∷ []) arguments' state None state None (Ok (reply.Gives said)) (Ok (reply.Gives number)) same none none (ap (λ (n : ℤ). Ok (reply.Gives n)) says)
    (ended-outside (Ok number) (λ tells. tells) (λ tells. subst (AnswersStart objects pointer text) is replies (units_of rows)) (none-failed rows) (same-objects objects))

cuts : (objects : List Object) (pointer : CValue) (text : List ℕ) (rows : List Row) (end : CallEnd) → AnswersStart objects pointer text (Err end) →
    Calls (Begin (kind_of moved.InternalFormattedOutput)) (pointer ∷ []) objects objects None None rows rows (cut_by end)
cuts objects pointer text rows (Fault why) replies = ended-outside (Err (Fault why)) (λ tells. tells) (λ tells. replies (units_of rows)) refl (same-objects objects)
cuts objects pointer text rows (Ended number) replies = ended-outside (Err (Ended number)) (λ tells. tells) (λ tells. replies (units_of rows)) (none-failed rows) (same-objects objects)
cuts objects pointer text rows (Device unit) replies = absurd (replies (units_of rows))

pub start-cut : (arguments' : List CValue) (objects : List Object) (pointer : CValue) (text : List ℕ) (end : CallEnd) (state : Option TransferInProgress) (result : CallResult) →
    pointer ∷ [] ≡ arguments' → state ≡ None → result ≡ cut_by end → AnswersStart objects pointer text (Err end) → (rows : List Row) →
    Calls (Begin (kind_of moved.InternalFormattedOutput)) arguments' objects objects state state rows rows result
start-cut arguments' objects pointer text end state result same none is replies rows =
    calls-as (pointer ∷ []) arguments' state None state None result (cut_by end) same none none is (cuts objects pointer text rows end replies)

-- ITEMS
items-called : (arguments : List CValue) (held held' : InternalInProgress) (old new : List Object) (rows : List Row) (passage : Result Passage CallEnd) → held'.format ≡ held.format →
    AnswersItems held.format arguments held.output held'.output old new passage →
    Calls do_fio arguments old new (Some (going.InternalFormatted held)) (behind_items passage (going.InternalFormatted held) (going.InternalFormatted held')) rows rows (passed_by passage)
items-called arguments held held' old new rows (Ok GoesOn) same on =
    inside (passed_by (Ok GoesOn)) (λ tells. tells)
    (λ tells transfer stands.
    let goes = on.replies (units_of rows) transfer stands in
    record { transfer = Some goes.transfer; in_progress = subst (λ (text : List ℕ). StandsFor text held'.output goes.transfer) (sym same) goes.stands; holds = goes.replies })
    (none-failed rows) on.forms
items-called arguments held held' old new rows (Ok (Over number)) same on =
    ended-inside (Ok number) (λ tells. tells) (λ tells transfer stands. on.replies (units_of rows) transfer stands) (none-failed rows) on.forms
items-called arguments held held' old new rows (Err (Fault why)) same on =
    inside (passed_by (Err (Fault why))) (λ tells. tells)
    (λ tells transfer stands. record { transfer = Some transfer; in_progress = stands; holds = on.replies (units_of rows) transfer stands })
    (breaks-still do_fio (going.InternalFormatted held) rows) on.forms
items-called arguments held held' old new rows (Err (Ended number)) same on =
    ended-inside (Err (Ended number)) (λ tells. tells) (λ tells transfer stands. on.replies (units_of rows) transfer stands) (none-failed rows) on.forms
items-called arguments held held' old new rows (Err (Device unit)) same on = absurd on.no_device

pub items-put : (arguments arguments' : List CValue) (held held' : InternalInProgress) (old new : List Object) (passage : Result Passage CallEnd) (state state' : Option TransferInProgress)
    (result : CallResult) → arguments ≡ arguments' → state ≡ Some (going.InternalFormatted held) → state' ≡ behind_items passage (going.InternalFormatted held) (going.InternalFormatted held') →
    result ≡ passed_by passage → held'.format ≡ held.format → AnswersItems held.format arguments held.output held'.output old new passage → (rows : List Row) →
    Calls do_fio arguments' old new state state' rows rows result
items-put arguments arguments' held held' old new passage state state' result like holds behind is same on rows =
    calls-as arguments arguments' state (Some (going.InternalFormatted held)) state' (behind_items passage (going.InternalFormatted held) (going.InternalFormatted held')) result (passed_by passage)
    like holds behind is (items-called arguments held held' old new rows passage same on)

-- ENDS
pub finish-file : (held : InternalInProgress) (old new : List Object) (answer : Result ℤ CallEnd) (state : Option TransferInProgress) (result : CallResult) →
    state ≡ Some (going.InternalFormatted held) → result ≡ ended_by answer → AnswersEnd held.format held.output old new answer → (rows : List Row) →
    Calls (Finish (kind_of moved.InternalFormattedOutput)) [] old new state None rows rows result
finish-file held old new answer state result holds is on rows =
    calls-as [] [] state (Some (going.InternalFormatted held)) None None result (ended_by answer) refl holds refl is
    (ended-inside answer (λ tells. tells) (λ tells transfer stands. on.replies (units_of rows) transfer stands) (no-device (Finish (kind_of moved.InternalFormattedOutput)) [] old (going.InternalFormatted held) answer rows on.no_device) on.forms)
