-- Formatted input on a unit: its start, its items and its end (ANSI X3.9-1978, 12.8 and 13).
use Rattle.std.proofs.Common.{◌≡◌, ℕ, ℤ, List, [], ◌∷◌, Option, Some, None, refl, ap, subst, sym}
use Rattle.std.specs.Prelude.{pos, Result, Ok, Err}
use Rattle.c_tree.specs.declared.outcome.CValue.{CValue}
use Rattle.c_tree.specs.Objects.{Object}
use Rattle.c_tree.specs.Builtins.{ByFormat, Begin, Finish, do_fio}
use Rattle.c_tree.specs.TransferCalls.{is_style}
use Rattle.edit_rules.specs.Walks.{StandsIn}
use Rattle.item_deeds.proofs.FormLaws.{same-objects}
use Rattle.f2c_outside.specs.Table.{Row}
use Rattle.unit_answers.specs.declared.ends.CallEnd.{CallEnd}
use Rattle.unit_answers.specs.declared.ends.CallEnd.TheVariants.{Fault, Ended, Device}
use Rattle.formatted_output.specs.declared.calls.Passage.{Passage}
use Rattle.formatted_output.specs.declared.calls.Passage.TheVariants.{GoesOn, Over}
use Rattle.formatted_input.specs.declared.calls.FormattedInput.{FormattedInput}
use Rattle.formatted_input.specs.declared.calls.Start.{Start}
use Rattle.formatted_input.specs.declared.calls.Start.TheVariants.{Begins, Answers}
use Rattle.formatted_input.specs.Transferring.{StandsFor, AnswersStart, AnswersItems, EndDevice, AnswersEnd}
use Rattle.run_library.specs.declared.library.LibraryReply.TheVariants as reply
use Rattle.unit_library.specs.declared.formatted_in_progress.InputInProgress.{InputInProgress}
use Rattle.unit_library.specs.declared.functions.TransferType.TheVariants as moved
use Rattle.unit_library.specs.declared.transfers.TransferInProgress.{TransferInProgress}
use Rattle.unit_library.specs.declared.transfers.TransferInProgress.TheVariants as going
use Rattle.unit_library.specs.Functions.{kind_of}
use Rattle.unit_library.specs.Formatted.{behind_items, passed_by}
use Rattle.unit_library.specs.Replies.{CallResult, ended_by, cut_by}
use Rattle.unit_library.specs.Calls.{Calls}
use Rattle.unit_library.proofs.NamedUnits.{start-names}
use Rattle.unit_library.proofs.GivenCalls.{inside, outside, EndsInside, ended-inside, ended-outside, breaks-moved}
use Rattle.unit_library.proofs.KindLaws.{its-kind}
use Rattle.unit_library.proofs.SameCalls.{calls-as}

-- STARTS
-- an input that begins stands in its format
pub begun-inside : (objects : List Object) (pointer : CValue) (old new : List Row) (text : List ℕ) (input : FormattedInput) (start : Result Start CallEnd) → start ≡ Ok (Begins input) →
    AnswersStart objects pointer old new text start → StandsIn input.walk text
begun-inside objects pointer old new text input start is on =
    let begun : AnswersStart objects pointer old new text (Ok (Begins input)) = subst (AnswersStart objects pointer old new text) is on in begun.inside

pub start-begins : (arguments' : List CValue) (objects : List Object) (pointer : CValue) (old new : List Row) (input : FormattedInput) (text : List ℕ) (known : ∥ StandsIn input.walk text ∥₁)
    (state : Option TransferInProgress) (start : Result Start CallEnd) → pointer ∷ [] ≡ arguments' → state ≡ None → start ≡ Ok (Begins input) → AnswersStart objects pointer old new text start →
    Calls (Begin (kind_of moved.FormattedInput)) arguments' objects objects state (Some (going.FormattedInput (record { input = input; format = text; stands = known }))) old new
    (Ok (reply.Gives (pos 0)))
start-begins arguments' objects pointer old new input text known state start same none is on =
    let held : InputInProgress = record { input = input; format = text; stands = known } in
    let begun : AnswersStart objects pointer old new text (Ok (Begins input)) = subst (AnswersStart objects pointer old new text) is on in
    calls-as (pointer ∷ []) arguments' state None (Some (going.FormattedInput held)) (Some (going.FormattedInput held)) (Ok (reply.Gives (pos 0))) (Ok (reply.Gives (pos 0))) same none refl refl
    (outside (Ok (reply.Gives (pos 0))) begun.tells
    (λ tells. let starts = begun.replies tells in record { transfer = Some starts.transfer; in_progress = starts.stands; holds = starts.replies }) begun.devices (same-objects objects))

pub start-answers : (arguments' : List CValue) (objects : List Object) (pointer : CValue) (old new : List Row) (text : List ℕ) (number said : ℤ) (state : Option TransferInProgress)
    (start : Result Start CallEnd) → pointer ∷ [] ≡ arguments' → state ≡ None → said ≡ number → start ≡ Ok (Answers number) → AnswersStart objects pointer old new text start →
    Calls (Begin (kind_of moved.FormattedInput)) arguments' objects objects state state old new (Ok (reply.Gives said))
start-answers arguments' objects pointer old new text number said state start same none says is on =
    let answers : AnswersStart objects pointer old new text (Ok (Answers number)) = subst (AnswersStart objects pointer old new text) is on in
    calls-as (pointer ∷ []) arguments' state None state None (Ok (reply.Gives said)) (Ok (reply.Gives number)) same none none (ap (λ (n : ℤ). Ok (reply.Gives n)) says)
    (ended-outside (Ok number) answers.tells answers.replies answers.devices (same-objects objects))

cuts : (objects : List Object) (pointer : CValue) (old new : List Row) (text : List ℕ) (end : CallEnd) → AnswersStart objects pointer old new text (Err end) →
    Calls (Begin (kind_of moved.FormattedInput)) (pointer ∷ []) objects objects None None old new (cut_by end)
cuts objects pointer old new text (Fault why) on = ended-outside (Err (Fault why)) on.tells on.replies on.devices (same-objects objects)
cuts objects pointer old new text (Ended number) on = ended-outside (Err (Ended number)) on.tells on.replies on.devices (same-objects objects)
cuts objects pointer old new text (Device unit) on =
    ended-outside (Err (Device unit)) on.tells (λ tells. tt) (start-names objects pointer unit on.devices.0, on.devices.1) (same-objects objects)

pub start-cut : (arguments' : List CValue) (objects : List Object) (pointer : CValue) (old new : List Row) (text : List ℕ) (end : CallEnd) (state : Option TransferInProgress)
    (result : CallResult) → pointer ∷ [] ≡ arguments' → state ≡ None → result ≡ cut_by end → AnswersStart objects pointer old new text (Err end) →
    Calls (Begin (kind_of moved.FormattedInput)) arguments' objects objects state state old new result
start-cut arguments' objects pointer old new text end state result same none is on =
    calls-as (pointer ∷ []) arguments' state None state None result (cut_by end) same none none is (cuts objects pointer old new text end on)

-- ITEMS
items-called : (arguments : List CValue) (held held' : InputInProgress) (objects objects' : List Object) (old new : List Row) (passage : Result Passage CallEnd) → held'.format ≡ held.format →
    AnswersItems held.format objects objects' arguments held.input held'.input old new passage →
    Calls do_fio arguments objects objects' (Some (going.FormattedInput held)) (behind_items passage (going.FormattedInput held) (going.FormattedInput held')) old new (passed_by passage)
items-called arguments held held' objects objects' old new (Ok GoesOn) same on =
    inside (passed_by (Ok GoesOn)) on.tells
    (λ tells transfer stands.
    let goes = on.replies tells transfer stands in
    record { transfer = Some goes.transfer; in_progress = subst (λ (text : List ℕ). StandsFor text held'.input goes.transfer) (sym same) goes.stands; holds = goes.replies })
    on.devices on.forms
items-called arguments held held' objects objects' old new (Ok (Over number)) same on = ended-inside (Ok number) on.tells on.replies on.devices on.forms
items-called arguments held held' objects objects' old new (Err (Fault why)) same on =
    inside (passed_by (Err (Fault why))) on.tells (λ tells transfer stands. record { transfer = Some transfer; in_progress = stands; holds = on.replies tells transfer stands })
    (breaks-moved do_fio (going.FormattedInput held) held.input.unit old new refl (λ transfer stands. ap (is_style ByFormat) stands.layout) on.devices) on.forms
items-called arguments held held' objects objects' old new (Err (Ended number)) same on = ended-inside (Err (Ended number)) on.tells on.replies on.devices on.forms
items-called arguments held held' objects objects' old new (Err (Device unit)) same on =
    ended-inside (Err (Device unit)) on.tells (λ tells transfer stands. tt) (record { own = on.devices.0; failed = on.devices.1; called_on = λ transfer. refl }) on.forms

pub items-read : (arguments arguments' : List CValue) (held held' : InputInProgress) (objects objects' : List Object) (old new : List Row) (passage : Result Passage CallEnd)
    (state state' : Option TransferInProgress) (result : CallResult) → arguments ≡ arguments' → state ≡ Some (going.FormattedInput held) →
    state' ≡ behind_items passage (going.FormattedInput held) (going.FormattedInput held') → result ≡ passed_by passage → held'.format ≡ held.format →
    AnswersItems held.format objects objects' arguments held.input held'.input old new passage → Calls do_fio arguments' objects objects' state state' old new result
items-read arguments arguments' held held' objects objects' old new passage state state' result like holds behind is same on =
    calls-as arguments arguments' state (Some (going.FormattedInput held)) state' (behind_items passage (going.FormattedInput held) (going.FormattedInput held')) result (passed_by passage) like
    holds behind is (items-called arguments held held' objects objects' old new passage same on)

-- ENDS
ends-reading : (held : InputInProgress) (objects : List Object) (old new : List Row) (answer : Result ℤ CallEnd) → EndDevice held.input old new answer →
    EndsInside (Finish (kind_of moved.FormattedInput)) [] objects (going.FormattedInput held) old new answer
ends-reading held objects old new (Ok number) told = told
ends-reading held objects old new (Err (Fault why)) told =
    breaks-moved (Finish (kind_of moved.FormattedInput)) (going.FormattedInput held) held.input.unit old new refl (its-kind (going.FormattedInput held)) told
ends-reading held objects old new (Err (Ended number)) told = told
ends-reading held objects old new (Err (Device unit)) told = record { own = told.0; failed = told.1; called_on = λ transfer. refl }

pub finish-reading : (held : InputInProgress) (old new : List Row) (answer : Result ℤ CallEnd) (state : Option TransferInProgress) (result : CallResult) →
    state ≡ Some (going.FormattedInput held) → result ≡ ended_by answer → AnswersEnd held.format held.input old new answer → (objects : List Object) →
    Calls (Finish (kind_of moved.FormattedInput)) [] objects objects state None old new result
finish-reading held old new answer state result holds is on objects =
    calls-as [] [] state (Some (going.FormattedInput held)) None None result (ended_by answer) refl holds refl is
    (ended-inside answer on.tells (λ tells transfer stands. on.replies tells objects transfer stands) (ends-reading held objects old new answer on.devices) (same-objects objects))
