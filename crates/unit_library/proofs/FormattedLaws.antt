-- Formatted output on a unit: its start, its items and its end (ANSI X3.9-1978, 12.8 and 13).
use Rattle.std.proofs.Common.{◌≡◌, ℕ, ℤ, List, [], ◌∷◌, Option, Some, None, refl, ap, ◌∙◌, subst, sym}
use Rattle.std.specs.Prelude.{pos, Result, Ok, Err}
use Rattle.c_tree.specs.run_state.Units.{Units}
use Rattle.c_tree.specs.declared.outcome.CValue.{CValue}
use Rattle.c_tree.specs.declared.outcome.CFault.{CFault}
use Rattle.c_tree.specs.declared.outcome.CFault.TheVariants as fault
use Rattle.c_tree.specs.Faults.{Faults, Or, after, failing}
use Rattle.c_tree.specs.Objects.{Object}
use Rattle.c_tree.specs.World.{Layout, Formatted, Transfer, Reply}
use Rattle.c_tree.specs.Builtins.{ByFormat, Begin, Finish, do_fio, do_lio}
use Rattle.c_tree.specs.Library.{library}
use Rattle.c_tree.specs.LibraryArguments.{number_through, count_from, length_from}
use Rattle.c_tree.specs.TransferOutput.{item_kind, item_length}
use Rattle.c_tree.specs.TransferCalls.{is_style, listed_items, listed_by}
use Rattle.edit_rules.specs.edit_meaning.Formats.{Format}
use Rattle.edit_rules.specs.Walks.{StandsIn}
use Rattle.item_deeds.specs.Deeds.{world_of}
use Rattle.item_deeds.proofs.FormLaws.{same-objects}
use Rattle.f2c_outside.specs.Table.{Row}
use Rattle.f2c_outside.specs.Meaning.{units_of}
use Rattle.unit_answers.specs.declared.ends.CallEnd.{CallEnd}
use Rattle.unit_answers.specs.declared.ends.CallEnd.TheVariants.{Fault, Ended, Device}
use Rattle.unit_answers.proofs.FailureLaws.{none-failed}
use Rattle.listed_output.specs.declared.kinds.ItemList.{ItemList}
use Rattle.listed_output.specs.Items.{Given, list_shown, items_given}
use Rattle.formatted_output.specs.declared.calls.FormattedOutput.{FormattedOutput}
use Rattle.formatted_output.specs.declared.calls.Start.{Start}
use Rattle.formatted_output.specs.declared.calls.Start.TheVariants.{Begins, Answers}
use Rattle.formatted_output.specs.declared.calls.Passage.{Passage}
use Rattle.formatted_output.specs.declared.calls.Passage.TheVariants.{GoesOn, Over}
use Rattle.formatted_output.specs.Transferring.{StandsFor, AnswersStart, AnswersItems, EndDevice, AnswersEnd}
use Rattle.internal_formatted.specs.Transferring as file
use Rattle.run_library.specs.declared.library.LibraryReply.TheVariants as reply
use Rattle.unit_library.specs.declared.formatted_in_progress.FormattedInProgress.{FormattedInProgress}
use Rattle.unit_library.specs.declared.functions.TransferType.TheVariants as moved
use Rattle.unit_library.specs.declared.transfers.TransferInProgress.{TransferInProgress}
use Rattle.unit_library.specs.declared.transfers.TransferInProgress.TheVariants as going
use Rattle.unit_library.specs.Functions.{kind_of}
use Rattle.unit_library.specs.Transfers.{InProgress}
use Rattle.unit_library.specs.Formatted.{UnderFormat, behind_items, passed_by, listed_fault}
use Rattle.unit_library.specs.Replies.{CallResult, broken_by, ended_by, cut_by}
use Rattle.unit_library.specs.Calls.{Calls}
use Rattle.unit_library.proofs.GivenCalls.{inside, outside, EndsInside, ended-inside, ended-outside, breaks-still, breaks-moved}
use Rattle.unit_library.proofs.KindLaws.{its-kind}
use Rattle.unit_library.proofs.SameCalls.{arguments-same, calls-as}
use Rattle.unit_library.proofs.ItemLaws.{same-fault}

-- STARTS
pub start-begins : (arguments' : List CValue) (objects : List Object) (pointer : CValue) (rows : List Row) (output : FormattedOutput) (text : List ℕ) (known : ∥ StandsIn output.walk text ∥₁)
    (state : Option TransferInProgress) (start : Result Start CallEnd) → pointer ∷ [] ≡ arguments' → state ≡ None → start ≡ Ok (Begins output) → AnswersStart objects pointer rows text start →
    Calls (Begin (kind_of moved.FormattedOutput)) arguments' objects objects state (Some (going.FormattedOutput (record { output = output; format = text; stands = known }))) rows rows
    (Ok (reply.Gives (pos 0)))
start-begins arguments' objects pointer rows output text known state start same none is begun =
    let held : FormattedInProgress = record { output = output; format = text; stands = known } in
    let starts = subst (AnswersStart objects pointer rows text) is begun in
    calls-as (pointer ∷ []) arguments' state None (Some (going.FormattedOutput held)) (Some (going.FormattedOutput held)) (Ok (reply.Gives (pos 0))) (Ok (reply.Gives (pos 0))) same none refl refl
    (outside (Ok (reply.Gives (pos 0))) (λ tells. tells) (λ tells. record { transfer = Some starts.transfer; in_progress = starts.stands; holds = starts.replies }) (none-failed rows)
    (same-objects objects))

pub start-answers : (arguments' : List CValue) (objects : List Object) (pointer : CValue) (rows : List Row) (text : List ℕ) (number said : ℤ) (state : Option TransferInProgress) (start : Result Start CallEnd) →
    pointer ∷ [] ≡ arguments' → state ≡ None → said ≡ number → start ≡ Ok (Answers number) → AnswersStart objects pointer rows text start →
    Calls (Begin (kind_of moved.FormattedOutput)) arguments' objects objects state state rows rows (Ok (reply.Gives said))
start-answers arguments' objects pointer rows text number said state start same none says is replies =
    calls-as (pointer ∷ []) arguments' state None state None (Ok (reply.Gives said)) (Ok (reply.Gives number)) same none none (ap (λ (n : ℤ). Ok (reply.Gives n)) says)
    (ended-outside (Ok number) (λ tells. tells) (λ tells. subst (AnswersStart objects pointer rows text) is replies) (none-failed rows) (same-objects objects))

cuts : (objects : List Object) (pointer : CValue) (rows : List Row) (text : List ℕ) (end : CallEnd) → AnswersStart objects pointer rows text (Err end) →
    Calls (Begin (kind_of moved.FormattedOutput)) (pointer ∷ []) objects objects None None rows rows (cut_by end)
cuts objects pointer rows text (Fault why) replies = ended-outside (Err (Fault why)) (λ tells. tells) (λ tells. replies) refl (same-objects objects)
cuts objects pointer rows text (Ended number) replies = ended-outside (Err (Ended number)) (λ tells. tells) (λ tells. replies) (none-failed rows) (same-objects objects)
cuts objects pointer rows text (Device unit) replies = absurd replies

pub start-cut : (arguments' : List CValue) (objects : List Object) (pointer : CValue) (rows : List Row) (text : List ℕ) (end : CallEnd) (state : Option TransferInProgress)
    (result : CallResult) → pointer ∷ [] ≡ arguments' → state ≡ None → result ≡ cut_by end → AnswersStart objects pointer rows text (Err end) →
    Calls (Begin (kind_of moved.FormattedOutput)) arguments' objects objects state state rows rows result
start-cut arguments' objects pointer rows text end state result same none is replies =
    calls-as (pointer ∷ []) arguments' state None state None result (cut_by end) same none none is (cuts objects pointer rows text end replies)

-- ITEMS
items-called : (objects : List Object) (arguments : List CValue) (held held' : FormattedInProgress) (old new : List Row) (passage : Result Passage CallEnd) →
    held'.format ≡ held.format → AnswersItems held.format objects arguments held.output held'.output old new passage →
    Calls do_fio arguments objects objects (Some (going.FormattedOutput held)) (behind_items passage (going.FormattedOutput held) (going.FormattedOutput held')) old new (passed_by passage)
items-called objects arguments held held' old new (Ok GoesOn) same on =
    inside (passed_by (Ok GoesOn)) on.tells
    (λ tells transfer stands.
    let goes = on.replies tells transfer stands in
    record { transfer = Some goes.transfer; in_progress = subst (λ (text : List ℕ). StandsFor text held'.output goes.transfer) (sym same) goes.stands; holds = goes.replies })
    on.devices (same-objects objects)
items-called objects arguments held held' old new (Ok (Over number)) same on = ended-inside (Ok number) on.tells on.replies on.devices (same-objects objects)
items-called objects arguments held held' old new (Err (Fault why)) same on =
    inside (passed_by (Err (Fault why))) on.tells (λ tells transfer stands. record { transfer = Some transfer; in_progress = stands; holds = on.replies tells transfer stands })
    (breaks-moved do_fio (going.FormattedOutput held) held.output.unit old new refl (λ transfer stands. ap (is_style ByFormat) stands.layout) on.devices) (same-objects objects)
items-called objects arguments held held' old new (Err (Ended number)) same on = ended-inside (Err (Ended number)) on.tells on.replies on.devices (same-objects objects)
items-called objects arguments held held' old new (Err (Device unit)) same on =
    ended-inside (Err (Device unit)) on.tells (λ tells transfer stands. tt) (record { own = on.devices.0; failed = on.devices.1; called_on = λ transfer. refl }) (same-objects objects)

pub items-put : (arguments arguments' : List CValue) (objects : List Object) (held held' : FormattedInProgress) (old new : List Row) (passage : Result Passage CallEnd)
    (state state' : Option TransferInProgress) (result : CallResult) → arguments ≡ arguments' → state ≡ Some (going.FormattedOutput held) → state' ≡ behind_items passage (going.FormattedOutput held) (going.FormattedOutput held') →
    result ≡ passed_by passage → held'.format ≡ held.format → AnswersItems held.format objects arguments held.output held'.output old new passage → Calls do_fio arguments' objects objects state state' old new result
items-put arguments arguments' objects held held' old new passage state state' result like holds behind is same on =
    calls-as arguments arguments' state (Some (going.FormattedOutput held)) state' (behind_items passage (going.FormattedOutput held) (going.FormattedOutput held')) result (passed_by passage) like
    holds behind is (items-called objects arguments held held' old new passage same on)

-- LIST-DIRECTED ITEMS
behind : {A B C : Type 0} (found : Or A) (second : A → Or B) (rest : B → Or C) → after (after found second) rest ≡ after found (λ value. after (second value) rest)
behind (Ok value) second rest = refl
behind (Err reason) second rest = refl

same-rest : {A B : Type 0} (found : Or A) (rest rest' : A → Or B) → ((value : A) → rest value ≡ rest' value) → after found rest ≡ after found rest'
same-rest (Ok value) rest rest' same = same value
same-rest (Err reason) rest rest' same = refl

given-called : (objects : List Object) (kind count first size : CValue) (units : Units) (transfer : Transfer) →
    library do_lio (world_of objects units (Some transfer)) (kind ∷ count ∷ first ∷ size ∷ [])
    ≡ after (items_given objects kind count size) (λ given. listed_by transfer.layout given.kind given.size given.count first transfer (world_of objects units (Some transfer)))
unfolding library listed_items
given-called objects kind count first size units transfer =
    sym (behind (number_through objects kind) _ _
    ∙ same-rest (number_through objects kind) _ _ (λ kind_number. behind (number_through objects count) _ _
    ∙ same-rest (number_through objects count) _ _ (λ count_number. behind (item_kind kind_number) _ _
    ∙ same-rest (item_kind kind_number) _ _ (λ one. behind (count_from count_number) _ _
    ∙ same-rest (count_from count_number) _ _ (λ number. behind (length_from size) _ _
    ∙ same-rest (length_from size) _ _ (λ given. behind (item_length one given) _ _))))))

failing-given : (found : Or Given) (rest : Given → Or Reply) (why : CFault) → ((given : Given) → rest given ≡ failing fault.Library) →
    after found (λ given. failing {A = Unit {0}} fault.Library) ≡ failing why → after found rest ≡ failing why
failing-given (Ok given) rest why fails is = fails given ∙ same-fault (Unit {0}) Reply (Faults fault.Library) why is
failing-given (Err reason) rest why fails is = same-fault (Unit {0}) Reply reason why is

listed-called : (objects : List Object) (kind count first size : CValue) (why : CFault) (units : Units) (transfer : Transfer) (format : Format) → transfer.layout ≡ Formatted format →
    listed_fault objects kind count size ≡ failing why → library do_lio (world_of objects units (Some transfer)) (kind ∷ count ∷ first ∷ size ∷ []) ≡ failing why
listed-called objects kind count first size why units transfer format layout is =
    given-called objects kind count first size units transfer
    ∙ failing-given (items_given objects kind count size) _ why
    (λ given. ap (λ (l : Layout). listed_by l given.kind given.size given.count first transfer (world_of objects units (Some transfer))) layout) is

-- a transfer under a format is in progress
pub its-format : (held : TransferInProgress) (transfer : Transfer) → UnderFormat (Some held) → InProgress (Some held) (Some transfer) → (format : Format) × (transfer.layout ≡ Formatted format)
its-format (going.ListedOutput output) transfer under stands = absurd under
its-format (going.ListedInput input) transfer under stands = absurd under
its-format (going.InternalOutput output) transfer under stands = absurd under
its-format (going.InternalInput input) transfer under stands = absurd under
its-format (going.FormattedOutput held) transfer under stands = (stands.format, stands.layout)
its-format (going.FormattedInput held) transfer under stands = (stands.format, stands.layout)
its-format (going.InternalFormattedInput held) transfer under stands = (stands.format, stands.layout)
its-format (going.InternalFormatted held) transfer under stands = in-file stands
  where
    in-file : file.StandsFor held.format held.output transfer → (format : Format) × (transfer.layout ≡ Formatted format)
    in-file (file.WithRecords stands) = (stands.format, stands.layout)
    in-file (file.WithoutRecords stands) = (stands.format, stands.layout)

listed-called-inside : (objects : List Object) (kind count first size : CValue) (why : CFault) (state : Option TransferInProgress) (rows : List Row) → UnderFormat state →
    listed_fault objects kind count size ≡ failing why → Calls do_lio (kind ∷ count ∷ first ∷ size ∷ []) objects objects state state rows rows (broken_by why)
listed-called-inside objects kind count first size why None rows under faulty = absurd under
listed-called-inside objects kind count first size why (Some held) rows under faulty =
    inside (broken_by why) (λ tells. tells)
    (λ tells transfer stands.
    let format = its-format held transfer under stands in
    record { transfer = Some transfer; in_progress = stands; holds = listed-called objects kind count first size why (units_of rows) transfer format.0 format.1 faulty })
    (breaks-still do_lio held rows) (same-objects objects)

pub listed-inside : (arguments' : List CValue) (objects : List Object) (kind count first size : CValue) (why : CFault) (state : Option TransferInProgress) (result : CallResult) →
    kind ∷ count ∷ first ∷ size ∷ [] ≡ arguments' → UnderFormat state → result ≡ broken_by why → listed_fault objects kind count size ≡ failing why → (rows : List Row) →
    Calls do_lio arguments' objects objects state state rows rows result
listed-inside arguments' objects kind count first size why state result same under is faulty rows =
    arguments-same do_lio (kind ∷ count ∷ first ∷ size ∷ []) arguments' objects objects state state rows rows (broken_by why) result same is
    (listed-called-inside objects kind count first size why state rows under faulty)

pub listed-given : (objects : List Object) (kind count size : CValue) (list : ItemList) → Ok (list_shown list) ≡ items_given objects kind count size →
    listed_fault objects kind count size ≡ failing fault.Library
listed-given objects kind count size list is = ap (λ (found : Or Given). after found (λ given. failing {A = Unit {0}} fault.Library)) (sym is)

pub listed-faulty : (objects : List Object) (kind count size : CValue) (why : CFault) → failing why ≡ items_given objects kind count size →
    listed_fault objects kind count size ≡ failing why
listed-faulty objects kind count size why is = ap (λ (found : Or Given). after found (λ given. failing {A = Unit {0}} fault.Library)) (sym is)

-- ENDS
ends-formatted : (held : FormattedInProgress) (objects : List Object) (old new : List Row) (answer : Result ℤ CallEnd) → EndDevice held.output old new answer →
    EndsInside (Finish (kind_of moved.FormattedOutput)) [] objects (going.FormattedOutput held) old new answer
ends-formatted held objects old new (Ok number) told = told
ends-formatted held objects old new (Err (Fault why)) told =
    breaks-moved (Finish (kind_of moved.FormattedOutput)) (going.FormattedOutput held) held.output.unit old new refl (its-kind (going.FormattedOutput held)) told
ends-formatted held objects old new (Err (Ended number)) told = told
ends-formatted held objects old new (Err (Device unit)) told = record { own = told.0; failed = told.1; called_on = λ transfer. refl }

pub finish-formatted : (held : FormattedInProgress) (old new : List Row) (answer : Result ℤ CallEnd) (state : Option TransferInProgress) (result : CallResult) →
    state ≡ Some (going.FormattedOutput held) → result ≡ ended_by answer → AnswersEnd held.format held.output old new answer → (objects : List Object) →
    Calls (Finish (kind_of moved.FormattedOutput)) [] objects objects state None old new result
finish-formatted held old new answer state result holds is on objects =
    calls-as [] [] state (Some (going.FormattedOutput held)) None None result (ended_by answer) refl holds refl is
    (ended-inside answer on.tells (λ tells transfer stands. on.replies tells objects transfer stands) (ends-formatted held objects old new answer on.devices) (same-objects objects))
