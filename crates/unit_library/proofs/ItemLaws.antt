-- Items of transfers (ANSI X3.9-1978, 12.8.2).
use Rattle.std.proofs.Common.{◌≡◌, ℕ, ℤ, List, [], ◌∷◌, Option, Some, None, refl, ap, ◌∙◌, subst, sym}
use Rattle.std.specs.Prelude.{Result, Ok, Err}
use Rattle.c_tree.specs.run_state.Units.{Units}
use Rattle.c_tree.specs.declared.outcome.CValue.{CValue}
use Rattle.c_tree.specs.declared.outcome.CFault.{CFault}
use Rattle.c_tree.specs.declared.outcome.CFault.TheVariants as fault
use Rattle.c_tree.specs.Faults.{Break, Faults, Or, after, failing}
use Rattle.c_tree.specs.Objects.{Object}
use Rattle.c_tree.specs.World.{Layout, Listed, Transfer, Reply}
use Rattle.c_tree.specs.Builtins.{do_lio, do_fio}
use Rattle.c_tree.specs.Library.{library}
use Rattle.c_tree.specs.LibraryArguments.{number_through, count_from, length_from}
use Rattle.c_tree.specs.TransferCalls.{listed_items, formatted_items, formatted_by}
use Rattle.item_deeds.specs.Deeds.{world_of}
use Rattle.item_deeds.proofs.FormLaws.{same-objects}
use Rattle.f2c_outside.specs.Table.{Row}
use Rattle.f2c_outside.specs.Meaning.{units_of}
use Rattle.unit_answers.specs.declared.ends.CallEnd.{CallEnd}
use Rattle.unit_answers.specs.declared.ends.CallEnd.TheVariants.{Fault, Ended, Device}
use Rattle.unit_answers.specs.Failing.{NoneFailed}
use Rattle.unit_answers.proofs.FailureLaws.{none-failed}
use Rattle.listed_output.specs.declared.calls.ListedOutput.{ListedOutput}
use Rattle.listed_output.specs.declared.calls.Passage.{Passage}
use Rattle.listed_output.specs.declared.calls.Passage.TheVariants.{GoesOn, Over}
use Rattle.listed_output.specs.Transferring.{AnswersItems}
use Rattle.unit_library.specs.declared.formatted_in_progress.FormattedInProgress.{FormattedInProgress}
use Rattle.unit_library.specs.declared.formatted_in_progress.InputInProgress.{InputInProgress}
use Rattle.unit_library.specs.declared.formatted_in_progress.InternalInProgress.{InternalInProgress}
use Rattle.unit_library.specs.declared.formatted_in_progress.InternalInputInProgress.{InternalInputInProgress}
use Rattle.unit_library.specs.declared.transfers.TransferInProgress.{TransferInProgress}
use Rattle.unit_library.specs.declared.transfers.TransferInProgress.TheVariants as going
use Rattle.unit_library.specs.Transfers.{InProgress, behind_items}
use Rattle.unit_library.specs.Items.{formatted_fault}
use Rattle.unit_library.specs.Replies.{CallResult, broken_by, passed_by}
use Rattle.unit_library.specs.Calls.{Calls}
use Rattle.unit_library.proofs.GivenCalls.{inside, fault-outside, ended-inside, Breaks, all_stood, breaks-still}
use Rattle.unit_library.proofs.SameCalls.{arguments-same, calls-as}

-- LIST-DIRECTED ITEMS
listed-outside : (objects : List Object) (kind count first size : CValue) (units : Units) →
    library do_lio (world_of objects units None) (kind ∷ count ∷ first ∷ size ∷ []) ≡ failing fault.Library
unfolding library listed_items
listed-outside objects kind count first size units = refl

pub items-outside : (arguments' : List CValue) (objects : List Object) (kind count first size : CValue) (rows : List Row) (result : CallResult) →
    kind ∷ count ∷ first ∷ size ∷ [] ≡ arguments' → result ≡ broken_by fault.Library → Calls do_lio arguments' objects objects None None rows rows result
items-outside arguments' objects kind count first size rows result same is =
    arguments-same do_lio (kind ∷ count ∷ first ∷ size ∷ []) arguments' objects objects None None rows rows (broken_by fault.Library) result same is
    (fault-outside do_lio (kind ∷ count ∷ first ∷ size ∷ []) objects rows fault.Library (listed-outside objects kind count first size))

-- no device fails where the rows stay
same-rows : (output : ListedOutput) (old new : List Row) → new ≡ old → Breaks do_lio (going.ListedOutput output) old new
same-rows output old new same =
    record { none = subst (λ (rows : List Row). NoneFailed old rows) (sym same) (none-failed old); rows = λ tells transfer stands. all_stood same }

items-called : (objects : List Object) (arguments : List CValue) (output output' : ListedOutput) (old new : List Row) (passage : Result Passage CallEnd) →
    AnswersItems objects arguments output output' old new passage →
    Calls do_lio arguments objects objects (Some (going.ListedOutput output)) (behind_items passage (going.ListedOutput output) (going.ListedOutput output')) old new (passed_by passage)
items-called objects arguments output output' old new (Ok GoesOn) on =
    inside (passed_by (Ok GoesOn)) on.tells
    (λ tells transfer stands. let goes = on.replies tells transfer stands in record { transfer = Some goes.transfer; in_progress = goes.stands; holds = goes.replies }) on.devices
    (same-objects objects)
items-called objects arguments output output' old new (Ok (Over number)) on = ended-inside (Ok number) on.tells on.replies on.devices (same-objects objects)
items-called objects arguments output output' old new (Err (Fault why)) on =
    inside (passed_by (Err (Fault why))) on.tells (λ tells transfer stands. record { transfer = Some transfer; in_progress = stands; holds = on.replies tells transfer stands })
    (same-rows output old new on.devices) (same-objects objects)
items-called objects arguments output output' old new (Err (Ended number)) on = ended-inside (Err (Ended number)) on.tells on.replies on.devices (same-objects objects)
items-called objects arguments output output' old new (Err (Device unit)) on =
    ended-inside (Err (Device unit)) on.tells (λ tells transfer stands. tt) (record { own = on.devices.0; failed = on.devices.1; called_on = λ transfer. refl }) (same-objects objects)

pub items-put : (arguments arguments' : List CValue) (objects : List Object) (output output' : ListedOutput) (old new : List Row) (passage : Result Passage CallEnd)
    (held held' : Option TransferInProgress) (result : CallResult) → arguments ≡ arguments' → held ≡ Some (going.ListedOutput output) → held' ≡ behind_items passage (going.ListedOutput output) (going.ListedOutput output') →
    result ≡ passed_by passage → AnswersItems objects arguments output output' old new passage → Calls do_lio arguments' objects objects held held' old new result
items-put arguments arguments' objects output output' old new passage held held' result same holds behind is on =
    calls-as arguments arguments' held (Some (going.ListedOutput output)) held' (behind_items passage (going.ListedOutput output) (going.ListedOutput output')) result (passed_by passage) same
    holds behind is (items-called objects arguments output output' old new passage on)

-- ITEMS UNDER A FORMAT
formatted-outside : (objects : List Object) (count first size : CValue) (units : Units) →
    library do_fio (world_of objects units None) (count ∷ first ∷ size ∷ []) ≡ failing fault.Library
unfolding library formatted_items
formatted-outside objects count first size units = refl

pub format-outside : (arguments' : List CValue) (objects : List Object) (count first size : CValue) (result : CallResult) → count ∷ first ∷ size ∷ [] ≡ arguments' →
    result ≡ broken_by fault.Library → (rows : List Row) → Calls do_fio arguments' objects objects None None rows rows result
format-outside arguments' objects count first size result same is rows =
    arguments-same do_fio (count ∷ first ∷ size ∷ []) arguments' objects objects None None rows rows (broken_by fault.Library) result same is
    (fault-outside do_fio (count ∷ first ∷ size ∷ []) objects rows fault.Library (formatted-outside objects count first size))

abbrev pub erring : (A : Type 0) → Break → Or A
erring A reason = Err reason

-- the same fault in the place of another value
pub same-fault : (A B : Type 0) (reason : Break) (why : CFault) → erring A reason ≡ failing why → erring B reason ≡ failing why
same-fault A B reason why is =
    let same : reason ≡ Faults why = cc in ap (λ (r : Break). erring B r) same

failing-at : (number : Or ℤ) (many : ℤ → Or ℕ) (length : Or ℕ) (rest : ℕ → ℕ → Or Reply) (why : CFault) → ((count size : ℕ) → rest count size ≡ failing fault.Library) →
    after number (λ n. after (many n) (λ count. after length (λ size. failing {A = Unit {0}} fault.Library))) ≡ failing why →
    after number (λ n. after (many n) (λ count. after length (λ size. rest count size))) ≡ failing why
failing-at (Err reason) many length rest why fails is = same-fault (Unit {0}) Reply reason why is
failing-at (Ok number) many length rest why fails is = counted (many number) length is
  where
    counted : (count : Or ℕ) (length : Or ℕ) → after count (λ count. after length (λ size. failing {A = Unit {0}} fault.Library)) ≡ failing why →
        after count (λ count. after length (λ size. rest count size)) ≡ failing why
    counted (Err reason) length is = same-fault (Unit {0}) Reply reason why is
    counted (Ok count) (Err reason) is = same-fault (Unit {0}) Reply reason why is
    counted (Ok count) (Ok size) is = fails count size ∙ same-fault (Unit {0}) Reply (Faults fault.Library) why is

-- no transfer under a format is in progress
pub record NoFormat (held : TransferInProgress) : Type 0 where
  pub on_unit : (output : FormattedInProgress) → held ≡ going.FormattedOutput output → ⊥
  pub from_unit : (input : InputInProgress) → held ≡ going.FormattedInput input → ⊥
  pub in_file : (output : InternalInProgress) → held ≡ going.InternalFormatted output → ⊥
  pub from_file : (input : InternalInputInProgress) → held ≡ going.InternalFormattedInput input → ⊥

listed-layout : (held : TransferInProgress) (transfer : Transfer) → NoFormat held → InProgress (Some held) (Some transfer) → transfer.layout ≡ Listed
listed-layout (going.ListedOutput output) transfer other stands = stands.layout
listed-layout (going.ListedInput input) transfer other stands = stands.layout
listed-layout (going.InternalOutput output) transfer other stands = stands.layout
listed-layout (going.InternalInput input) transfer other stands = stands.layout
listed-layout (going.FormattedOutput output) transfer other stands = absurd (other.on_unit output refl)
listed-layout (going.FormattedInput input) transfer other stands = absurd (other.from_unit input refl)
listed-layout (going.InternalFormatted output) transfer other stands = absurd (other.in_file output refl)
listed-layout (going.InternalFormattedInput input) transfer other stands = absurd (other.from_file input refl)

formatted-listed : (objects : List Object) (count first size : CValue) (why : CFault) (units : Units) (transfer : Transfer) → transfer.layout ≡ Listed →
    formatted_fault objects count size ≡ failing why → library do_fio (world_of objects units (Some transfer)) (count ∷ first ∷ size ∷ []) ≡ failing why
unfolding library formatted_items
formatted-listed objects count first size why units transfer listed is =
    failing-at (number_through objects count) count_from (length_from size) (λ many length. formatted_by transfer.layout length many first transfer (world_of objects units (Some transfer))) why
    (λ many length. ap (λ (layout : Layout). formatted_by layout length many first transfer (world_of objects units (Some transfer))) listed) is

pub format-inside : (arguments' : List CValue) (objects : List Object) (count first size : CValue) (why : CFault) (held : TransferInProgress) (result : CallResult) →
    count ∷ first ∷ size ∷ [] ≡ arguments' → result ≡ broken_by why → NoFormat held → formatted_fault objects count size ≡ failing why → (rows : List Row) →
    Calls do_fio arguments' objects objects (Some held) (Some held) rows rows result
format-inside arguments' objects count first size why held result same is other faulty rows =
    arguments-same do_fio (count ∷ first ∷ size ∷ []) arguments' objects objects (Some held) (Some held) rows rows (broken_by why) result same is
    (inside (broken_by why) (λ tells. tells)
    (λ tells transfer stands. record {
      transfer = Some transfer;
      in_progress = stands;
      holds = formatted-listed objects count first size why (units_of rows) transfer (listed-layout held transfer other stands) faulty;
    }) (breaks-still do_fio held rows) (same-objects objects))

pub fault-first : (objects : List Object) (count size : CValue) (why : CFault) → failing why ≡ number_through objects count → formatted_fault objects count size ≡ failing why
fault-first objects count size why is = ap (λ (number : Or ℤ). after number (λ n. after (count_from n) (λ many. after (length_from size) (λ length. failing {A = Unit {0}} fault.Library)))) (sym is)

pub fault-second : (objects : List Object) (count size : CValue) (number number' : ℤ) (why : CFault) → number' ≡ number → Ok number ≡ number_through objects count →
    failing why ≡ count_from number' → formatted_fault objects count size ≡ failing why
fault-second objects count size number number' why same known is =
    ap (λ (number : Or ℤ). after number (λ n. after (count_from n) (λ many. after (length_from size) (λ length. failing {A = Unit {0}} fault.Library)))) (sym known)
    ∙ ap (λ (many : Or ℕ). after many (λ many. after (length_from size) (λ length. failing {A = Unit {0}} fault.Library))) (sym (is ∙ ap count_from same))

pub fault-third : (objects : List Object) (count size : CValue) (number number' : ℤ) (many : ℕ) (length : Or ℕ) (why : CFault) → number' ≡ number →
    Ok number ≡ number_through objects count → Ok many ≡ count_from number' → length ≡ length_from size → after length (λ n. failing {A = Unit {0}} fault.Library) ≡ failing why →
    formatted_fault objects count size ≡ failing why
fault-third objects count size number number' many length why same known counted is fails =
    ap (λ (number : Or ℤ). after number (λ n. after (count_from n) (λ many. after (length_from size) (λ length. failing {A = Unit {0}} fault.Library)))) (sym known)
    ∙ ap (λ (many : Or ℕ). after many (λ many. after (length_from size) (λ length. failing {A = Unit {0}} fault.Library))) (sym (counted ∙ ap count_from same))
    ∙ ap (λ (length : Or ℕ). after length (λ n. failing {A = Unit {0}} fault.Library)) (sym is) ∙ fails
