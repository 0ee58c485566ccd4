-- What a call does, by what its meaning gives: in a transfer, outside every one, and whichever is in progress.
use Rattle.std.proofs.Common.{◌≡◌, ℤ, Bool, true, List, Option, Some, None, refl, ap, ◌∙◌, sym, subst}
use Rattle.std.specs.Prelude.{if◌then◌else◌, Result, Ok, Err}
use Rattle.c_tree.specs.run_state.Units.{Units}
use Rattle.c_tree.specs.declared.outcome.CValue.{CValue}
use Rattle.c_tree.specs.declared.outcome.CFault.{CFault}
use Rattle.c_tree.specs.Faults.{Or, failing}
use Rattle.c_tree.specs.Objects.{Object}
use Rattle.c_tree.specs.World.{World, Transfer, Reply}
use Rattle.c_tree.specs.Builtins.{Builtin}
use Rattle.c_tree.specs.Library.{library}
use Rattle.item_deeds.specs.Deeds.{world_of}
use Rattle.item_deeds.specs.Forms.{SameForms}
use Rattle.item_deeds.proofs.FormLaws.{same-objects}
use Rattle.f2c_outside.specs.Table.{Row}
use Rattle.f2c_outside.specs.Meaning.{Tells, units_of}
use Rattle.unit_answers.specs.declared.ends.CallEnd.{CallEnd}
use Rattle.unit_answers.specs.declared.ends.CallEnd.TheVariants.{Fault, Ended, Device}
use Rattle.unit_answers.specs.Failing.{FailedOn, NoneFailed}
use Rattle.unit_answers.specs.Answers.{Replies, IfDevice, IfFault}
use Rattle.listed_output.specs.Writing.{StayedOn}
use Rattle.listed_output.proofs.RowLaws.{stays-quietly}
use Rattle.unit_answers.proofs.FailureLaws.{none-failed}
use Rattle.run_library.specs.declared.library.CallBreak.TheVariants as broken
use Rattle.run_library.specs.Kept.{OthersStand, KeepsIn}
use Rattle.run_library.specs.UnitsCalled.{unit_of_call, unit_in_progress, unit_of_medium, is_on, is_of_transfer, transfer_of_call}
use Rattle.run_library.specs.Replies.{CountsOn, break_of, reply_of}
use Rattle.run_library.proofs.KeptLaws.{same-kept}
use Rattle.unit_library.specs.declared.transfers.TransferInProgress.{TransferInProgress}
use Rattle.unit_library.specs.declared.transfers.TransferInProgress.TheVariants as going
use Rattle.unit_library.specs.Endings.{ending_of}
use Rattle.unit_library.specs.Replies.{CallResult, broken_by, ended_by}
use Rattle.unit_library.specs.Transfers.{InProgress, Standing}
use Rattle.unit_library.specs.Uncounted.{IsFarBehind}
use Rattle.unit_library.specs.Calls.{Calls, AnswersCall}
use Rattle.unit_library.proofs.KeptUnits.{IsMoved, keeps-moved, others-stayed, others-failed}

-- more is to be counted than 64 bits tell of the unit of a call, which stands far behind
abbrev pub Counts : Builtin → List CValue → List Object → Option TransferInProgress → List Row → List Row → Type 0
Counts builtin arguments objects held old new = CountsOn (λ world unit. is_on builtin world arguments unit) objects (Standing old held) (λ unit. IsFarBehind unit new)

-- what a call tells besides its meaning: the device of a unit failed, and no other, or none did; its unit stands far behind
abbrev pub Told : Builtin → List CValue → List Object → Option TransferInProgress → List Row → List Row → CallResult → Type 0
Told builtin arguments objects held old new (Ok given) = NoneFailed old new
Told builtin arguments objects held old new (Err (broken.Break why)) = NoneFailed old new
Told builtin arguments objects held old new (Err (broken.Device unit)) = FailedOn unit old new
Told builtin arguments objects held old new (Err broken.Uncounted) = NoneFailed old new × Counts builtin arguments objects held old new

pub called : {builtin : Builtin} {arguments : List CValue} {objects objects' : List Object} {held held' : Option TransferInProgress} {rows rows' : List Row} (result : CallResult) →
    ((units : Units) → (transfer : Option Transfer) → Standing rows held units transfer →
    AnswersCall builtin arguments (world_of objects units transfer) (Standing rows' held') objects' result) →
    Told builtin arguments objects held rows rows' result → SameForms objects objects' → Calls builtin arguments objects objects' held held' rows rows' result
called (Ok given) meaning told kept = record { meaning = meaning; counted = tt; devices = told; forms = kept }
called (Err (broken.Break why)) meaning told kept = record { meaning = meaning; counted = tt; devices = told; forms = kept }
called (Err (broken.Device unit)) meaning told kept = record { meaning = meaning; counted = tt; devices = told; forms = kept }
called (Err broken.Uncounted) meaning told kept = record { meaning = meaning; counted = told.1; devices = told.0; forms = kept }

-- a transfer for which stands what is held of it behind a call, and what holds of the world with it
pub record Left (objects : List Object) (units : Units) (held : Option TransferInProgress) (Holds : World → Type 0) : Type 0 where
  pub transfer : Option Transfer
  pub in_progress : InProgress held transfer
  pub holds : Holds (world_of objects units transfer)

-- the meaning of a call gives what it replied, and leaves these objects, these units and such a transfer
abbrev pub Leaves : Or Reply → List Object → Units → Option TransferInProgress → CallResult → Type 0
Leaves meaning objects units held (Ok given) = Left objects units held (λ behind. meaning ≡ Ok (reply_of ending_of behind given))
Leaves meaning objects units held (Err (broken.Break why)) = Left objects units held (λ behind. meaning ≡ Err (break_of why))
Leaves meaning objects units held (Err (broken.Device unit)) = Left objects units held (λ behind. Unit {0})
Leaves meaning objects units held (Err broken.Uncounted) = Unit {0}

-- which units are as they were behind a call that breaks, and where a device failed
abbrev KeptBy : Builtin → List CValue → List Object → Option Transfer → List Row → List Row → CallResult → Type 0
KeptBy builtin arguments objects transfer old new (Ok given) = Unit {0}
KeptBy builtin arguments objects transfer old new (Err (broken.Break why)) = KeepsIn (transfer_of_call builtin transfer) (units_of old) (units_of new)
KeptBy builtin arguments objects transfer old new (Err (broken.Device unit)) =
    (unit_of_call builtin objects transfer arguments ≡ Some unit) × OthersStand unit (units_of old) (units_of new)
KeptBy builtin arguments objects transfer old new (Err broken.Uncounted) = Unit {0}

answered : (builtin : Builtin) (arguments : List CValue) (objects objects' : List Object) (units : Units) (transfer : Option Transfer) (held' : Option TransferInProgress) (rows rows' : List Row)
    (result : CallResult) → Tells rows' → units ≡ units_of rows → Leaves (library builtin (world_of objects (units_of rows) transfer) arguments) objects' (units_of rows') held' result →
    KeptBy builtin arguments objects transfer rows rows' result → AnswersCall builtin arguments (world_of objects units transfer) (Standing rows' held') objects' result
answered builtin arguments objects objects' units transfer held' rows rows' (Ok given) tells means leaves kept = record {
  units = units_of rows';
  transfer = leaves.transfer;
  stood = record { tells = tells; means = refl; in_progress = leaves.in_progress };
  holds = ap (λ (u : Units). library builtin (world_of objects u transfer) arguments) means ∙ leaves.holds;
}
answered builtin arguments objects objects' units transfer held' rows rows' (Err (broken.Break why)) tells means leaves kept = record {
  units = units_of rows';
  transfer = leaves.transfer;
  stood = record { tells = tells; means = refl; in_progress = leaves.in_progress };
  holds = (
    ap (λ (u : Units). library builtin (world_of objects u transfer) arguments) means ∙ leaves.holds,
    subst (λ (u : Units). KeepsIn (transfer_of_call builtin transfer) u (units_of rows')) (sym means) kept,
  );
}
answered builtin arguments objects objects' units transfer held' rows rows' (Err (broken.Device unit)) tells means leaves kept = record {
  units = units_of rows';
  transfer = leaves.transfer;
  stood = record { tells = tells; means = refl; in_progress = leaves.in_progress };
  holds = (kept.0, subst (λ (u : Units). OthersStand unit u (units_of rows')) (sym means) kept.1);
}
answered builtin arguments objects objects' units transfer held' rows rows' (Err broken.Uncounted) tells means leaves kept = tt

-- what is held of a transfer stands for one
pub never-none : (held : TransferInProgress) → InProgress (Some held) None → ⊥
never-none (going.ListedOutput output) stands = stands
never-none (going.ListedInput input) stands = stands
never-none (going.InternalOutput output) stands = stands
never-none (going.InternalInput input) stands = stands
never-none (going.FormattedOutput held) stands = stands
never-none (going.FormattedInput held) stands = stands
never-none (going.InternalFormatted held) stands = stands
never-none (going.InternalFormattedInput held) stands = stands

-- the unit of a transfer
abbrev pub IsOwn : TransferInProgress → ℤ → Type 0
IsOwn (going.ListedOutput output) unit = unit ≡ output.unit
IsOwn (going.ListedInput input) unit = unit ≡ input.unit
IsOwn (going.InternalOutput output) unit = ⊥
IsOwn (going.InternalInput input) unit = ⊥
IsOwn (going.FormattedOutput held) unit = unit ≡ held.output.unit
IsOwn (going.FormattedInput held) unit = unit ≡ held.input.unit
IsOwn (going.InternalFormatted held) unit = ⊥
IsOwn (going.InternalFormattedInput held) unit = ⊥

its-own : (held : TransferInProgress) (transfer : Transfer) (unit : ℤ) → IsOwn held unit → InProgress (Some held) (Some transfer) → unit_in_progress (Some transfer) ≡ Some unit
its-own (going.ListedOutput output) transfer unit own stands = ap unit_of_medium stands.medium ∙ ap Some (sym own)
its-own (going.ListedInput input) transfer unit own stands = ap unit_of_medium stands.medium ∙ ap Some (sym own)
its-own (going.InternalOutput output) transfer unit own stands = absurd own
its-own (going.InternalInput input) transfer unit own stands = absurd own
its-own (going.FormattedOutput held) transfer unit own stands = ap unit_of_medium stands.medium ∙ ap Some (sym own)
its-own (going.FormattedInput held) transfer unit own stands = ap unit_of_medium stands.medium ∙ ap Some (sym own)
its-own (going.InternalFormatted held) transfer unit own stands = absurd own
its-own (going.InternalFormattedInput held) transfer unit own stands = absurd own

-- the rows behind a call that breaks in a transfer: as they were, or its items or its end called the device of its unit
pub data Broke (builtin : Builtin) (held : TransferInProgress) (transfer : Transfer) (old new : List Row) : Type 0 where
  all_stood : new ≡ old → Broke builtin held transfer old new
  moved : (unit : ℤ) → IsMoved held unit → is_of_transfer builtin transfer ≡ true → StayedOn unit old new → Broke builtin held transfer old new

pub record Breaks (builtin : Builtin) (held : TransferInProgress) (old new : List Row) : Type 0 where
  pub none : NoneFailed old new
  pub rows : Tells old → (transfer : Transfer) → InProgress (Some held) (Some transfer) → Broke builtin held transfer old new

pub breaks-still : (builtin : Builtin) (held : TransferInProgress) (rows : List Row) → Breaks builtin held rows rows
breaks-still builtin held rows = record { none = none-failed rows; rows = λ tells transfer stands. all_stood refl }

pub breaks-moved : (builtin : Builtin) (held : TransferInProgress) (unit : ℤ) (old new : List Row) → IsMoved held unit →
    ((transfer : Transfer) → InProgress (Some held) (Some transfer) → is_of_transfer builtin transfer ≡ true) → StayedOn unit old new → Breaks builtin held old new
breaks-moved builtin held unit old new own is stays = record { none = stays-quietly unit old new stays; rows = λ tells transfer stands. moved unit own (is transfer stands) stays }

-- the device of the unit of the transfer failed, in a call that is on it
pub record FailsOn (builtin : Builtin) (arguments : List CValue) (objects : List Object) (held : TransferInProgress) (unit : ℤ) (old new : List Row) : Type 0 where
  pub own : IsOwn held unit
  pub failed : FailedOn unit old new
  pub called_on : (transfer : Transfer) → unit_of_call builtin objects (Some transfer) arguments ≡ unit_in_progress (Some transfer)

-- more is to be counted than 64 bits tell of the unit of the transfer, in a call that is on it
pub record CountsInside (builtin : Builtin) (arguments : List CValue) (objects : List Object) (held : TransferInProgress) (old new : List Row) : Type 0 where
  pub unit : ℤ
  pub own : IsOwn held unit
  pub called_on : (transfer : Transfer) → unit_of_call builtin objects (Some transfer) arguments ≡ unit_in_progress (Some transfer)
  pub far : IsFarBehind unit new

counts-inside : (builtin : Builtin) (arguments : List CValue) (objects : List Object) (held : TransferInProgress) (old new : List Row) → CountsInside builtin arguments objects held old new →
    Counts builtin arguments objects (Some held) old new
counts-inside builtin arguments objects held old new counts = record { unit = counts.unit; on = on; far = counts.far }
  where
    on : (units : Units) → (transfer : Option Transfer) → Standing old (Some held) units transfer → is_on builtin (world_of objects units transfer) arguments counts.unit
    on units None standing = absurd (never-none held standing.in_progress)
    on units (Some transfer) standing = counts.called_on transfer ∙ its-own held transfer counts.unit counts.own standing.in_progress

-- what a call in a transfer tells
abbrev pub ToldInside : Builtin → List CValue → List Object → TransferInProgress → List Row → List Row → CallResult → Type 0
ToldInside builtin arguments objects held old new (Ok given) = NoneFailed old new
ToldInside builtin arguments objects held old new (Err (broken.Break why)) = Breaks builtin held old new
ToldInside builtin arguments objects held old new (Err (broken.Device unit)) = FailsOn builtin arguments objects held unit old new
ToldInside builtin arguments objects held old new (Err broken.Uncounted) = NoneFailed old new × CountsInside builtin arguments objects held old new

inside-told : (builtin : Builtin) (arguments : List CValue) (objects : List Object) (held : TransferInProgress) (old new : List Row) (result : CallResult) →
    ToldInside builtin arguments objects held old new result → Told builtin arguments objects (Some held) old new result
inside-told builtin arguments objects held old new (Ok given) told = told
inside-told builtin arguments objects held old new (Err (broken.Break why)) told = told.none
inside-told builtin arguments objects held old new (Err (broken.Device unit)) told = told.failed
inside-told builtin arguments objects held old new (Err broken.Uncounted) told = (told.0, counts-inside builtin arguments objects held old new told.1)

broke-kept : (builtin : Builtin) (held : TransferInProgress) (transfer : Transfer) (old new : List Row) → InProgress (Some held) (Some transfer) → Broke builtin held transfer old new →
    KeepsIn (transfer_of_call builtin (Some transfer)) (units_of old) (units_of new)
broke-kept builtin held transfer old new stands (all_stood same) = same-kept (transfer_of_call builtin (Some transfer)) (units_of old) (units_of new) (ap units_of same)
broke-kept builtin held transfer old new stands (moved unit own is stays) =
    subst (λ (b : Bool). KeepsIn (if b then Some transfer else None) (units_of old) (units_of new)) (sym is)
    (keeps-moved held transfer unit (units_of old) (units_of new) own stands (others-stayed unit old new stays))

inside-kept : (builtin : Builtin) (arguments : List CValue) (objects : List Object) (held : TransferInProgress) (transfer : Transfer) (old new : List Row) (result : CallResult) → Tells old →
    InProgress (Some held) (Some transfer) → ToldInside builtin arguments objects held old new result → KeptBy builtin arguments objects (Some transfer) old new result
inside-kept builtin arguments objects held transfer old new (Ok given) tells stands told = tt
inside-kept builtin arguments objects held transfer old new (Err (broken.Break why)) tells stands told = broke-kept builtin held transfer old new stands (told.rows tells transfer stands)
inside-kept builtin arguments objects held transfer old new (Err (broken.Device unit)) tells stands told =
    (told.called_on transfer ∙ its-own held transfer unit told.own stands, others-failed unit old new told.failed)
inside-kept builtin arguments objects held transfer old new (Err broken.Uncounted) tells stands told = tt

-- a call in a transfer
pub inside : {builtin : Builtin} {arguments : List CValue} {objects objects' : List Object} {held : TransferInProgress} {held' : Option TransferInProgress} {rows rows' : List Row} (result : CallResult) →
    (Tells rows → Tells rows') →
    (Tells rows → (transfer : Transfer) → InProgress (Some held) (Some transfer) →
    Leaves (library builtin (world_of objects (units_of rows) (Some transfer)) arguments) objects' (units_of rows') held' result) →
    ToldInside builtin arguments objects held rows rows' result → SameForms objects objects' → Calls builtin arguments objects objects' (Some held) held' rows rows' result
inside {builtin} {arguments} {objects} {objects'} {held} {held'} {rows} {rows'} result tells gives told kept =
    called result by (inside-told builtin arguments objects held rows rows' result told) kept
  where
    by : (units : Units) → (transfer : Option Transfer) → Standing rows (Some held) units transfer →
        AnswersCall builtin arguments (world_of objects units transfer) (Standing rows' held') objects' result
    by units None standing = absurd (never-none held standing.in_progress)
    by units (Some transfer) standing =
        answered builtin arguments objects objects' units (Some transfer) held' rows rows' result (tells standing.tells) standing.means (gives standing.tells transfer standing.in_progress)
        (inside-kept builtin arguments objects held transfer rows rows' result standing.tells standing.in_progress told)

-- what a call outside every transfer tells: besides, that the rows are as they were where it breaks, and that it is on the unit whose device
-- failed
abbrev pub ToldOutside : Builtin → List CValue → List Object → List Row → List Row → CallResult → Type 0
ToldOutside builtin arguments objects old new (Ok given) = NoneFailed old new
ToldOutside builtin arguments objects old new (Err (broken.Break why)) = new ≡ old
ToldOutside builtin arguments objects old new (Err (broken.Device unit)) = (unit_of_call builtin objects None arguments ≡ Some unit) × FailedOn unit old new
ToldOutside builtin arguments objects old new (Err broken.Uncounted) = ⊥

outside-told : (builtin : Builtin) (arguments : List CValue) (objects : List Object) (old new : List Row) (result : CallResult) → ToldOutside builtin arguments objects old new result →
    Told builtin arguments objects None old new result
outside-told builtin arguments objects old new (Ok given) told = told
outside-told builtin arguments objects old new (Err (broken.Break why)) told = subst (NoneFailed old) (sym told) (none-failed old)
outside-told builtin arguments objects old new (Err (broken.Device unit)) told = told.1
outside-told builtin arguments objects old new (Err broken.Uncounted) told = absurd told

outside-kept : (builtin : Builtin) (arguments : List CValue) (objects : List Object) (old new : List Row) (result : CallResult) → ToldOutside builtin arguments objects old new result →
    KeptBy builtin arguments objects None old new result
outside-kept builtin arguments objects old new (Ok given) told = tt
outside-kept builtin arguments objects old new (Err (broken.Break why)) told = ap units_of told
outside-kept builtin arguments objects old new (Err (broken.Device unit)) told = (told.0, others-failed unit old new told.1)
outside-kept builtin arguments objects old new (Err broken.Uncounted) told = absurd told

-- a call outside every transfer
pub outside : {builtin : Builtin} {arguments : List CValue} {objects objects' : List Object} {held' : Option TransferInProgress} {rows rows' : List Row} (result : CallResult) →
    (Tells rows → Tells rows') → (Tells rows → Leaves (library builtin (world_of objects (units_of rows) None) arguments) objects' (units_of rows') held' result) →
    ToldOutside builtin arguments objects rows rows' result → SameForms objects objects' → Calls builtin arguments objects objects' None held' rows rows' result
outside {builtin} {arguments} {objects} {objects'} {held'} {rows} {rows'} result tells gives told kept =
    called result by (outside-told builtin arguments objects rows rows' result told) kept
  where
    by : (units : Units) → (transfer : Option Transfer) → Standing rows None units transfer →
        AnswersCall builtin arguments (world_of objects units transfer) (Standing rows' held') objects' result
    by units transfer standing =
        subst (λ (t : Option Transfer). AnswersCall builtin arguments (world_of objects units t) (Standing rows' held') objects' result) (sym standing.in_progress)
        (answered builtin arguments objects objects' units None held' rows rows' result (tells standing.tells) standing.means (gives standing.tells)
        (outside-kept builtin arguments objects rows rows' result told))

-- the meaning of a call gives what it replied with this world, whatever its units and its transfer
abbrev pub Gives : Or Reply → World → CallResult → Type 0
Gives meaning behind (Ok given) = meaning ≡ Ok (reply_of ending_of behind given)
Gives meaning behind (Err (broken.Break why)) = meaning ≡ Err (break_of why)
Gives meaning behind (Err (broken.Device unit)) = ⊥
Gives meaning behind (Err broken.Uncounted) = Unit {0}

given-any : (builtin : Builtin) (arguments : List CValue) (objects objects' : List Object) (held : Option TransferInProgress) (rows : List Row) (units : Units) (transfer : Option Transfer)
    (result : CallResult) → Standing rows held units transfer → Gives (library builtin (world_of objects units transfer) arguments) (world_of objects' units transfer) result →
    AnswersCall builtin arguments (world_of objects units transfer) (Standing rows held) objects' result
given-any builtin arguments objects objects' held rows units transfer (Ok given) standing gives =
    record { units = units; transfer = transfer; stood = standing; holds = gives }
given-any builtin arguments objects objects' held rows units transfer (Err (broken.Break why)) standing gives =
    record { units = units; transfer = transfer; stood = standing; holds = (gives, same-kept (transfer_of_call builtin transfer) units units refl) }
given-any builtin arguments objects objects' held rows units transfer (Err (broken.Device unit)) standing gives = absurd gives
given-any builtin arguments objects objects' held rows units transfer (Err broken.Uncounted) standing gives = tt

-- a call that leaves the units and the transfer, whichever is in progress
pub anywhere : {builtin : Builtin} {arguments : List CValue} {objects objects' : List Object} {held : Option TransferInProgress} {rows : List Row} (result : CallResult) →
    ((units : Units) → (transfer : Option Transfer) → Gives (library builtin (world_of objects units transfer) arguments) (world_of objects' units transfer) result) →
    Told builtin arguments objects held rows rows result → SameForms objects objects' → Calls builtin arguments objects objects' held held rows rows result
anywhere {builtin} {arguments} {objects} {objects'} {held} {rows} result gives told kept =
    called result (λ units transfer standing. given-any builtin arguments objects objects' held rows units transfer result standing (gives units transfer)) told kept

-- CALLS THAT HAVE A FAULT
pub fault-inside : (builtin : Builtin) (arguments : List CValue) (objects : List Object) (held : TransferInProgress) (rows : List Row) (why : CFault) →
    ((units : Units) → (transfer : Transfer) → library builtin (world_of objects units (Some transfer)) arguments ≡ failing why) →
    Calls builtin arguments objects objects (Some held) (Some held) rows rows (broken_by why)
fault-inside builtin arguments objects held rows why fails =
    inside (broken_by why) (λ tells. tells) (λ tells transfer stands. record { transfer = Some transfer; in_progress = stands; holds = fails (units_of rows) transfer })
    (breaks-still builtin held rows) (same-objects objects)

pub fault-outside : (builtin : Builtin) (arguments : List CValue) (objects : List Object) (rows : List Row) (why : CFault) →
    ((units : Units) → library builtin (world_of objects units None) arguments ≡ failing why) → Calls builtin arguments objects objects None None rows rows (broken_by why)
fault-outside builtin arguments objects rows why fails =
    outside (broken_by why) (λ tells. tells) (λ tells. record { transfer = None; in_progress = refl; holds = fails (units_of rows) }) refl (same-objects objects)

-- CALLS BEHIND WHICH NO TRANSFER IS IN PROGRESS
-- what an answer in a transfer tells
abbrev pub EndsInside : Builtin → List CValue → List Object → TransferInProgress → List Row → List Row → Result ℤ CallEnd → Type 0
EndsInside builtin arguments objects held old new (Ok number) = NoneFailed old new
EndsInside builtin arguments objects held old new (Err (Fault why)) = Breaks builtin held old new
EndsInside builtin arguments objects held old new (Err (Ended number)) = NoneFailed old new
EndsInside builtin arguments objects held old new (Err (Device unit)) = FailsOn builtin arguments objects held unit old new

-- the end of a transfer
pub ended-inside : {builtin : Builtin} {arguments : List CValue} {objects objects' : List Object} {held : TransferInProgress} {rows rows' : List Row} (answer : Result ℤ CallEnd) →
    (Tells rows → Tells rows') →
    (Tells rows → (transfer : Transfer) → InProgress (Some held) (Some transfer) →
    Replies (library builtin (world_of objects (units_of rows) (Some transfer)) arguments) (world_of objects' (units_of rows') None) answer) →
    EndsInside builtin arguments objects held rows rows' answer → SameForms objects objects' →
    Calls builtin arguments objects objects' (Some held) None rows rows' (ended_by answer)
ended-inside (Ok number) tells replies told kept =
    inside (ended_by (Ok number)) tells (λ before transfer stands. record { transfer = None; in_progress = refl; holds = replies before transfer stands }) told kept
ended-inside (Err (Fault why)) tells replies told kept =
    inside (ended_by (Err (Fault why))) tells (λ before transfer stands. record { transfer = None; in_progress = refl; holds = replies before transfer stands }) told kept
ended-inside (Err (Ended number)) tells replies told kept =
    inside (ended_by (Err (Ended number))) tells (λ before transfer stands. record { transfer = None; in_progress = refl; holds = replies before transfer stands }) told kept
ended-inside (Err (Device unit)) tells replies told kept =
    inside (ended_by (Err (Device unit))) tells (λ before transfer stands. record { transfer = None; in_progress = refl; holds = tt }) told kept

-- what an answer outside every transfer tells
abbrev pub EndsOutside : Builtin → List CValue → List Object → List Row → List Row → Result ℤ CallEnd → Type 0
EndsOutside builtin arguments objects old new (Ok number) = NoneFailed old new
EndsOutside builtin arguments objects old new (Err (Fault why)) = new ≡ old
EndsOutside builtin arguments objects old new (Err (Ended number)) = NoneFailed old new
EndsOutside builtin arguments objects old new (Err (Device unit)) = (unit_of_call builtin objects None arguments ≡ Some unit) × FailedOn unit old new

pub ends-so : (builtin : Builtin) (arguments : List CValue) (objects : List Object) (old new : List Row) (answer : Result ℤ CallEnd) → IfDevice answer (λ unit. FailedOn unit old new) (NoneFailed old new) →
    IfFault answer (new ≡ old) → IfDevice answer (λ unit. unit_of_call builtin objects None arguments ≡ Some unit) (Unit {0}) → EndsOutside builtin arguments objects old new answer
ends-so builtin arguments objects old new (Ok number) told kept on = told
ends-so builtin arguments objects old new (Err (Fault why)) told kept on = kept
ends-so builtin arguments objects old new (Err (Ended number)) told kept on = told
ends-so builtin arguments objects old new (Err (Device unit)) told kept on = (on, told)

-- a call outside every transfer with which none begins
pub ended-outside : {builtin : Builtin} {arguments : List CValue} {objects objects' : List Object} {rows rows' : List Row} (answer : Result ℤ CallEnd) → (Tells rows → Tells rows') →
    (Tells rows → Replies (library builtin (world_of objects (units_of rows) None) arguments) (world_of objects' (units_of rows') None) answer) →
    EndsOutside builtin arguments objects rows rows' answer → SameForms objects objects' →
    Calls builtin arguments objects objects' None None rows rows' (ended_by answer)
ended-outside (Ok number) tells replies told kept =
    outside (ended_by (Ok number)) tells (λ before. record { transfer = None; in_progress = refl; holds = replies before }) told kept
ended-outside (Err (Fault why)) tells replies told kept =
    outside (ended_by (Err (Fault why))) tells (λ before. record { transfer = None; in_progress = refl; holds = replies before }) told kept
ended-outside (Err (Ended number)) tells replies told kept =
    outside (ended_by (Err (Ended number))) tells (λ before. record { transfer = None; in_progress = refl; holds = replies before }) told kept
ended-outside (Err (Device unit)) tells replies told kept =
    outside (ended_by (Err (Device unit))) tells (λ before. record { transfer = None; in_progress = refl; holds = tt }) told kept

-- an internal file has no device
pub no-device : (builtin : Builtin) (arguments : List CValue) (objects : List Object) (held : TransferInProgress) (answer : Result ℤ CallEnd) (rows : List Row) → IfDevice answer (λ unit. ⊥) (Unit {0}) →
    EndsInside builtin arguments objects held rows rows answer
no-device builtin arguments objects held (Ok number) rows told = none-failed rows
no-device builtin arguments objects held (Err (Fault why)) rows told = breaks-still builtin held rows
no-device builtin arguments objects held (Err (Ended number)) rows told = none-failed rows
no-device builtin arguments objects held (Err (Device unit)) rows told = absurd told
