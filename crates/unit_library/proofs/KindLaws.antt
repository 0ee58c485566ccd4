-- The kind of the transfer in progress, and the end of a transfer of another kind (ANSI X3.9-1978, 12.8).
use Rattle.std.proofs.Common.{◌≡◌, Bool, true, false, ◌&&◌, if◌then◌else◌, List, [], Option, Some, refl, ap, ◌∙◌, sym, subst}
use Rattle.c_tree.specs.run_state.Units.{Units}
use Rattle.c_tree.specs.declared.outcome.CValue.{CValue}
use Rattle.c_tree.specs.declared.outcome.CFault.TheVariants as fault
use Rattle.c_tree.specs.Faults.{failing}
use Rattle.c_tree.specs.Objects.{Object}
use Rattle.c_tree.specs.World.{Direction, Output, Input, Layout, Formatted, Listed, Medium, Transfer}
use Rattle.c_tree.specs.World as media
use Rattle.c_tree.specs.Builtins.{Style, ByFormat, ByList, Site, OnUnit, InMemory, TransferKind, Begin, Finish}
use Rattle.c_tree.specs.Library.{library}
use Rattle.c_tree.specs.TransferCalls.{is_direction, is_style, is_on, is_kind, ended, ends}
use Rattle.item_deeds.specs.Deeds.{world_of}
use Rattle.item_deeds.proofs.FormLaws.{same-objects}
use Rattle.f2c_outside.specs.Table.{Row}
use Rattle.f2c_outside.specs.Meaning.{units_of}
use Rattle.internal_output.specs.Files.{file_of}
use Rattle.internal_formatted.specs.Transferring.{StandsFor, WithRecords, WithoutRecords}
use Rattle.unit_library.specs.declared.functions.TransferType.{TransferType}
use Rattle.unit_library.specs.declared.functions.TransferType.TheVariants as moved
use Rattle.unit_library.specs.declared.transfers.TransferInProgress.{TransferInProgress}
use Rattle.unit_library.specs.declared.transfers.TransferInProgress.TheVariants as going
use Rattle.unit_library.specs.Functions.{kind_of}
use Rattle.unit_library.specs.Replies.{CallResult, broken_by}
use Rattle.unit_library.specs.Transfers.{InProgress, type_of}
use Rattle.unit_library.specs.Calls.{Calls}
use Rattle.unit_library.proofs.GivenCalls.{inside, breaks-still}
use Rattle.unit_library.proofs.SameCalls.{calls-as}

-- A TRANSFER HAS ONE KIND
style_of : Layout → Style
style_of (Formatted format) = ByFormat
style_of Listed = ByList

site_of : Medium → Site
site_of (media.Unit number) = OnUnit
site_of (media.Internal file) = InMemory

both : (first second : Bool) → (first && second) ≡ true → (first ≡ true) × (second ≡ true)
both true second is = (refl, is)
both false second is = absurd (cc)

same-direction : (one other : Direction) → is_direction one other ≡ true → one ≡ other
same-direction Output Output is = refl
same-direction Input Input is = refl
same-direction Output Input is = absurd (cc)
same-direction Input Output is = absurd (cc)

same-style : (style : Style) (layout : Layout) → is_style style layout ≡ true → style ≡ style_of layout
unfolding style_of
same-style ByFormat (Formatted format) is = refl
same-style ByList Listed is = refl
same-style ByFormat Listed is = absurd (cc)
same-style ByList (Formatted format) is = absurd (cc)

same-site : (site : Site) (medium : Medium) → is_on site medium ≡ true → site ≡ site_of medium
unfolding site_of
same-site OnUnit (media.Unit number) is = refl
same-site InMemory (media.Internal file) is = refl
same-site OnUnit (media.Internal file) is = absurd (cc)
same-site InMemory (media.Unit number) is = absurd (cc)

-- the type of a kind
type_by : Direction → Style → Site → TransferType
type_by Output ByFormat OnUnit = moved.FormattedOutput
type_by Input ByFormat OnUnit = moved.FormattedInput
type_by Output ByList OnUnit = moved.ListedOutput
type_by Input ByList OnUnit = moved.ListedInput
type_by Output ByFormat InMemory = moved.InternalFormattedOutput
type_by Input ByFormat InMemory = moved.InternalFormattedInput
type_by Output ByList InMemory = moved.InternalListedOutput
type_by Input ByList InMemory = moved.InternalListedInput

its-type : (which : TransferType) → which ≡ type_by (kind_of which).direction (kind_of which).style (kind_of which).site
unfolding type_by
its-type moved.FormattedOutput = refl
its-type moved.FormattedInput = refl
its-type moved.ListedOutput = refl
its-type moved.ListedInput = refl
its-type moved.InternalFormattedOutput = refl
its-type moved.InternalFormattedInput = refl
its-type moved.InternalListedOutput = refl
its-type moved.InternalListedInput = refl

type-is : (which : TransferType) (transfer : Transfer) → is_kind (kind_of which) transfer ≡ true →
    which ≡ type_by transfer.direction (style_of transfer.layout) (site_of transfer.medium)
type-is which transfer is =
    let front = both (is_direction (kind_of which).direction transfer.direction && is_style (kind_of which).style transfer.layout) (is_on (kind_of which).site transfer.medium) is in
    let first = both (is_direction (kind_of which).direction transfer.direction) (is_style (kind_of which).style transfer.layout) front.0 in
    its-type which
    ∙ ap (λ (d : Direction). type_by d (kind_of which).style (kind_of which).site) (same-direction (kind_of which).direction transfer.direction first.0)
    ∙ ap (λ (s : Style). type_by transfer.direction s (kind_of which).site) (same-style (kind_of which).style transfer.layout first.1)
    ∙ ap (λ (s : Site). type_by transfer.direction (style_of transfer.layout) s) (same-site (kind_of which).site transfer.medium front.1)

not-true : (test : Bool) → (test ≡ true → ⊥) → test ≡ false
not-true true never = absurd (never refl)
not-true false never = refl

-- THE KIND OF WHAT IS HELD
kind-by : (kind : TransferKind) (transfer : Transfer) (direction : Direction) (layout : Layout) (medium : Medium) → transfer.direction ≡ direction → transfer.layout ≡ layout →
    transfer.medium ≡ medium → (is_direction kind.direction direction && is_style kind.style layout && is_on kind.site medium) ≡ true → is_kind kind transfer ≡ true
kind-by kind transfer direction layout medium same_direction same_layout same_medium is =
    ap (λ (d : Direction). is_direction kind.direction d && is_style kind.style transfer.layout && is_on kind.site transfer.medium) same_direction
    ∙ ap (λ (l : Layout). is_direction kind.direction direction && is_style kind.style l && is_on kind.site transfer.medium) same_layout
    ∙ ap (λ (m : Medium). is_direction kind.direction direction && is_style kind.style layout && is_on kind.site m) same_medium ∙ is

-- its end is one of its calls
pub its-kind : (held : TransferInProgress) (transfer : Transfer) → InProgress (Some held) (Some transfer) → is_kind (kind_of (type_of held)) transfer ≡ true
its-kind (going.ListedOutput output) transfer stands =
    kind-by (kind_of moved.ListedOutput) transfer Output Listed (media.Unit output.unit) stands.direction stands.layout stands.medium refl
its-kind (going.ListedInput input) transfer stands =
    kind-by (kind_of moved.ListedInput) transfer Input Listed (media.Unit input.unit) stands.direction stands.layout stands.medium refl
its-kind (going.InternalOutput output) transfer stands =
    kind-by (kind_of moved.InternalListedOutput) transfer Output Listed (media.Internal (file_of output.file)) stands.direction stands.layout stands.medium refl
its-kind (going.InternalInput input) transfer stands =
    kind-by (kind_of moved.InternalListedInput) transfer Input Listed (media.Internal (file_of input.file)) stands.direction stands.layout stands.medium refl
its-kind (going.FormattedOutput held) transfer stands =
    kind-by (kind_of moved.FormattedOutput) transfer Output (Formatted stands.format) (media.Unit held.output.unit) stands.direction stands.layout stands.medium refl
its-kind (going.FormattedInput held) transfer stands =
    kind-by (kind_of moved.FormattedInput) transfer Input (Formatted stands.format) (media.Unit held.input.unit) stands.direction stands.layout stands.medium refl
its-kind (going.InternalFormatted held) transfer stands = in-file stands
  where
    in-file : StandsFor held.format held.output transfer → is_kind (kind_of moved.InternalFormattedOutput) transfer ≡ true
    in-file (WithRecords stands) =
        kind-by (kind_of moved.InternalFormattedOutput) transfer Output (Formatted stands.format) (media.Internal (file_of held.output.file)) stands.direction stands.layout stands.medium refl
    in-file (WithoutRecords stands) =
        kind-by (kind_of moved.InternalFormattedOutput) transfer Output (Formatted stands.format) (media.Internal (file_of held.output.file)) stands.direction stands.layout stands.medium refl
its-kind (going.InternalFormattedInput held) transfer stands =
    kind-by (kind_of moved.InternalFormattedInput) transfer Input (Formatted stands.format) (media.Internal (file_of held.input.file)) stands.direction stands.layout stands.medium refl

not-kind : (which : TransferType) (held : TransferInProgress) (transfer : Transfer) → (which ≡ type_of held → ⊥) → InProgress (Some held) (Some transfer) →
    is_kind (kind_of which) transfer ≡ false
not-kind which held transfer other stands =
    not-true (is_kind (kind_of which) transfer)
    (λ is. other (type-is which transfer is ∙ sym (type-is (type_of held) transfer (its-kind held transfer stands))))

-- ENDS OF ANOTHER KIND
ends-other : (kind : TransferKind) (objects : List Object) (units : Units) (transfer : Transfer) → is_kind kind transfer ≡ false →
    library (Finish kind) (world_of objects units (Some transfer)) [] ≡ failing fault.Library
unfolding library ends
ends-other kind objects units transfer other =
    ap (λ (test : Bool). if test then ended transfer.direction transfer.layout transfer (world_of objects units (Some transfer)) else failing fault.Library) other

finish-other : (which : TransferType) (held : TransferInProgress) (objects : List Object) (rows : List Row) → (which ≡ type_of held → ⊥) →
    Calls (Finish (kind_of which)) [] objects objects (Some held) (Some held) rows rows (broken_by fault.Library)
finish-other which held objects rows other =
    inside (broken_by fault.Library) (λ tells. tells)
    (λ tells transfer stands.
    record { transfer = Some transfer; in_progress = stands; holds = ends-other (kind_of which) objects (units_of rows) transfer (not-kind which held transfer other stands) })
    (breaks-still (Finish (kind_of which)) held rows) (same-objects objects)

-- ONE OF TWO KINDS THAT ARE THE SAME
pub begin-as : (which known : TransferType) {arguments : List CValue} {objects objects' : List Object} {held held' : Option TransferInProgress} {rows rows' : List Row} {result : CallResult} → which ≡ known →
    Calls (Begin (kind_of known)) arguments objects objects' held held' rows rows' result → Calls (Begin (kind_of which)) arguments objects objects' held held' rows rows' result
begin-as which known {arguments} {objects} {objects'} {held} {held'} {rows} {rows'} {result} is calls =
    subst (λ (w : TransferType). Calls (Begin (kind_of w)) arguments objects objects' held held' rows rows' result) (sym is) calls

pub finish-as : (going known : TransferInProgress) {objects objects' : List Object} {held held' : Option TransferInProgress} {rows rows' : List Row} {result : CallResult} → going ≡ known →
    Calls (Finish (kind_of (type_of known))) [] objects objects' held held' rows rows' result → Calls (Finish (kind_of (type_of going))) [] objects objects' held held' rows rows' result
finish-as going known {objects} {objects'} {held} {held'} {rows} {rows'} {result} is calls =
    subst (λ (h : TransferInProgress). Calls (Finish (kind_of (type_of h))) [] objects objects' held held' rows rows' result) (sym is) calls

pub finish-which : (which known : TransferType) {objects objects' : List Object} {held held' : Option TransferInProgress} {rows rows' : List Row} {result : CallResult} → which ≡ known →
    Calls (Finish (kind_of known)) [] objects objects' held held' rows rows' result → Calls (Finish (kind_of which)) [] objects objects' held held' rows rows' result
finish-which which known {objects} {objects'} {held} {held'} {rows} {rows'} {result} is calls =
    subst (λ (w : TransferType). Calls (Finish (kind_of w)) [] objects objects' held held' rows rows' result) (sym is) calls

pub finish-unlike : (which : TransferType) (held : TransferInProgress) (objects : List Object) (rows : List Row) (state : Option TransferInProgress) (result : CallResult) → state ≡ Some held →
    (which ≡ type_of held → ⊥) → result ≡ broken_by fault.Library → Calls (Finish (kind_of which)) [] objects objects state state rows rows result
finish-unlike which held objects rows state result holds other is =
    calls-as [] [] state (Some held) state (Some held) result (broken_by fault.Library) refl holds holds is (finish-other which held objects rows other)
