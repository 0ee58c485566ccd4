-- Which units the rows behind a call leave as they were.
use Rattle.std.proofs.Common.{◌≡◌, ℤ, Bool, true, false, List, [], ◌∷◌, Option, Some, refl, ap, sym, ◌∙◌, subst}
use Rattle.std.specs.Prelude.{is_some, if◌then◌else◌}
use Rattle.std.specs.Ordering.{int_eq}
use Rattle.std.proofs.lemmas.Bool.Decides.{Decides-int_eq}
use Rattle.c_tree.specs.run_state.Units.{Units, UnitState, Offered}
use Rattle.c_tree.specs.World as media
use Rattle.c_tree.specs.World.{Direction, Output, Input, Layout, Formatted, Listed, Medium, Transfer}
use Rattle.f2c_outside.specs.Device.{DeviceState}
use Rattle.f2c_outside.specs.Table.{Row, Offers, Connects, Closed}
use Rattle.f2c_outside.specs.Finishing.{OnDevice, EachRow}
use Rattle.f2c_outside.specs.Meaning.{units_of, connected_in, drawer_in, unit_of, records_of}
use Rattle.unit_answers.specs.Failing.{RoseAt, FailedOn}
use Rattle.listed_output.specs.Writing.{StaysAt, StayedOn}
use Rattle.run_library.specs.Kept.{OthersStand, KeepsOn, KeepsIn}
use Rattle.unit_library.specs.declared.transfers.TransferInProgress.{TransferInProgress}
use Rattle.unit_library.specs.declared.transfers.TransferInProgress.TheVariants as going
use Rattle.unit_library.specs.Transfers.{InProgress}

-- ## The rows

-- the devices of other units are as before
abbrev pub Elsewhere : ℤ → (ℤ → DeviceState → DeviceState → Type 0) → Type 0
Elsewhere unit R = (own : ℤ) → (before after : DeviceState) → R own before after → (own ≡ unit → ⊥) → after ≡ before

other-row : (unit other own : ℤ) (R : ℤ → DeviceState → DeviceState → Type 0) (d d' : DeviceState) (m z : Bool) (later later' : Option UnitState) → Elsewhere unit R → (other ≡ unit → ⊥) → R own d d' →
    later' ≡ later → (if int_eq own other then Some (unit_of d' m z) else later') ≡ (if int_eq own other then Some (unit_of d m z) else later)
other-row unit other own R d d' m z later later' elsewhere differs did rest = by (int_eq own other) refl
  where
    by : (same : Bool) → int_eq own other ≡ same → (if same then Some (unit_of d' m z) else later') ≡ (if same then Some (unit_of d m z) else later)
    by true is = ap (λ (device : DeviceState). Some (unit_of device m z)) (elsewhere own d d' did (λ same. differs (sym ((Decides-int_eq own other).0 is) ∙ same)))
    by false is = rest

others-connected : (unit other : ℤ) (R : ℤ → DeviceState → DeviceState → Type 0) (x y : List Row) → Elsewhere unit R → (other ≡ unit → ⊥) → EachRow (OnDevice R) x y →
    connected_in y other ≡ connected_in x other
others-connected unit other R [] y elsewhere differs rows = ap (λ (all : List Row). connected_in all other) rows
others-connected unit other R (row ∷ rest) [] elsewhere differs rows = absurd rows
others-connected unit other R (Offers name device ∷ rest) (row' ∷ rest') elsewhere differs rows =
    ap (λ (row : Row). connected_in (row ∷ rest') other) rows.0 ∙ others-connected unit other R rest rest' elsewhere differs rows.1
others-connected unit other R (Closed ∷ rest) (row' ∷ rest') elsewhere differs rows =
    ap (λ (row : Row). connected_in (row ∷ rest') other) rows.0 ∙ others-connected unit other R rest rest' elsewhere differs rows.1
others-connected unit other R (Connects own device m z ∷ rest) (row' ∷ rest') elsewhere differs rows =
    ap (λ (row : Row). connected_in (row ∷ rest') other) rows.0.is
    ∙ other-row unit other own R device rows.0.device' m z (connected_in rest other) (connected_in rest' other) elsewhere differs rows.0.did
    (others-connected unit other R rest rest' elsewhere differs rows.1)

same-files : (R : ℤ → DeviceState → DeviceState → Type 0) (x y : List Row) → EachRow (OnDevice R) x y → drawer_in y ≡ drawer_in x
same-files R [] y rows = ap drawer_in rows
same-files R (row ∷ rest) [] rows = absurd rows
same-files R (Offers name device ∷ rest) (row' ∷ rest') rows =
    ap (λ (row : Row). drawer_in (row ∷ rest')) rows.0
    ∙ ap (λ (files : List Offered). record { name = name; records = records_of device; position = device.position } ∷ files) (same-files R rest rest' rows.1)
same-files R (Closed ∷ rest) (row' ∷ rest') rows = ap (λ (row : Row). drawer_in (row ∷ rest')) rows.0 ∙ same-files R rest rest' rows.1
same-files R (Connects own device m z ∷ rest) (row' ∷ rest') rows = ap (λ (row : Row). drawer_in (row ∷ rest')) rows.0.is ∙ same-files R rest rest' rows.1

own-row : (there : Bool) (one one' : UnitState) (later later' : Option UnitState) → is_some later' ≡ is_some later →
    is_some (if there then Some one' else later') ≡ is_some (if there then Some one else later)
own-row true one one' later later' rest = refl
own-row false one one' later later' rest = rest

same-connected : (unit : ℤ) (R : ℤ → DeviceState → DeviceState → Type 0) (x y : List Row) → EachRow (OnDevice R) x y → is_some (connected_in y unit) ≡ is_some (connected_in x unit)
same-connected unit R [] y rows = ap (λ (all : List Row). is_some (connected_in all unit)) rows
same-connected unit R (row ∷ rest) [] rows = absurd rows
same-connected unit R (Offers name device ∷ rest) (row' ∷ rest') rows =
    ap (λ (row : Row). is_some (connected_in (row ∷ rest') unit)) rows.0 ∙ same-connected unit R rest rest' rows.1
same-connected unit R (Closed ∷ rest) (row' ∷ rest') rows = ap (λ (row : Row). is_some (connected_in (row ∷ rest') unit)) rows.0 ∙ same-connected unit R rest rest' rows.1
same-connected unit R (Connects own device m z ∷ rest) (row' ∷ rest') rows =
    ap (λ (row : Row). is_some (connected_in (row ∷ rest') unit)) rows.0.is
    ∙ own-row (int_eq own unit) (unit_of device m z) (unit_of rows.0.device' m z) (connected_in rest unit) (connected_in rest' unit) (same-connected unit R rest rest' rows.1)

others-by : (unit : ℤ) (R : ℤ → DeviceState → DeviceState → Type 0) (x y : List Row) → Elsewhere unit R → EachRow (OnDevice R) x y → OthersStand unit (units_of x) (units_of y)
others-by unit R x y elsewhere rows = record {
  others = λ other differs. others-connected unit other R x y elsewhere differs rows;
  files = same-files R x y rows;
  connected = same-connected unit R x y rows;
}

pub others-stayed : (unit : ℤ) (x y : List Row) → StayedOn unit x y → OthersStand unit (units_of x) (units_of y)
others-stayed unit x y stays = others-by unit (StaysAt unit) x y (λ own before after did differs. did.elsewhere differs) stays

pub others-failed : (unit : ℤ) (x y : List Row) → FailedOn unit x y → OthersStand unit (units_of x) (units_of y)
others-failed unit x y failed = others-by unit (RoseAt unit) x y (λ own before after did differs. did.elsewhere differs) failed.rows

-- ## A transfer that is in progress

-- its items or its end may have read or written records of this unit behind which there is a fault
abbrev pub IsMoved : TransferInProgress → ℤ → Type 0
IsMoved (going.ListedOutput output) unit = ⊥
IsMoved (going.ListedInput input) unit = unit ≡ input.unit
IsMoved (going.InternalOutput output) unit = ⊥
IsMoved (going.InternalInput input) unit = ⊥
IsMoved (going.FormattedOutput held) unit = unit ≡ held.output.unit
IsMoved (going.FormattedInput held) unit = unit ≡ held.input.unit
IsMoved (going.InternalFormatted held) unit = ⊥
IsMoved (going.InternalFormattedInput held) unit = ⊥

keeps-on : (direction known : Direction) (layout found : Layout) (medium its : Medium) (before after : Units) → direction ≡ known → layout ≡ found → medium ≡ its → KeepsOn known found its before after →
    KeepsOn direction layout medium before after
keeps-on direction known layout found medium its before after first second third keeps =
    subst (λ (d : Direction). KeepsOn d layout medium before after) (sym first)
    (subst (λ (l : Layout). KeepsOn known l medium before after) (sym second) (subst (λ (m : Medium). KeepsOn known found m before after) (sym third) keeps))

pub keeps-moved : (held : TransferInProgress) (transfer : Transfer) (unit : ℤ) (before after : Units) → IsMoved held unit → InProgress (Some held) (Some transfer) → OthersStand unit before after →
    KeepsIn (Some transfer) before after
keeps-moved (going.ListedOutput output) transfer unit before after own stands others = absurd own
keeps-moved (going.ListedInput input) transfer unit before after own stands others =
    keeps-on transfer.direction Input transfer.layout Listed transfer.medium (media.Unit input.unit) before after stands.direction stands.layout stands.medium
    (subst (λ (number : ℤ). OthersStand number before after) own others)
keeps-moved (going.InternalOutput output) transfer unit before after own stands others = absurd own
keeps-moved (going.InternalInput input) transfer unit before after own stands others = absurd own
keeps-moved (going.FormattedOutput held) transfer unit before after own stands others =
    keeps-on transfer.direction Output transfer.layout (Formatted stands.format) transfer.medium (media.Unit held.output.unit) before after stands.direction stands.layout stands.medium
    (subst (λ (number : ℤ). OthersStand number before after) own others)
keeps-moved (going.FormattedInput held) transfer unit before after own stands others =
    keeps-on transfer.direction Input transfer.layout (Formatted stands.format) transfer.medium (media.Unit held.input.unit) before after stands.direction stands.layout stands.medium
    (subst (λ (number : ℤ). OthersStand number before after) own others)
keeps-moved (going.InternalFormatted held) transfer unit before after own stands others = absurd own
keeps-moved (going.InternalFormattedInput held) transfer unit before after own stands others = absurd own
