-- What a call on one unit leaves of the rows.
use Rattle.std.proofs.Common.{◌≡◌, ℕ, ◌≤◌, ◌<◌, ℤ, Bool, true, false, List, [], ◌∷◌, ◌++◌, Option, Some, refl, ap, sym, ◌∙◌, subst, arith, ◌⊎◌, inl, inr}
use Rattle.std.specs.Prelude.{Result, IsErrOf, if◌then◌else◌}
use Rattle.std.specs.Ordering.{int_eq}
use Rattle.std.proofs.lemmas.Bool.{cases_lt}
use Rattle.std.proofs.lemmas.Bool.Decides.{Decides-int_eq}
use Rattle.f2c_outside.specs.Shelf.{Rose}
use Rattle.f2c_outside.specs.Device.{DeviceState, HasDeviceCause}
use Rattle.f2c_outside.specs.Table.{Row, Offers, Connects, Closed, AtUnit, OnUnit, at_unit, is_connected}
use Rattle.f2c_outside.specs.Finishing.{OnDevice, EachRow}
use Rattle.f2c_outside.specs.Meaning.{connected_in, drawer_in, unit_of}
use Rattle.run_state.specs.Units.{UnitState, Offered}
use Rattle.run_state.specs.declared.refusals.UnitRefusal.{UnitRefusal}
use Rattle.run_state.specs.declared.refusals.UnitRefusal.TheVariants.{NotConnected}
use Rattle.f2c_outside.proofs.TableLaws.{some-inside}
use Rattle.f2c_outside.proofs.MeaningLaws.{or-false-left, or-false-right, chosen-false}
use Rattle.unit_answers.specs.Failing.{RoseAt, FailedOn, Quiet, NoneFailed}

-- each row stays that is not connected to the unit
pub each-same :
    (unit : ℤ) (P : Row → Row → Type 0) → ((row : Row) → at_unit unit row ≡ false → P row row) → (rows : List Row) →
    is_connected unit rows ≡ false → EachRow P rows rows
each-same unit P keeps [] none = refl
each-same unit P keeps (row ∷ later) none = (
  keeps row (or-false-left (at_unit unit row) (is_connected unit later) none),
  each-same unit P keeps later (or-false-right (at_unit unit row) (is_connected unit later) none),
)

each-around :
    (unit : ℤ) (P : Row → Row → Type 0) → ((row : Row) → at_unit unit row ≡ false → P row row) → (front back : List Row) (x y : Row) →
    is_connected unit (front ++ back) ≡ false → P x y → EachRow P (front ++ x ∷ back) (front ++ y ∷ back)
each-around unit P keeps [] back x y none here = (here, each-same unit P keeps back none)
each-around unit P keeps (row ∷ front) back x y none here = (
  keeps row (or-false-left (at_unit unit row) (is_connected unit (front ++ back)) none),
  each-around unit P keeps front back x y (or-false-right (at_unit unit row) (is_connected unit (front ++ back)) none) here,
)

pub each-at :
    (unit : ℤ) (P : Row → Row → Type 0) → ((row : Row) → at_unit unit row ≡ false → P row row) → (b a : List Row) →
    (R : DeviceState → Bool → DeviceState → Bool → Type 0) (at : AtUnit unit b a R) →
    P (Connects unit at.device at.end_mark at.zero_blanks) (Connects unit at.device' at.end_mark' at.zero_blanks) → EachRow P b a
each-at unit P keeps b a R at here =
    subst (λ (rows : List Row). EachRow P rows a) (sym at.was)
    (subst (λ (rows : List Row). EachRow P (at.front ++ Connects unit at.device at.end_mark at.zero_blanks ∷ at.back) rows) (sym at.now)
    (each-around unit P keeps at.front at.back (Connects unit at.device at.end_mark at.zero_blanks) (Connects unit at.device' at.end_mark' at.zero_blanks)
    at.alone here))

-- a call that was not refused as not connected was on a connected unit
pub on-there :
    {T : Type 0} (unit : ℤ) (b a : List Row) (result : Result T UnitRefusal) (R : DeviceState → Bool → DeviceState → Bool → Type 0) →
    OnUnit unit b a result R → (IsErrOf result NotConnected → ⊥) → is_connected unit b ≡ true
on-there unit b a result R on not_missing = by (is_connected unit b) refl
  where
    by : (there : Bool) → is_connected unit b ≡ there → is_connected unit b ≡ true
    by true is = is
    by false is = absurd (not_missing (on.refused.1 is))

-- what holds of each row behind a call on a unit
pub each-on :
    {T : Type 0} (unit : ℤ) (P : Row → Row → Type 0) → ((row : Row) → at_unit unit row ≡ false → P row row) → (b a : List Row) →
    (result : Result T UnitRefusal) (R : DeviceState → Bool → DeviceState → Bool → Type 0) → OnUnit unit b a result R →
    ((d d' : DeviceState) (m m' z : Bool) → R d m d' m' → P (Connects unit d m z) (Connects unit d' m' z)) → EachRow P b a
each-on unit P keeps b a result R on did = by (is_connected unit b) refl
  where
    by : (there : Bool) → is_connected unit b ≡ there → EachRow P b a
    by true is =
        let at : AtUnit unit b a R = on.found is in
        each-at unit P keeps b a R at (did at.device at.device' at.end_mark at.end_mark' at.zero_blanks at.did)
    by false is = subst (λ (rows : List Row). EachRow P b rows) (sym (on.missing is)) (each-same unit P keeps b is)

pub quiet-same : (row : Row) → Quiet row row
quiet-same (Offers name device) = refl
quiet-same (Connects unit device m z) = refl
quiet-same Closed = refl

pub none-failed : (rows : List Row) → NoneFailed rows rows
none-failed [] = refl
none-failed (row ∷ later) = (quiet-same row, none-failed later)

-- a call that did not fail left the count of faults
pub not-raised : (before after : ℕ) (fails : Type 0) → HasDeviceCause before after fails → (fails → ⊥) → after ≡ before
not-raised before after fails cause no_fault = by (cases_lt before after)
  where
    by : (before < after) ⊎ (after ≤ before) → after ≡ before
    by (inl rose) = absurd (no_fault (cause.rose rose))
    by (inr falls) = let later : before ≤ after = cause.later in omega arith

differ : (own unit : ℤ) → int_eq own unit ≡ false → own ≡ unit → ⊥
differ own unit is same = let e : int_eq own unit ≡ true = (Decides-int_eq own unit).1 same in absurd (cc)

rose-elsewhere : (unit : ℤ) (row : Row) → at_unit unit row ≡ false → OnDevice (RoseAt unit) row row
rose-elsewhere unit (Offers name device) none = refl
rose-elsewhere unit Closed none = refl
rose-elsewhere unit (Connects own device m z) none =
    record { device' = device; is = refl; did = record { here = λ same. absurd (differ own unit none same); elsewhere = λ other. refl } }

-- a call on a unit whose device failed, whose end mark stands as it did
pub failed-on :
    {T : Type 0} (unit : ℤ) (b a : List Row) (result : Result T UnitRefusal) (R : DeviceState → Bool → DeviceState → Bool → Type 0) →
    OnUnit unit b a result R → (IsErrOf result NotConnected → ⊥) →
    ((d d' : DeviceState) (m m' : Bool) → R d m d' m' → Rose d.faults d'.faults × (m' ≡ m)) → FailedOn unit b a
failed-on unit b a result R on not_missing did = record {
  connected = on-there unit b a result R on not_missing;
  rows = each-on unit (OnDevice (RoseAt unit)) (rose-elsewhere unit) b a result R on
      (λ d d' m m' z there.
      let rose : Rose d.faults d'.faults × (m' ≡ m) = did d d' m m' there in
      record {
        device' = d';
        is = ap (λ (mark : Bool). Connects unit d' mark z) rose.1;
        did = record { here = λ same. rose.0; elsewhere = λ other. absurd (other refl) };
      });
}

others-here :
    (unit other : ℤ) → (other ≡ unit → ⊥) → (own : ℤ) (device device' : DeviceState) (m z : Bool) (later rest : List Row) → RoseAt unit own device device' →
    connected_in rest other ≡ connected_in later other → (here : Bool) → int_eq own other ≡ here →
    connected_in (Connects own device' m z ∷ rest) other ≡ connected_in (Connects own device m z ∷ later) other
others-here unit other differs own device device' m z later rest did tail true is =
    let same : own ≡ other = (Decides-int_eq own other).0 is in
    let as_before : device' ≡ device = did.elsewhere (λ at. differs (sym same ∙ at)) in
    ap (λ (d : DeviceState). if int_eq own other then Some (unit_of d m z) else connected_in rest other) as_before
    ∙ ap (λ (found : Option UnitState). if int_eq own other then Some (unit_of device m z) else found) tail
others-here unit other differs own device device' m z later rest did tail false is =
    chosen-false (int_eq own other) (Some (unit_of device' m z)) (connected_in rest other) is ∙ tail
    ∙ sym (chosen-false (int_eq own other) (Some (unit_of device m z)) (connected_in later other) is)

-- the other units, and the files that can be opened, are as before
others : (unit other : ℤ) → (other ≡ unit → ⊥) → (b a : List Row) → EachRow (OnDevice (RoseAt unit)) b a → connected_in a other ≡ connected_in b other
others unit other differs [] a rows = ap (λ (after : List Row). connected_in after other) rows
others unit other differs (row ∷ later) [] rows = absurd rows
others unit other differs (Offers name device ∷ later) (after ∷ rest) rows =
    ap (λ (first : Row). connected_in (first ∷ rest) other) rows.0 ∙ others unit other differs later rest rows.1
others unit other differs (Closed ∷ later) (after ∷ rest) rows =
    ap (λ (first : Row). connected_in (first ∷ rest) other) rows.0 ∙ others unit other differs later rest rows.1
others unit other differs (Connects own device m z ∷ later) (after ∷ rest) rows =
    ap (λ (first : Row). connected_in (first ∷ rest) other) rows.0.is
    ∙ others-here unit other differs own device rows.0.device' m z later rest rows.0.did (others unit other differs later rest rows.1) (int_eq own other) refl

drawer : (unit : ℤ) (b a : List Row) → EachRow (OnDevice (RoseAt unit)) b a → drawer_in a ≡ drawer_in b
drawer unit [] a rows = ap drawer_in rows
drawer unit (row ∷ later) [] rows = absurd rows
drawer unit (Offers name device ∷ later) (after ∷ rest) rows =
    ap (λ (first : Row). drawer_in (first ∷ rest)) rows.0 ∙ ap (λ (found : List Offered). drawer_in (Offers name device ∷ []) ++ found) (drawer unit later rest rows.1)
drawer unit (Closed ∷ later) (after ∷ rest) rows =
    ap (λ (first : Row). drawer_in (first ∷ rest)) rows.0 ∙ drawer unit later rest rows.1
drawer unit (Connects own device m z ∷ later) (after ∷ rest) rows =
    ap (λ (first : Row). drawer_in (first ∷ rest)) rows.0.is ∙ drawer unit later rest rows.1

pub others-stand :
    (unit other : ℤ) (b a : List Row) → FailedOn unit b a → (other ≡ unit → ⊥) → connected_in a other ≡ connected_in b other
others-stand unit other b a failed differs = others unit other differs b a failed.rows

pub drawer-stands : (unit : ℤ) (b a : List Row) → FailedOn unit b a → drawer_in a ≡ drawer_in b
drawer-stands unit b a failed = drawer unit b a failed.rows

-- the device of a unit failed, whose end mark stands as it did
pub failed-at :
    (unit : ℤ) (b a : List Row) (R : DeviceState → Bool → DeviceState → Bool → Type 0) (at : AtUnit unit b a R) →
    Rose at.device.faults at.device'.faults → at.end_mark' ≡ at.end_mark → FailedOn unit b a
failed-at unit b a R at rose same = record {
  connected = ap (is_connected unit) at.was
      ∙ some-inside (at_unit unit) at.front at.back (Connects unit at.device at.end_mark at.zero_blanks) ((Decides-int_eq unit unit).1 refl);
  rows = each-at unit (OnDevice (RoseAt unit)) (rose-elsewhere unit) b a R at
      (record {
        device' = at.device';
        is = ap (λ (mark : Bool). Connects unit at.device' mark at.zero_blanks) same;
        did = record { here = λ own. rose; elsewhere = λ other. absurd (other refl) };
      });
}

-- a row is closed, or an offered one is connected
pub quiet-around : (front back : List Row) (x y : Row) → Quiet x y → NoneFailed (front ++ x ∷ back) (front ++ y ∷ back)
quiet-around [] back x y here = (here, none-failed back)
quiet-around (row ∷ front) back x y here = (quiet-same row, quiet-around front back x y here)
