-- What several calls on one unit leave of the rows.
use Rattle.std.proofs.Common.{◌≡◌, ℕ, ℤ, Bool, true, false, ◌||◌, List, [], ◌∷◌, refl, ap, sym, ◌∙◌, subst}
use Rattle.std.specs.Ordering.{int_eq}
use Rattle.std.proofs.lemmas.Bool.Decides.{Decides-int_eq}
use Rattle.f2c_outside.specs.Shelf.{Rose}
use Rattle.f2c_outside.specs.Device.{DeviceState}
use Rattle.f2c_outside.specs.Table.{Row, Offers, Connects, Closed, at_unit, is_connected}
use Rattle.f2c_outside.specs.Finishing.{OnDevice, EachRow}
use Rattle.unit_answers.specs.Failing.{RoseAt, FailedOn, Quiet, NoneFailed}
use Rattle.listed_output.specs.Writing.{StaysAt, StayedOn}

on-device-then :
    (R S T : ℤ → DeviceState → DeviceState → Type 0) → ((own : ℤ) → (d d' d'' : DeviceState) → R own d d' → S own d' d'' → T own d d'') → (x y z : Row) →
    OnDevice R x y → OnDevice S y z → OnDevice T x z
on-device-then R S T both (Offers name device) y z first second = subst (λ (row : Row). OnDevice S row z) first second
on-device-then R S T both Closed y z first second = subst (λ (row : Row). OnDevice S row z) first second
on-device-then R S T both (Connects own device m blanks) y z first second =
    let next : OnDevice S (Connects own first.device' m blanks) z = subst (λ (row : Row). OnDevice S row z) first.is second in
    record { device' = next.device'; is = next.is; did = both own device first.device' next.device' first.did next.did }

each-then :
    (R S T : ℤ → DeviceState → DeviceState → Type 0) → ((own : ℤ) → (d d' d'' : DeviceState) → R own d d' → S own d' d'' → T own d d'') → (x y z : List Row) →
    EachRow (OnDevice R) x y → EachRow (OnDevice S) y z → EachRow (OnDevice T) x z
each-then R S T both [] y z first second = subst (λ (rows : List Row). EachRow (OnDevice S) rows z) first second
each-then R S T both (row ∷ rest) [] z first second = absurd first
each-then R S T both (row ∷ rest) (row' ∷ rest') [] first second = absurd second
each-then R S T both (row ∷ rest) (row' ∷ rest') (row'' ∷ rest'') first second = (
  on-device-then R S T both row row' row'' first.0 second.0,
  each-then R S T both rest rest' rest'' first.1 second.1,
)

pub stays-stays : (unit : ℤ) (x y z : List Row) → StayedOn unit x y → StayedOn unit y z → StayedOn unit x z
stays-stays unit x y z first second =
    each-then (StaysAt unit) (StaysAt unit) (StaysAt unit)
    (λ own d d' d'' one other. record {
      here = λ same. other.here same ∙ one.here same;
      elsewhere = λ differs. other.elsewhere differs ∙ one.elsewhere differs;
    })
    x y z first second

same-connected : (unit : ℤ) (R : ℤ → DeviceState → DeviceState → Type 0) (x y : List Row) → EachRow (OnDevice R) x y → is_connected unit y ≡ is_connected unit x
same-connected unit R [] y rows = ap (is_connected unit) rows
same-connected unit R (row ∷ rest) [] rows = absurd rows
same-connected unit R (row ∷ rest) (row' ∷ rest') rows =
    ap (λ (first : Bool). first || is_connected unit rest') (by row rows.0) ∙ ap (λ (later : Bool). at_unit unit row || later) (same-connected unit R rest rest' rows.1)
  where
    by : (one : Row) → OnDevice R one row' → at_unit unit row' ≡ at_unit unit one
    by (Offers name device) is = ap (at_unit unit) is
    by Closed is = ap (at_unit unit) is
    by (Connects own device m z) is = ap (at_unit unit) is.is

raised : (before now after : ℕ) → now ≡ before → Rose now after → Rose before after
raised before now after same rose = subst (λ (n : ℕ). Rose n after) same rose

pub stays-fails : (unit : ℤ) (x y z : List Row) → StayedOn unit x y → FailedOn unit y z → FailedOn unit x z
stays-fails unit x y z first second = record {
  connected = sym (same-connected unit (StaysAt unit) x y first) ∙ second.connected;
  rows = each-then (StaysAt unit) (RoseAt unit) (RoseAt unit)
      (λ own d d' d'' one other. record {
        here = λ same. raised d.faults d'.faults d''.faults (one.here same) (other.here same);
        elsewhere = λ differs. other.elsewhere differs ∙ one.elsewhere differs;
      })
      x y z first second.rows;
}

same-faults : (unit own : ℤ) (d d' : DeviceState) → StaysAt unit own d d' → d'.faults ≡ d.faults
same-faults unit own d d' stays = by (int_eq own unit) refl
  where
    by : (same : Bool) → int_eq own unit ≡ same → d'.faults ≡ d.faults
    by true is = stays.here ((Decides-int_eq own unit).0 is)
    by false is =
        ap (λ (device : DeviceState). device.faults)
        (stays.elsewhere (λ same. let e : int_eq own unit ≡ true = (Decides-int_eq own unit).1 same in absurd (cc)))

quiet-row : (unit : ℤ) (x y : Row) → OnDevice (StaysAt unit) x y → Quiet x y
quiet-row unit (Offers name device) y stays = subst (λ (row : Row). Quiet (Offers name device) row) (sym stays) refl
quiet-row unit Closed y stays = stays
quiet-row unit (Connects own device m z) y stays =
    subst (λ (row : Row). Quiet (Connects own device m z) row) (sym stays.is) (same-faults unit own device stays.device' stays.did)

pub stays-quietly : (unit : ℤ) (x y : List Row) → StayedOn unit x y → NoneFailed x y
stays-quietly unit [] y rows = rows
stays-quietly unit (row ∷ rest) [] rows = absurd rows
stays-quietly unit (row ∷ rest) (row' ∷ rest') rows = (quiet-row unit row row' rows.0, stays-quietly unit rest rest' rows.1)

pub stays-there : (unit : ℤ) (row : Row) → at_unit unit row ≡ false → OnDevice (StaysAt unit) row row
stays-there unit (Offers name device) none = refl
stays-there unit Closed none = refl
stays-there unit (Connects own device m z) none = record {
  device' = device;
  is = refl;
  did = record {
    here = λ same. let e : int_eq own unit ≡ true = (Decides-int_eq own unit).1 same in absurd (cc);
    elsewhere = λ other. refl;
  };
}

stays-same-row : (unit : ℤ) (row : Row) → OnDevice (StaysAt unit) row row
stays-same-row unit (Offers name device) = refl
stays-same-row unit Closed = refl
stays-same-row unit (Connects own device m z) = record { device' = device; is = refl; did = record { here = λ same. refl; elsewhere = λ other. refl } }

pub stays-same : (unit : ℤ) (rows : List Row) → StayedOn unit rows rows
stays-same unit [] = refl
stays-same unit (row ∷ rest) = (stays-same-row unit row, stays-same unit rest)
