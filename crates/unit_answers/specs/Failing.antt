-- What a call leaves of the rows of the units where a device fails, and where none does (ANSI X3.9-1978, section 12).
use Rattle.std.specs.Prelude.{◌≡◌, ℕ, ℤ, true, List, Option, Some, None, IfSome}
use Rattle.f2c_outside.specs.Shelf.{Rose}
use Rattle.f2c_outside.specs.Device.{DeviceState}
use Rattle.f2c_outside.specs.Table.{Row, Offers, Connects, Closed, is_connected}
use Rattle.f2c_outside.specs.Finishing.{OnDevice, EachRow}

-- the count of faults of the device of one unit rose, and the other devices are as before
pub record RoseAt (unit own : ℤ) (b a : DeviceState) : Type 0 where
  pub here : own ≡ unit → Rose b.faults a.faults
  pub elsewhere : (own ≡ unit → ⊥) → a ≡ b

-- the device of a connected unit failed: its count of faults rose, the unit is connected as before, and all other rows are as before
pub record FailedOn (unit : ℤ) (b a : List Row) : Type 0 where
  pub connected : is_connected unit b ≡ true
  pub rows : EachRow (OnDevice (RoseAt unit)) b a

-- the count of faults of the device that a row has
abbrev pub faults_in : Row → Option ℕ
faults_in (Offers name device) = Some device.faults
faults_in (Connects unit device end_mark zero_blanks) = Some device.faults
faults_in Closed = None

-- the count of a device that stays in its row does not rise, and a closed row stays closed
abbrev pub Quiet : Row → Row → Type 0
Quiet (Offers name device) after = IfSome (faults_in after) λ now. now ≡ device.faults
Quiet (Connects unit device end_mark zero_blanks) after = IfSome (faults_in after) λ now. now ≡ device.faults
Quiet Closed after = after ≡ Closed

-- no device fails
abbrev pub NoneFailed : List Row → List Row → Type 0
NoneFailed before after = EachRow Quiet before after
