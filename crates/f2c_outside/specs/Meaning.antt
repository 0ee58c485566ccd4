-- What the rows of a unit table mean as the state of the units, where every device tells its records
-- (ANSI X3.9-1978, section 12).
use Rattle.std.specs.Prelude.{◌≡◌, ℕ, ◌<◌, ℤ, Bool, List, [], ◌∷◌, ◌++◌, length, drop, Option, Some, None, Result, Ok, Err, IsSome, IsErrOf, IfOk, IfErr, OnOk, if◌then◌else◌, unwrap_or}
use Rattle.std.specs.Ordering.{int_eq}
use Rattle.f2c_outside.specs.Device.{DeviceState}
use Rattle.f2c_outside.specs.Table.{Row, Offers, Connects, Closed}
use Rattle.run_state.specs.Units.{UnitState, Offered, Units, Reading, Closing}
use Rattle.f2c_outside.specs.declared.devices.Got.{Got}
use Rattle.f2c_outside.specs.declared.devices.Got.TheVariants.{Line, End, Long, Failed}
use Rattle.f2c_outside.specs.declared.unit_table.Closed as declared
use Rattle.run_state.specs.declared.refusals.UnitRefusal.{UnitRefusal}
use Rattle.run_state.specs.declared.refusals.UnitRefusal.TheVariants as refusal

-- the records that a device tells
abbrev pub records_of : DeviceState → List (List ℕ)
records_of device = unwrap_or device.told []

-- a connected device as the state of its unit
abbrev pub unit_of : DeviceState → Bool → Bool → UnitState
unit_of device end_mark zero_blanks =
    record {
      records = records_of device;
      position = device.position;
      end_mark = end_mark;
      zero_blanks = zero_blanks;
    }

-- the state of a unit, where a row is connected to it
abbrev pub connected_in : List Row → ℤ → Option UnitState
connected_in [] asked = None
connected_in (Connects unit device end_mark zero_blanks ∷ rest) asked =
    if int_eq unit asked then Some (unit_of device end_mark zero_blanks) else connected_in rest asked
connected_in (Offers name device ∷ rest) asked = connected_in rest asked
connected_in (Closed ∷ rest) asked = connected_in rest asked

-- the offered rows in order
abbrev pub drawer_in : List Row → List Offered
drawer_in [] = []
drawer_in (Offers name device ∷ rest) =
    record { name = name; records = records_of device; position = device.position } ∷ drawer_in rest
drawer_in (Connects unit device end_mark zero_blanks ∷ rest) = drawer_in rest
drawer_in (Closed ∷ rest) = drawer_in rest

-- the state of the units
abbrev pub units_of : List Row → Units
units_of rows = record { connected = connected_in rows; drawer = drawer_in rows }

-- every device of the table tells its records
abbrev pub Tells : List Row → Type 0
Tells [] = Unit {0}
Tells (Offers name device ∷ rest) = IsSome device.told × Tells rest
Tells (Connects unit device end_mark zero_blanks ∷ rest) = IsSome device.told × Tells rest
Tells (Closed ∷ rest) = Tells rest

-- a call that changes the units means the same as the statement, unless the device failed; every device still
-- tells its records
pub record Means {T : Type 0} (result : Result T UnitRefusal) (meaning : Result Units UnitRefusal) (after : List Row) : Type 0 where
  pub tells : Tells after
  pub done : OnOk result (meaning ≡ Ok (units_of after))
  pub missing : IsErrOf result refusal.NotConnected → meaning ≡ Err refusal.NotConnected
  pub past : IsErrOf result refusal.PastEnd → meaning ≡ Err refusal.PastEnd

-- a record was read, into the front of the slice where it fits
pub record ReadsLine (reading : Result Reading UnitRefusal) (after : Units) (P : List ℕ → Type 0) : Type 0 where
  pub line : List ℕ
  pub is : reading ≡ Ok (record { found = Some line; after = after })
  pub holds : P line

-- what was read, where the device did not fail
abbrev pub ReadsAs : Got → Result Reading UnitRefusal → Units → (old new : List ℕ) → Type 0
ReadsAs (Line n) reading after old new = ReadsLine reading after (λ line. (length line ≡ n) × (new ≡ line ++ drop n old))
ReadsAs (Long n) reading after old new = ReadsLine reading after (λ line. (length line ≡ n) × (length old < n))
ReadsAs End reading after old new = reading ≡ Ok (record { found = None; after = after })
ReadsAs Failed reading after old new = Unit {0}

-- `read_from` means the same as reading a record, unless the device failed
pub record MeansReading (result : Result Got UnitRefusal) (reading : Result Reading UnitRefusal) (after : List Row) (old new : List ℕ) : Type 0 where
  pub tells : Tells after
  pub done : IfOk result (λ got. ReadsAs got reading (units_of after) old new)
  pub missing : IsErrOf result refusal.NotConnected → reading ≡ Err refusal.NotConnected

-- `open_unit` means the same as opening, also where it is refused
pub record MeansOpening {T : Type 0} (result : Result T UnitRefusal) (opening : Result Units UnitRefusal) (before after : List Row) : Type 0 where
  pub tells : Tells before → Tells after
  pub done : OnOk result (opening ≡ Ok (units_of after))
  pub refused : IfErr result (λ refused. opening ≡ Err refused)

-- `close_unit` means the same as closing, unless the device failed
pub record MeansClosing (result : Result declared.Closed UnitRefusal) (closing : Result Closing UnitRefusal) (after : List Row) : Type 0 where
  pub tells : Tells after
  pub done : IfOk result (λ closed. closing ≡ Ok (record { count = closed.records; after = units_of after }))
  pub missing : IsErrOf result refusal.NotConnected → closing ≡ Err refusal.NotConnected
