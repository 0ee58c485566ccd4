-- What comes back where a device is not placed in the table, and what a row becomes that is opened or closed.
use Rattle.std.specs.Prelude.{◌≡◌, ℕ, ℤ, Bool, true, false, Option, Some, None, Ok}
use Rattle.std.specs.declared.alloc.Global.{Global}
use Rattle.std.specs.declared.dyn_box.DynBox.{DynBox}
use Rattle.f2c_outside.specs.declared.unit_table.Row.{Row}
use Rattle.f2c_outside.specs.declared.unit_table.Row.TheVariants as row
use Rattle.f2c_outside.specs.declared.unit_table.NotPlaced.{NotPlaced}
use Rattle.f2c_outside.specs.declared.unit_table.NotPlaced.TheVariants as refusal
use Rattle.f2c_outside.specs.Table as table
use Rattle.f2c_outside.specs.Table.{Offers, Connects, Closed, FinishedOn}
use Rattle.f2c_outside.specs.Device.{DeviceState}

-- the device comes back: as taken exactly where the unit is connected
abbrev pub ComesBack : {V : Type 0} {H : V → Type 0} → Bool → DynBox V Global H → NotPlaced V H → Type 0
ComesBack connected device (refusal.Taken back) = (connected ≡ true) × (back ≡ device)
ComesBack connected device (refusal.NoMemory back) = (connected ≡ false) × (back ≡ device)

-- the device of a row
abbrev pub device_in : {V : Type 0} {H : V → Type 0} → Row V H → Option (DynBox V Global H)
device_in (row.Offered name device) = Some device
device_in (row.Connected c) = Some c.device
device_in row.Closed = None

-- whether blanks are read as zeros where the row is connected
abbrev pub zeros_in : {V : Type 0} {H : V → Type 0} → Row V H → Bool
zeros_in (row.Connected c) = c.zero_blanks
zeros_in (row.Offered name device) = false
zeros_in row.Closed = false

-- an offered row is connected to a unit
abbrev pub BecomesConnected : ℤ → Bool → table.Row → table.Row → Type 0
BecomesConnected unit zero_blanks (Offers name device) after = after ≡ Connects unit device false zero_blanks
BecomesConnected unit zero_blanks (Connects own device end_mark blanks) after = Unit {0}
BecomesConnected unit zero_blanks Closed after = Unit {0}

-- the device of a connected row was finished, and is handed on with the records that it had and their number
abbrev pub HandsOn : table.Row → DeviceState → ℕ → Type 0
HandsOn (Connects unit device end_mark zero_blanks) taken records = FinishedOn device end_mark taken end_mark (Ok records)
HandsOn (Offers name device) taken records = Unit {0}
HandsOn Closed taken records = Unit {0}
