-- The rows of a unit table as its contracts see them: a device is seen as its state.
use Rattle.std.specs.Prelude.{ℕ, ℤ, Bool, false, true, not, ◌&&◌, List, [], ◌∷◌, Option, Some, bytes_eq, if◌then◌else◌}
use Rattle.std.specs.List.{list_any}
use Rattle.std.specs.Ordering.{int_eq}
use Rattle.std.specs.declared.alloc.Global.{Global}
use Rattle.std.specs.declared.dyn_box.DynBox.{DynBox}
use Rattle.f2c_outside.specs.Device.{DeviceState}
use Rattle.f2c_outside.specs.Finishing.{is_above, is_below}
use Rattle.f2c_outside.specs.Table as table
use Rattle.f2c_outside.specs.Table.{Offers, Connects, Closed}
use Rattle.f2c_outside.specs.declared.unit_table.Row.{Row}
use Rattle.f2c_outside.specs.declared.unit_table.Row.TheVariants as row

abbrev pub shown : {V : Type 0} {H : V → Type 0} → (DynBox V Global H → DeviceState) → Row V H → table.Row
shown state (row.Offered name device) = Offers name (state device)
shown state (row.Connected c) = Connects c.unit (state c.device) c.end_mark c.zero_blanks
shown state row.Closed = Closed

-- the row is connected to this unit
abbrev pub holds_unit : {V : Type 0} {H : V → Type 0} → ℤ → Row V H → Bool
holds_unit unit (row.Connected c) = int_eq c.unit unit
holds_unit unit (row.Offered name device) = false
holds_unit unit row.Closed = false

-- the row is offered under this name
abbrev pub holds_name : {V : Type 0} {H : V → Type 0} → List ℕ → Row V H → Bool
holds_name name (row.Offered own device) = bytes_eq own name
holds_name name (row.Connected c) = false
holds_name name row.Closed = false

-- the units of the connected rows, in the order of the rows
abbrev pub units_in : {V : Type 0} {H : V → Type 0} → List (Row V H) → List ℤ
units_in [] = []
units_in (row.Connected c ∷ rest) = c.unit ∷ units_in rest
units_in (row.Offered name device ∷ rest) = units_in rest
units_in (row.Closed ∷ rest) = units_in rest

-- no unit stands twice
abbrev pub distinct_units : List ℤ → Bool
distinct_units [] = true
distinct_units (unit ∷ rest) = not (list_any (λ other. int_eq other unit) rest) && distinct_units rest

-- the lesser of the least unit so far and that of a connected row, where it is above the last one
abbrev pub next_in : {V : Type 0} {H : V → Type 0} → Option ℤ → Option ℤ → Row V H → Option ℤ
next_in last least (row.Connected c) = if is_above last c.unit && is_below least c.unit then Some c.unit else least
next_in last least (row.Offered name device) = least
next_in last least row.Closed = least
