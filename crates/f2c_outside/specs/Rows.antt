-- The rows of a unit table.
use Rattle.std.specs.Prelude.{List, map}
use Rattle.std.specs.declared.alloc.Global.{Global}
use Rattle.std.specs.declared.dyn_box.DynBox.{DynBox}
use Rattle.f2c_outside.specs.Device.{DeviceState}
use Rattle.f2c_outside.specs.Table.{Row}
use Rattle.f2c_outside.specs.Shown.{shown}
use Rattle.f2c_outside.specs.declared.unit_table.UnitTable.{UnitTable}

-- the rows, where `state` gives the state of a device
abbrev pub rows_of : {V : Type 0} {H : V → Type 0} → (DynBox V Global H → DeviceState) → UnitTable V H → List Row
rows_of state t = map (shown state) t.rows.items
