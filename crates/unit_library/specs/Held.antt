-- What a library holds: the rows of its units, what is held of the transfer in progress, and how long the texts are for which it has room.
use Rattle.std.specs.Prelude.{ℕ, List, length, Option}
use Rattle.std.specs.declared.alloc.Global.{Global}
use Rattle.std.specs.declared.dyn_box.DynBox.{DynBox}
use Rattle.f2c_outside.specs.Device.{DeviceState}
use Rattle.f2c_outside.specs.Table.{Row}
use Rattle.f2c_outside.specs.Rows.{rows_of}
use Rattle.unit_library.specs.declared.library.UnitLibrary.{UnitLibrary}
use Rattle.unit_library.specs.declared.transfers.TransferInProgress.{TransferInProgress}

abbrev pub rows_in : {V : Type 0} {H : V → Type 0} → (DynBox V Global H → DeviceState) → UnitLibrary V H → List Row
rows_in state library = rows_of state library.units

abbrev pub transfer_in : {V : Type 0} {H : V → Type 0} → UnitLibrary V H → Option TransferInProgress
transfer_in library = library.transfer

abbrev pub room_in : {V : Type 0} {H : V → Type 0} → UnitLibrary V H → ℕ
room_in library = length library.buffer.items
