-- A shelf of real files and streams. It tells nothing of what they hold.
use Rattle.std.specs.Prelude.{ℕ, List, Option, Some, None}
use Rattle.f2c_outside.specs.Shelf.{Active, Idle, Reads, Writes, ShelfState}
use Rattle.f2c_outside.specs.declared.host_shelf.Activity.{Activity}
use Rattle.f2c_outside.specs.declared.host_shelf.Activity.TheVariants as activity

abbrev pub active_now : Activity → Active
active_now activity.Nothing = Idle
active_now (activity.Reading place) = Reads place
active_now (activity.Writing place) = Writes place

abbrev pub untold : Activity → ℕ → ShelfState
untold now faults = record { told = None; left = None; active = active_now now; faults = faults }

-- what an open file tells of its bytes; where none is open, nothing is told
abbrev pub told_of : {F : Type 0} → (F → Option (List ℕ)) → Option F → Option (List ℕ)
told_of tells None = None
told_of tells (Some file) = tells file
