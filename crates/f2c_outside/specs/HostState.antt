-- A device over a real stream or file. It tells nothing of its records.
use Rattle.std.specs.Prelude.{◌≡◌, ℕ, List, Bool, Option, None, Some}
use Rattle.f2c_outside.specs.Device.{DeviceState}
use Rattle.f2c_outside.specs.declared.host_file.HostFile.{HostFile}

abbrev pub untold_device : (position : ℕ) (finished : Bool) (calls faults : ℕ) → DeviceState
untold_device position finished calls faults =
    record { told = None; position = position; finished = finished; calls = calls; faults = faults }

-- a file was open before and after, and changed as P says
abbrev pub BothOpen : {F : Type 0} → Option F → Option F → (F → F → Type 0) → Type 0
BothOpen None after P = ⊥
BothOpen (Some file) None P = ⊥
BothOpen (Some file) (Some file') P = P file file'

-- a device is over the file of this name
abbrev pub IsOver : {R F D : Type 0} → List ℕ → HostFile R F D → Type 0
IsOver name file = file.name ≡ name
