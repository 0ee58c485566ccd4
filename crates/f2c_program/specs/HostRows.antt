-- The units over which the program makes its call: those that are connected before a run (ANSI X3.9-1978, 12.3.2), and the files that OPEN may connect by
-- their names (12.10.1).
use Rattle.std.specs.Prelude.{ℕ, ℤ, pos, false, List, [], ◌∷◌, ◌++◌, map}
use Rattle.f2c_outside.specs.Device.{DeviceState}
use Rattle.f2c_outside.specs.HostState.{untold_device}
use Rattle.f2c_outside.specs.Table.{Row, Offers, Connects}

-- a device over a real stream or file, of which nothing was read and to which nothing was written
abbrev pub fresh_device : DeviceState
fresh_device = untold_device 0 false 0 0

-- a unit that is connected before the run, without an end mark and with blanks that are ignored, as OPEN has them where it does not say
abbrev pub preconnected : ℤ → DeviceState → Row
preconnected unit device = Connects unit device false false

-- the file of this name, which OPEN may connect
abbrev pub offered : List ℕ → Row
offered name = Offers name fresh_device

-- the device of standard input is unit 5 and that of standard output unit 6, and the files of these names stand in the drawer, in their order
abbrev pub rows_over : (input output : DeviceState) → List (List ℕ) → List Row
rows_over input output names = (preconnected (pos 5) input ∷ preconnected (pos 6) output ∷ []) ++ map offered names

-- and these devices are fresh
abbrev pub host_rows : List (List ℕ) → List Row
host_rows names = rows_over fresh_device fresh_device names
