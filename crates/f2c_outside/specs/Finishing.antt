-- What finishing the device of every connected unit does to the rows of a unit table, as at the end of a program
-- (ANSI X3.9-1978, 12.10.2.1: every connected unit is closed, and its file is kept).
use Rattle.std.specs.Prelude.{◌≡◌, ◌≤◌, ℤ, ◌<ℤ◌, Bool, true, false, ◌&&◌, List, [], ◌∷◌, Option, Some, None, Result, IfErr, OnOk}
use Rattle.std.specs.List.{list_any}
use Rattle.std.specs.Ordering.{int_eq}
use Rattle.std.specs.Int.Signed.{lt_z}
use Rattle.f2c_outside.specs.Shelf.{Rose}
use Rattle.f2c_outside.specs.Device.{DeviceState, one_more}
use Rattle.f2c_outside.specs.Table.{Row, Offers, Connects, Closed, is_connected}
use Rattle.f2c_outside.specs.declared.unit_table.UnitFault.{UnitFault}

-- `finish` succeeded on a device: it was called once, its records are where they are to stay, and nothing else
-- changed
pub record WasFinished (b a : DeviceState) : Type 0 where
  pub calls : a.calls ≡ one_more b.calls
  pub told : a.told ≡ b.told
  pub position : a.position ≡ b.position
  pub finished : a.finished ≡ true
  pub faults : a.faults ≡ b.faults

-- `finish` failed on a device: it was called once, its count of faults rose, and its records and its position
-- are as before
pub record FailedToFinish (b a : DeviceState) : Type 0 where
  pub calls : a.calls ≡ one_more b.calls
  pub told : a.told ≡ b.told
  pub position : a.position ≡ b.position
  pub finished : a.finished ≡ false
  pub later : b.faults ≤ a.faults
  pub rose : Rose b.faults a.faults

-- what became of the device of a unit where `unit` is the first whose device failed, in ascending order
pub record FinishedUpTo (unit own : ℤ) (b a : DeviceState) : Type 0 where
  pub before : own <ℤ unit → WasFinished b a
  pub here : own ≡ unit → FailedToFinish b a
  pub behind : unit <ℤ own → a ≡ b

-- a connected row stays connected with its end mark and its blanks, and its device changed as R says of its unit
pub record KeepsUnit (R : ℤ → DeviceState → DeviceState → Type 0) (unit : ℤ) (device : DeviceState) (end_mark zero_blanks : Bool) (after : Row) : Type 0 where
  pub device' : DeviceState
  pub is : after ≡ Connects unit device' end_mark zero_blanks
  pub did : R unit device device'

-- a row whose device changed as R says where it is connected, and which is as before where it is not
abbrev pub OnDevice : (ℤ → DeviceState → DeviceState → Type 0) → Row → Row → Type 0
OnDevice R (Connects unit device end_mark zero_blanks) after = KeepsUnit R unit device end_mark zero_blanks after
OnDevice R (Offers name device) after = after ≡ Offers name device
OnDevice R Closed after = after ≡ Closed

-- each row is in its place, and changed as P says
abbrev pub EachRow : (Row → Row → Type 0) → List Row → List Row → Type 0
EachRow P [] after = after ≡ []
EachRow P (row ∷ rest) [] = ⊥
EachRow P (row ∷ rest) (row' ∷ rest') = P row row' × EachRow P rest rest'

-- `finish_all` stopped at a unit: it is connected, the units before it were finished, its device failed, and
-- those behind it were not reached
pub record IsFirstFault (unit : ℤ) (b a : List Row) : Type 0 where
  pub connected : is_connected unit b ≡ true
  pub rows : EachRow (OnDevice (FinishedUpTo unit)) b a

-- `finish_all`
pub record FinishedAll {T : Type 0} (b a : List Row) (result : Result T UnitFault) : Type 0 where
  pub all : OnOk result (EachRow (OnDevice (λ own d d'. WasFinished d d')) b a)
  pub first : IfErr result (λ fault. IsFirstFault fault.unit b a)

-- the unit is above the last one that was finished, where there is one
abbrev pub is_above : Option ℤ → ℤ → Bool
is_above None unit = true
is_above (Some last) unit = lt_z last unit

-- the unit is below the least one so far, where there is one
abbrev pub is_below : Option ℤ → ℤ → Bool
is_below None unit = true
is_below (Some least) unit = lt_z unit least

-- the least of the units above the last one
pub record IsLeastAbove (last : Option ℤ) (units : List ℤ) (unit : ℤ) : Type 0 where
  pub among : list_any (λ own. int_eq own unit) units ≡ true
  pub above : is_above last unit ≡ true
  pub least : list_any (λ own. is_above last own && lt_z own unit) units ≡ false

-- the next unit in ascending order, or `None` where none is above the last one
abbrev pub IsNext : Option ℤ → List ℤ → Option ℤ → Type 0
IsNext last units None = list_any (is_above last) units ≡ false
IsNext last units (Some unit) = IsLeastAbove last units unit
