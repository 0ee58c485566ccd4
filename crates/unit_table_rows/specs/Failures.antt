-- What calls of a unit table leave whose device fails, and how `finish_all` goes through three units.
use Rattle.std.specs.Prelude.{◌≡◌, Bool, false, List, [], ◌∷◌, pos, if◌then◌else◌}
use Rattle.f2c_outside.specs.Shelf.{Rose}
use Rattle.f2c_outside.specs.Device.{DeviceState, IsPlaced, TellsAlike, one_more}
use Rattle.f2c_outside.specs.Table.{Row, Connects}
use Rattle.f2c_outside.specs.Finishing.{WasFinished, FailedToFinish}

-- the device was called once, its count of faults rose, its position is among its records, whether it tells them is as before,
-- and so is the end mark
pub record LeftByFailure (d : DeviceState) (m : Bool) (d' : DeviceState) (m' : Bool) : Type 0 where
  pub calls : d'.calls ≡ one_more d.calls
  pub rose : Rose d.faults d'.faults
  pub placed : IsPlaced d'
  pub tells : TellsAlike d d'
  pub mark : m' ≡ m

-- the device was called once
abbrev pub CalledOnce : DeviceState → Bool → DeviceState → Bool → Type 0
CalledOnce d m d' m' = d'.calls ≡ one_more d.calls

-- the device was called once, and not at all where the end mark stands
abbrev pub CalledUnlessMarked : DeviceState → Bool → DeviceState → Bool → Type 0
CalledUnlessMarked d m d' m' = d'.calls ≡ (if m then d.calls else one_more d.calls)

-- `finish` failed on the device, and the end mark is as before
pub record LeftByFinish (d : DeviceState) (m : Bool) (d' : DeviceState) (m' : Bool) : Type 0 where
  pub did : FailedToFinish d d'
  pub mark : m' ≡ m

-- the devices of three units
pub record Three : Type 0 where
  pub one : DeviceState
  pub three : DeviceState
  pub five : DeviceState

-- the units 5, 1 and 3, connected in this order
abbrev pub three_rows : Three → List Row
three_rows t =
    Connects (pos 5) t.five false false ∷ Connects (pos 1) t.one false false ∷ Connects (pos 3) t.three false false ∷ []

-- each device was finished, and all units stay connected
pub record AllFinished (before : Three) (rows : List Row) : Type 0 where
  pub after : Three
  pub is : rows ≡ three_rows after
  pub one : WasFinished before.one after.one
  pub three : WasFinished before.three after.three
  pub five : WasFinished before.five after.five

-- the device of unit 1 was finished, that of unit 3 failed, and that of unit 5 is as before
pub record StoppedAtThree (before : Three) (rows : List Row) : Type 0 where
  pub after : Three
  pub is : rows ≡ three_rows after
  pub one : WasFinished before.one after.one
  pub three : FailedToFinish before.three after.three
  pub five : after.five ≡ before.five
