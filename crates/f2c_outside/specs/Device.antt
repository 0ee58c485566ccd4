-- What a device holds, and what each of its calls does to it.
-- A device is what an external unit is connected to: a sequence of records and a position among them
-- (ANSI X3.9-1978, 12.1 and 12.2). Where it tells its records, those before a call decide those after it.
use Rattle.std.specs.Prelude.{◌≡◌, ℕ, ◌+◌, ◌-◌, ◌^◌, ◌<◌, ◌≤◌, min, List, [], ◌∷◌, ◌++◌, length, take, drop, Option, option_map, is_some, Result, Bool, true, false, IfSome, IfOk, OnOk, OnErr, IsSomeAnd, slice_get}
use Rattle.f2c_outside.specs.Shelf.{Rose}
use Rattle.f2c_outside.specs.declared.devices.Got.{Got}
use Rattle.f2c_outside.specs.declared.devices.Got.TheVariants.{Line, End, Long, Failed}

-- a record is a sequence of bytes
abbrev pub Records : Type 0
Records = List (List ℕ)

-- the records where the device tells them, how many of them stand before its position, whether `finish` has
-- succeeded since a record was last written or cut off, how many calls there have been, and how many of them
-- have failed
pub record DeviceState : Type 0 where
  pub told : Option Records
  pub position : ℕ
  pub finished : Bool
  pub calls : ℕ
  pub faults : ℕ

-- the position is among the records or behind the last
abbrev pub IsPlaced : DeviceState → Type 0
IsPlaced d = IfSome d.told (λ records. d.position ≤ length records)

-- the records once one has been written at a position: what stood there and behind it is gone
abbrev pub written_at : ℕ → List ℕ → Records → Records
written_at position bytes records = take position records ++ bytes ∷ []

-- the count never falls; a call fails where it rose, and nowhere else
pub record HasDeviceCause (before after : ℕ) (fails : Type 0) : Type 0 where
  pub later : before ≤ after
  pub failed : fails → Rose before after
  pub rose : before < after → fails

-- a count with one more, which stays at the end of its type
abbrev pub one_more : ℕ → ℕ
one_more count = min (count + 1) (2 ^ 64 - 1)

-- what each call of a device says: it is counted, it fails exactly where the count of faults rose, and the
-- position is among the records before it and after it
pub record WasCalled (b a : DeviceState) (fails : Type 0) : Type 0 where
  pub counted : a.calls ≡ one_more b.calls
  pub cause : HasDeviceCause b.faults a.faults fails
  pub was_placed : IsPlaced b
  pub placed : IsPlaced a

-- the record at the position of a device
abbrev pub AtPosition : DeviceState → (List ℕ → Type 0) → Type 0
AtPosition d P = IfSome d.told (λ records. IsSomeAnd (slice_get records d.position) P)

-- a record that fits: its n bytes stand in front of the slice, and the device stands behind it
pub record IsLine (n : ℕ) (b a : DeviceState) (old new : List ℕ) : Type 0 where
  pub told : a.told ≡ b.told
  pub position : a.position ≡ b.position + 1
  pub finished : a.finished ≡ b.finished
  pub fits : n ≤ length old
  pub bytes : AtPosition b (λ line. (length line ≡ n) × (new ≡ line ++ drop n old))

-- a record of n bytes that does not fit: the slice is as before, and the device stands behind it
pub record IsLong (n : ℕ) (b a : DeviceState) (old new : List ℕ) : Type 0 where
  pub told : a.told ≡ b.told
  pub position : a.position ≡ b.position + 1
  pub finished : a.finished ≡ b.finished
  pub longer : length old < n
  pub bytes : AtPosition b (λ line. length line ≡ n)
  pub slice : new ≡ old

-- no record is left, and nothing changes
pub record IsAtEnd (b a : DeviceState) (old new : List ℕ) : Type 0 where
  pub told : a.told ≡ b.told
  pub position : a.position ≡ b.position
  pub finished : a.finished ≡ b.finished
  pub at_end : IfSome b.told (λ records. length records ≤ b.position)
  pub slice : new ≡ old

-- whether a device tells is the same before and after
abbrev pub TellsAlike : DeviceState → DeviceState → Type 0
TellsAlike b a = is_some a.told ≡ is_some b.told

-- `read_record` into a slice that held `old` and now holds `new`
abbrev pub DidRead : Got → DeviceState → DeviceState → List ℕ → List ℕ → Type 0
DidRead (Line n) b a old new = IsLine n b a old new
DidRead End b a old new = IsAtEnd b a old new
DidRead (Long n) b a old new = IsLong n b a old new
DidRead Failed b a old new = TellsAlike b a

-- `write_record`
pub record Wrote {T E : Type 0} (bytes : List ℕ) (b a : DeviceState) (result : Result T E) : Type 0 where
  pub told : OnOk result (a.told ≡ option_map (written_at b.position bytes) b.told)
  pub position : OnOk result (a.position ≡ b.position + 1)
  pub finished : OnOk result (a.finished ≡ false)
  pub tells : TellsAlike b a

-- `back`: by one record, and not at all at the first
pub record WentBack {T E : Type 0} (b a : DeviceState) (result : Result T E) : Type 0 where
  pub told : OnOk result (a.told ≡ b.told)
  pub position : OnOk result (a.position ≡ b.position - 1)
  pub finished : OnOk result (a.finished ≡ b.finished)
  pub tells : TellsAlike b a

-- `rewind`: to the first record
pub record Rewound {T E : Type 0} (b a : DeviceState) (result : Result T E) : Type 0 where
  pub told : OnOk result (a.told ≡ b.told)
  pub position : OnOk result (a.position ≡ 0)
  pub finished : OnOk result (a.finished ≡ b.finished)
  pub tells : TellsAlike b a

-- `end_file`: the records from the position on are cut off
pub record EndedFile {T E : Type 0} (b a : DeviceState) (result : Result T E) : Type 0 where
  pub told : OnOk result (a.told ≡ option_map (take b.position) b.told)
  pub position : OnOk result (a.position ≡ b.position)
  pub finished : OnOk result (a.finished ≡ false)
  pub tells : TellsAlike b a

-- `finish`: it answers the number of records and leaves them and the position, also where it fails
pub record Finished {E : Type 0} (b a : DeviceState) (result : Result ℕ E) : Type 0 where
  pub told : a.told ≡ b.told
  pub position : a.position ≡ b.position
  pub finished : OnOk result (a.finished ≡ true)
  pub unfinished : OnErr result (a.finished ≡ false)
  pub count : IfOk result (λ n. IfSome b.told (λ records. n ≡ length records))
