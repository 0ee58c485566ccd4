-- The unit table: a list of rows, one for each device that was handed in, in that order. A row never moves.
-- What each call of the table does to its rows (ANSI X3.9-1978, section 12).
use Rattle.std.specs.Prelude.{◌≡◌, ℕ, ℤ, ◌↔◌, Bool, true, false, List, [], ◌∷◌, ◌++◌, length, Option, Some, None, Result, Ok, Err, IfSome, IfOk, IfErr, OnOk, OnErr, IsOk, IsErrOf, if◌then◌else◌, bytes_eq}
use Rattle.std.specs.List.{list_any}
use Rattle.std.specs.Ordering.{int_eq}
use Rattle.f2c_outside.specs.Device.{DeviceState, WasCalled, DidRead, Wrote, WentBack, Rewound, EndedFile, Finished}
use Rattle.f2c_outside.specs.declared.devices.Got.{Got}
use Rattle.f2c_outside.specs.declared.devices.Got.TheVariants as got
use Rattle.f2c_outside.specs.declared.unit_table.Closed as declared
use Rattle.run_state.specs.declared.refusals.UnitRefusal.{UnitRefusal}
use Rattle.run_state.specs.declared.refusals.UnitRefusal.TheVariants as refusal

-- a row is offered under a name, connected to a unit, or closed; a closed row has no device
pub data Row : Type 0 where
  Offers : (name : List ℕ) (device : DeviceState) → Row
  Connects : (unit : ℤ) (device : DeviceState) (end_mark zero_blanks : Bool) → Row
  Closed : Row

abbrev pub at_unit : ℤ → Row → Bool
at_unit unit (Connects own device end_mark zero_blanks) = int_eq own unit
at_unit unit (Offers name device) = false
at_unit unit Closed = false

-- a row is connected to the unit
abbrev pub is_connected : ℤ → List Row → Bool
is_connected unit rows = list_any (at_unit unit) rows

abbrev pub offers_name : List ℕ → Row → Bool
offers_name name (Offers own device) = bytes_eq own name
offers_name name (Connects unit device end_mark zero_blanks) = false
offers_name name Closed = false

-- a row is offered under the name
abbrev pub is_offered : List ℕ → List Row → Bool
is_offered name rows = list_any (offers_name name) rows

-- blanks in a number are read as zeros on this unit; false where it is not connected
abbrev pub reads_zeros : ℤ → List Row → Bool
reads_zeros unit [] = false
reads_zeros unit (Connects own device end_mark zero_blanks ∷ rest) = if int_eq own unit then zero_blanks else reads_zeros unit rest
reads_zeros unit (Offers name device ∷ rest) = reads_zeros unit rest
reads_zeros unit (Closed ∷ rest) = reads_zeros unit rest

-- the row of a unit changed as R says of its device and its end mark before and after, and no other row did
pub record AtUnit (unit : ℤ) (b a : List Row) (R : DeviceState → Bool → DeviceState → Bool → Type 0) : Type 0 where
  pub front : List Row
  pub back : List Row
  pub device : DeviceState
  pub device' : DeviceState
  pub end_mark : Bool
  pub end_mark' : Bool
  pub zero_blanks : Bool
  pub was : b ≡ front ++ Connects unit device end_mark zero_blanks ∷ back
  pub now : a ≡ front ++ Connects unit device' end_mark' zero_blanks ∷ back
  pub alone : is_connected unit (front ++ back) ≡ false
  pub did : R device end_mark device' end_mark'

-- a call on a unit: `NotConnected` exactly where it is not connected, and then nothing changes
pub record OnUnit {T : Type 0} (unit : ℤ) (b a : List Row) (result : Result T UnitRefusal) (R : DeviceState → Bool → DeviceState → Bool → Type 0) : Type 0 where
  pub found : is_connected unit b ≡ true → AtUnit unit b a R
  pub missing : is_connected unit b ≡ false → a ≡ b
  pub refused : IsErrOf result refusal.NotConnected ↔ (is_connected unit b ≡ false)

abbrev pub IsFailed : UnitRefusal → Type 0
IsFailed refusal.Failed = Unit {0}
IsFailed refusal.NotConnected = ⊥
IsFailed refusal.NotOffered = ⊥
IsFailed refusal.Taken = ⊥
IsFailed refusal.PastEnd = ⊥

abbrev pub IsPastOrFailed : UnitRefusal → Type 0
IsPastOrFailed refusal.Failed = Unit {0}
IsPastOrFailed refusal.PastEnd = Unit {0}
IsPastOrFailed refusal.NotConnected = ⊥
IsPastOrFailed refusal.NotOffered = ⊥
IsPastOrFailed refusal.Taken = ⊥

-- what the device answered, which failed where the call was refused
abbrev pub answered : Result Got UnitRefusal → Got
answered (Ok got) = got
answered (Err refused) = got.Failed

-- the end mark after an answer: it is set at the end, and stays else
abbrev pub mark_after : Got → Bool → Bool
mark_after got.End mark = true
mark_after (got.Line n) mark = mark
mark_after (got.Long n) mark = mark
mark_after got.Failed mark = mark

-- `read_from`
pub record ReadFrom (d : DeviceState) (m : Bool) (d' : DeviceState) (m' : Bool) (old new : List ℕ) (result : Result Got UnitRefusal) : Type 0 where
  pub called : WasCalled d d' (IsErrOf result refusal.Failed)
  pub read : DidRead (answered result) d d' old new
  pub never : ¬ (result ≡ Ok got.Failed)
  pub mark : m' ≡ mark_after (answered result) m
  pub refused : IfErr result IsFailed

-- `write_to`: nothing is written behind the endfile record
pub record WrittenTo {T : Type 0} (d : DeviceState) (m : Bool) (d' : DeviceState) (m' : Bool) (bytes : List ℕ) (result : Result T UnitRefusal) : Type 0 where
  pub called : m ≡ false → WasCalled d d' (IsErrOf result refusal.Failed)
  pub wrote : Wrote bytes d d' result
  pub past : IsErrOf result refusal.PastEnd ↔ (m ≡ true)
  pub unchanged : IsErrOf result refusal.PastEnd → d' ≡ d
  pub mark : m' ≡ m
  pub refused : IfErr result IsPastOrFailed

-- `back_unit`: a standing end mark is cleared and nothing else happens; else the device goes back
pub record BackOn {T : Type 0} (d : DeviceState) (m : Bool) (d' : DeviceState) (m' : Bool) (result : Result T UnitRefusal) : Type 0 where
  pub called : m ≡ false → WasCalled d d' (IsErrOf result refusal.Failed)
  pub marked : m ≡ true → (d' ≡ d) × IsOk result
  pub unmarked : m ≡ false → WentBack d d' result
  pub mark : m' ≡ false
  pub refused : IfErr result IsFailed

-- `rewind_unit`
pub record RewoundOn {T : Type 0} (d : DeviceState) (m : Bool) (d' : DeviceState) (m' : Bool) (result : Result T UnitRefusal) : Type 0 where
  pub called : WasCalled d d' (IsErrOf result refusal.Failed)
  pub rewound : Rewound d d' result
  pub cleared : OnOk result (m' ≡ false)
  pub kept : OnErr result (m' ≡ m)
  pub refused : IfErr result IsFailed

-- `end_unit`: the endfile record is written, and the unit stands behind it
pub record EndedOn {T : Type 0} (d : DeviceState) (m : Bool) (d' : DeviceState) (m' : Bool) (result : Result T UnitRefusal) : Type 0 where
  pub called : m ≡ false → WasCalled d d' (IsErrOf result refusal.Failed)
  pub ended : EndedFile d d' result
  pub past : IsErrOf result refusal.PastEnd ↔ (m ≡ true)
  pub unchanged : IsErrOf result refusal.PastEnd → d' ≡ d
  pub set : OnOk result (m' ≡ true)
  pub kept : OnErr result (m' ≡ m)
  pub refused : IfErr result IsPastOrFailed

-- `open_unit` of a unit that is not connected: the first row that is offered under the name is connected
pub record IsOpened (unit : ℤ) (name : List ℕ) (zero_blanks : Bool) (b a : List Row) : Type 0 where
  pub front : List Row
  pub back : List Row
  pub device : DeviceState
  pub was : b ≡ front ++ Offers name device ∷ back
  pub first : is_offered name front ≡ false
  pub now : a ≡ front ++ Connects unit device false zero_blanks ∷ back

-- `open_unit`: `Taken` exactly where the unit is connected, else `NotOffered` exactly where no row has the name
pub record OpenedUnit {T : Type 0} (unit : ℤ) (name : List ℕ) (zero_blanks : Bool) (b a : List Row) (result : Result T UnitRefusal) : Type 0 where
  pub taken : IsErrOf result refusal.Taken ↔ (is_connected unit b ≡ true)
  pub not_offered : IsErrOf result refusal.NotOffered ↔ ((is_connected unit b ≡ false) × (is_offered name b ≡ false))
  pub done : IsOk result ↔ ((is_connected unit b ≡ false) × (is_offered name b ≡ true))
  pub opened : OnOk result (IsOpened unit name zero_blanks b a)
  pub kept : OnErr result (a ≡ b)

-- the units of the connected rows, in the order of the rows
abbrev pub units_at : List Row → List ℤ
units_at [] = []
units_at (Connects unit device end_mark zero_blanks ∷ rest) = unit ∷ units_at rest
units_at (Offers name device ∷ rest) = units_at rest
units_at (Closed ∷ rest) = units_at rest

-- the first of a list that passes a test stands behind `front`
pub record IsFirstAt {X : Type 0} (passes : X → Bool) (xs : List X) (number : ℕ) : Type 0 where
  pub front : List X
  pub item : X
  pub back : List X
  pub is : xs ≡ front ++ item ∷ back
  pub at : number ≡ length front
  pub holds : passes item ≡ true
  pub first : list_any passes front ≡ false

-- the number of the first that passes, or `None` where none does
abbrev pub IsFirst : {X : Type 0} → (X → Bool) → List X → Option ℕ → Type 0
IsFirst passes xs None = list_any passes xs ≡ false
IsFirst passes xs (Some number) = IsFirstAt passes xs number

-- a connected row whose device and end mark changed as R says
pub record StaysConnected (unit : ℤ) (zero_blanks : Bool) (device : DeviceState) (end_mark : Bool) (after : Row) (R : DeviceState → Bool → DeviceState → Bool → Type 0) : Type 0 where
  pub device' : DeviceState
  pub end_mark' : Bool
  pub is : after ≡ Connects unit device' end_mark' zero_blanks
  pub did : R device end_mark device' end_mark'

-- a row changed as R says where it is connected
abbrev pub OnRow : Row → Row → (DeviceState → Bool → DeviceState → Bool → Type 0) → Type 0
OnRow (Connects unit device end_mark zero_blanks) after R = StaysConnected unit zero_blanks device end_mark after R
OnRow (Offers name device) after R = Unit {0}
OnRow Closed after R = Unit {0}

-- what `finish` answered, as a number of records
abbrev pub counted : Result declared.Closed UnitRefusal → Result ℕ UnitRefusal
counted (Ok closed) = Ok closed.records
counted (Err refused) = Err refused

-- `finish` of the device of a unit
pub record FinishedOn (d : DeviceState) (m : Bool) (d' : DeviceState) (m' : Bool) (result : Result ℕ UnitRefusal) : Type 0 where
  pub called : WasCalled d d' (IsErrOf result refusal.Failed)
  pub finished : Finished d d' result
  pub mark : m' ≡ m
  pub refused : IfErr result IsFailed

-- the row of a unit is closed, and no other row changes
pub record IsClosed (unit : ℤ) (b a : List Row) (records : ℕ) : Type 0 where
  pub front : List Row
  pub back : List Row
  pub device : DeviceState
  pub end_mark : Bool
  pub zero_blanks : Bool
  pub was : b ≡ front ++ Connects unit device end_mark zero_blanks ∷ back
  pub now : a ≡ front ++ Closed ∷ back
  pub free : is_connected unit a ≡ false
  pub count : IfSome device.told (λ lines. records ≡ length lines)

abbrev pub IsMissingOrFailed : UnitRefusal → Type 0
IsMissingOrFailed refusal.Failed = Unit {0}
IsMissingOrFailed refusal.NotConnected = Unit {0}
IsMissingOrFailed refusal.NotOffered = ⊥
IsMissingOrFailed refusal.Taken = ⊥
IsMissingOrFailed refusal.PastEnd = ⊥

-- `close_unit`: where the device fails, the unit stays connected and keeps it
pub record ClosedUnit (unit : ℤ) (b a : List Row) (result : Result declared.Closed UnitRefusal) : Type 0 where
  pub closed : IfOk result (λ closed. IsClosed unit b a closed.records)
  pub failed : IsErrOf result refusal.Failed → AtUnit unit b a (λ d m d' m'. FinishedOn d m d' m' (counted result))
  pub missing : IsErrOf result refusal.NotConnected → a ≡ b
  pub refused : IsErrOf result refusal.NotConnected ↔ (is_connected unit b ≡ false)
  pub other : IfErr result IsMissingOrFailed

-- a connected row is closed, or stays connected where its device fails
pub record ClosesRow (unit : ℤ) (zero_blanks : Bool) (device : DeviceState) (end_mark : Bool) (after : Row) (result : Result declared.Closed UnitRefusal) : Type 0 where
  pub closed : IfOk result (λ closed. (after ≡ Closed) × IfSome device.told (λ lines. closed.records ≡ length lines))
  pub failed : OnErr result (StaysConnected unit zero_blanks device end_mark after (λ d m d' m'. FinishedOn d m d' m' (counted result)))
  pub refused : IfErr result IsFailed

abbrev pub OnClosedRow : Row → Row → Result declared.Closed UnitRefusal → Type 0
OnClosedRow (Connects unit device end_mark zero_blanks) after result = ClosesRow unit zero_blanks device end_mark after result
OnClosedRow (Offers name device) after result = Unit {0}
OnClosedRow Closed after result = Unit {0}
