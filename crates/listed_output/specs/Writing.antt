-- Records that are written to a unit one after the other, and the values that make them (ANSI X3.9-1978, 12.9.5.2 and 13.6.2).
use Rattle.std.specs.Prelude.{◌≡◌, ℕ, ℤ, List, [], ◌∷◌, ◌++◌, Result, Ok, Err, OnOk}
use Rattle.c_tree.specs.run_state.Units.{Units}
use Rattle.run_state.specs.declared.refusals.UnitRefusal.{UnitRefusal}
use Rattle.run_state.specs.declared.refusals.UnitRefusal.TheVariants.{NotConnected, NotOffered, Taken, PastEnd, Failed}
use Rattle.c_tree.specs.TransferOutput.{write_all}
use Rattle.edit_rules.specs.edit_meaning.Listed.{ListedValue, listing}
use Rattle.f2c_outside.specs.Device.{DeviceState}
use Rattle.f2c_outside.specs.Table.{Row}
use Rattle.f2c_outside.specs.Finishing.{OnDevice, EachRow}
use Rattle.f2c_outside.specs.Meaning.{Tells, units_of}
use Rattle.edit_rules.specs.declared.list_writer.ListWriter.{ListWriter}
use Rattle.edit_rules.specs.Writer.{done_by, making_of, Stands}
use Rattle.unit_answers.specs.Failing.{FailedOn}

-- the device of one unit has the count of faults that it had, and the other devices are as before
pub record StaysAt (unit own : ℤ) (b a : DeviceState) : Type 0 where
  pub here : own ≡ unit → a.faults ≡ b.faults
  pub elsewhere : (own ≡ unit → ⊥) → a ≡ b

-- no device failed, and only that of one unit was called
abbrev pub StayedOn : ℤ → List Row → List Row → Type 0
StayedOn unit before after = EachRow (OnDevice (StaysAt unit)) before after

-- the lines are written, or their writing is refused and the units are as before
abbrev pub WritesAs : ℤ → List (List ℕ) → Units → Units → Result (Unit {0}) UnitRefusal → Type 0
WritesAs unit lines before after (Ok done) = write_all unit lines before ≡ Ok after
WritesAs unit lines before after (Err Failed) = Unit {0}
WritesAs unit lines before after (Err NotConnected) = (write_all unit lines before ≡ Err NotConnected) × (after ≡ before)
WritesAs unit lines before after (Err NotOffered) = (write_all unit lines before ≡ Err NotOffered) × (after ≡ before)
WritesAs unit lines before after (Err Taken) = (write_all unit lines before ≡ Err Taken) × (after ≡ before)
WritesAs unit lines before after (Err PastEnd) = (write_all unit lines before ≡ Err PastEnd) × (after ≡ before)

-- the device of the unit failed, or none did
abbrev pub FailsOn : ℤ → List Row → List Row → Result (Unit {0}) UnitRefusal → Type 0
FailsOn unit before after (Ok done) = StayedOn unit before after
FailsOn unit before after (Err Failed) = FailedOn unit before after
FailsOn unit before after (Err NotConnected) = StayedOn unit before after
FailsOn unit before after (Err NotOffered) = StayedOn unit before after
FailsOn unit before after (Err Taken) = StayedOn unit before after
FailsOn unit before after (Err PastEnd) = StayedOn unit before after

-- lines are written to a unit, one after the other
pub record Writes (unit : ℤ) (lines : List (List ℕ)) (old new : List Row) (result : Result (Unit {0}) UnitRefusal) : Type 0 where
  pub tells : Tells old → Tells new
  pub means : Tells old → WritesAs unit lines (units_of old) (units_of new) result
  pub devices : FailsOn unit old new result

-- values make these lines behind the complete records before them; where one is refused, others may come behind it
abbrev pub Makes : List ListedValue → List (List ℕ) → List (List ℕ) → ListWriter → List ℕ → Result (Unit {0}) UnitRefusal → Type 0
Makes values complete lines writer line (Ok done) = listing values ≡ record { complete = complete ++ lines; making = making_of writer line }
Makes values complete lines writer line (Err refusal) = (later : List (List ℕ)) × ((listing values).complete ≡ complete ++ lines ++ later)

-- a value is put behind those before it
pub record PutsValue (unit : ℤ) (item : ListedValue) (writer : ListWriter) (line : List ℕ) (writer' : ListWriter) (line' : List ℕ) (old new : List Row) (result : Result (Unit {0}) UnitRefusal) : Type 0 where
  pub lines : List (List ℕ)
  pub writes : Writes unit lines old new result
  pub makes : (values : List ListedValue) → (complete : List (List ℕ)) → Stands values item complete writer line →
      Makes (values ++ item ∷ []) complete lines writer' line' result
  pub whole : OnOk result (done_by writer' ≡ 0)

-- values are put behind those before them
pub record PutsItems (unit : ℤ) (items : List ListedValue) (writer : ListWriter) (line : List ℕ) (writer' : ListWriter) (line' : List ℕ) (old new : List Row) (result : Result (Unit {0}) UnitRefusal) : Type 0 where
  pub lines : List (List ℕ)
  pub writes : Writes unit lines old new result
  pub makes : (values : List ListedValue) → (complete : List (List ℕ)) → listing values ≡ record { complete = complete; making = making_of writer line } →
      Makes (values ++ items) complete lines writer' line' result
  pub whole : OnOk result (done_by writer' ≡ 0)
