-- The next record of a unit, as an input reads it (ANSI X3.9-1978, 12.9.5.1).
use Rattle.std.specs.Prelude.{◌≡◌, ◌≤◌, ℕ, suc, Some, None, ℤ, pos, negsuc, List, ◌∷◌, length, take, Result, Ok, Err}
use Rattle.c_tree.specs.run_state.Units.{Units}
use Rattle.c_tree.specs.Transfers.{Upcoming, records_upcoming, records_left, nothing_but, read_on}
use Rattle.edit_rules.specs.declared.list_reader.Doing.{Doing}
use Rattle.edit_rules.specs.declared.list_reader.Doing.TheVariants as doing
use Rattle.f2c_outside.specs.declared.devices.Got.{Got}
use Rattle.f2c_outside.specs.declared.devices.Got.TheVariants as got
use Rattle.run_state.specs.declared.refusals.UnitRefusal.{UnitRefusal}
use Rattle.run_state.specs.declared.refusals.UnitRefusal.TheVariants as refusal
use Rattle.f2c_outside.specs.Table.{Row}
use Rattle.f2c_outside.specs.Meaning.{Tells, units_of}
use Rattle.unit_answers.specs.Failing.{FailedOn, NoneFailed}
use Rattle.listed_output.specs.Writing.{StayedOn}
use Rattle.listed_input.specs.declared.records.NextRecord.{NextRecord}
use Rattle.listed_input.specs.declared.records.NextRecord.TheVariants.{Record, Nothing, Failed}

-- the records of a unit that come next
abbrev pub coming : ℤ → Units → Upcoming
coming unit units = records_upcoming (records_left (units.connected unit))

-- how many records of a unit are behind
abbrev pub position_of : ℤ → Units → ℕ
position_of unit units = elim (units.connected unit) [ None ↦ 0 | Some state ↦ state.position ]

-- a record that comes before others
abbrev pub before_others : List ℕ → Upcoming → Upcoming
before_others line later = record later { lines = line ∷ later.lines }

-- the record is the first of those that came next, or none came next, and a number in its place
abbrev pub FetchesAs : ℤ → List ℕ → Units → Units → NextRecord → Type 0
FetchesAs unit line before after (Record used) =
    (coming unit before ≡ before_others (take used line) (coming unit after)) × (after ≡ read_on 1 unit before)
FetchesAs unit line before after (Nothing number) = (coming unit before ≡ nothing_but (Ok number)) × (after ≡ read_on 1 unit before)
FetchesAs unit line before after Failed = Unit {0}

-- the device of the unit failed, or none did
abbrev pub FetchesFrom : ℤ → List Row → List Row → NextRecord → Type 0
FetchesFrom unit old new (Record used) = StayedOn unit old new
FetchesFrom unit old new (Nothing number) = NoneFailed old new
FetchesFrom unit old new Failed = FailedOn unit old new

-- the unit stands behind one record more
abbrev pub GoesFurther : ℤ → List Row → List Row → NextRecord → Type 0
GoesFurther unit old new (Record used) = position_of unit (units_of new) ≡ suc (position_of unit (units_of old))
GoesFurther unit old new (Nothing number) = Unit {0}
GoesFurther unit old new Failed = Unit {0}

-- the record stands in the line
abbrev pub IsWithin : List ℕ → NextRecord → Type 0
IsWithin line (Record used) = used ≤ length line
IsWithin line (Nothing number) = Unit {0}
IsWithin line Failed = Unit {0}

-- what an answer of the unit table comes to
abbrev pub fetched_by : Result Got UnitRefusal → NextRecord
fetched_by (Ok (got.Line used)) = Record used
fetched_by (Ok (got.Long size)) = Nothing (pos 5)
fetched_by (Ok got.End) = Nothing (negsuc 0)
fetched_by (Ok got.Failed) = Failed
fetched_by (Err refusal.NotConnected) = Nothing (negsuc 0)
fetched_by (Err refusal.NotOffered) = Failed
fetched_by (Err refusal.Taken) = Failed
fetched_by (Err refusal.PastEnd) = Failed
fetched_by (Err refusal.Failed) = Failed

-- where the constant begins in which a reader stands
abbrev pub constant_of : Doing → ℕ
constant_of (doing.Between valued) = 0
constant_of (doing.Repeated more) = 0
constant_of (doing.Nulls more) = 0
constant_of (doing.Inside more constant) = constant

-- the next record of a unit is read into the front of a line
pub record Fetches (unit : ℤ) (line : List ℕ) (old new : List Row) (result : NextRecord) : Type 0 where
  pub tells : Tells old → Tells new
  pub means : Tells old → FetchesAs unit line (units_of old) (units_of new) result
  pub devices : FetchesFrom unit old new result
  pub further : GoesFurther unit old new result
  pub within : IsWithin line result
