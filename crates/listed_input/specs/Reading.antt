-- One item of list-directed input on a unit: what it is given, and the records that it reads (ANSI X3.9-1978, 13.6.1).
use Rattle.std.specs.Prelude.{◌≡◌, ◌≤◌, ◌^◌, ℕ, suc, ℤ, Bool, true, false, List, take, Option, Result, Ok, Err, OnErr, OnOk}
use Rattle.c_tree.specs.run_state.Units.{Units}
use Rattle.c_tree.specs.Faults.{Or, failing}
use Rattle.c_tree.specs.Objects.{Object}
use Rattle.c_tree.specs.World.{Transfer}
use Rattle.c_tree.specs.World as media
use Rattle.c_tree.specs.Transfers.{nothing_but, read_on, ended_by, Passage, GoesOn, Answers}
use Rattle.c_tree.specs.TransferInput.{kind_of, listed_taken}
use Rattle.edit_rules.specs.edit_meaning.ListInput.{Place, Kind, given}
use Rattle.edit_rules.specs.edit_meaning.ListItems.{item_over}
use Rattle.edit_rules.specs.declared.list_reader.ListItem.{ListItem}
use Rattle.edit_rules.specs.Reader.{place_in, given_as, IsWithin, KeepsPlace}
use Rattle.f2c_outside.specs.Table.{Row}
use Rattle.f2c_outside.specs.Meaning.{Tells, units_of}
use Rattle.unit_answers.specs.Failing.{FailedOn, NoneFailed}
use Rattle.unit_answers.specs.Answers.{world_with}
use Rattle.listed_output.specs.Writing.{StayedOn}
use Rattle.listed_input.specs.declared.ends.ItemEnd.{ItemEnd}
use Rattle.listed_input.specs.declared.ends.ItemEnd.TheVariants.{Fault, Number, Device, Uncounted}
use Rattle.listed_input.specs.declared.ends.ItemRead.{ItemRead}
use Rattle.listed_input.specs.declared.ends.ItemRead.TheVariants.{Given, Slashed}
use Rattle.listed_input.specs.declared.kinds.Item.{Item}
use Rattle.listed_input.specs.declared.reading.RecordInReading.{RecordInReading}
use Rattle.listed_input.specs.Fetching.{coming, before_others, position_of}
use Rattle.listed_output.specs.Kinds.{kind_shown}

-- the record that is being read, and the place in it
abbrev pub line_of : RecordInReading → List ℕ
line_of reading = take reading.used reading.line

abbrev pub place_of : RecordInReading → Place
place_of reading = place_in (line_of reading) reading.reader

-- what an item of a kind is given next in the record
pub record Gives (kind : Kind) (old new : RecordInReading) (result : ListItem) : Type 0 where
  pub same : line_of new ≡ line_of old
  pub given_is : given_as (line_of old) result new.reader ≡ given (place_of old) kind
  pub within : IsWithin (line_of old) result
  pub anywhere : KeepsPlace result old.reader new.reader

-- the next record takes the place of the one that is being read, or there is none
abbrev pub ReadsAs : ℤ → RecordInReading → Units → Units → Result (Unit {0}) ItemEnd → Type 0
ReadsAs unit reading before after (Ok done) =
    (coming unit before ≡ before_others (line_of reading) (coming unit after)) × (after ≡ read_on 1 unit before)
ReadsAs unit reading before after (Err (Number number)) = (coming unit before ≡ nothing_but (Ok number)) × (after ≡ read_on 1 unit before)
ReadsAs unit reading before after (Err (Fault fault)) = ⊥
ReadsAs unit reading before after (Err Device) = Unit {0}
ReadsAs unit reading before after (Err Uncounted) = ⊥

abbrev pub ReadsFrom : ℤ → List Row → List Row → Result (Unit {0}) ItemEnd → Type 0
ReadsFrom unit old new (Ok done) = StayedOn unit old new
ReadsFrom unit old new (Err (Number number)) = NoneFailed old new
ReadsFrom unit old new (Err (Fault fault)) = ⊥
ReadsFrom unit old new (Err Device) = FailedOn unit old new
ReadsFrom unit old new (Err Uncounted) = ⊥

pub record ReadsNext (unit : ℤ) (reading reading' : RecordInReading) (old new : List Row) (result : Result (Unit {0}) ItemEnd) : Type 0 where
  pub tells : Tells old → Tells new
  pub means : Tells old → ReadsAs unit reading' (units_of old) (units_of new) result
  pub devices : ReadsFrom unit old new result
  pub further : OnOk result (position_of unit (units_of new) ≡ suc (position_of unit (units_of old)))
  pub reader : reading'.reader ≡ reading.reader
  pub kept : OnErr result (reading' ≡ reading)

-- a transfer behind an item, at a place or behind a slash
pub record IsBehind (transfer transfer' : Transfer) (place : Place) (slashed : Bool) : Type 0 where
  pub direction : transfer'.direction ≡ transfer.direction
  pub layout : transfer'.layout ≡ transfer.layout
  pub medium : transfer'.medium ≡ transfer.medium
  pub on_error : transfer'.on_error ≡ transfer.on_error
  pub on_end : transfer'.on_end ≡ transfer.on_end
  pub slashed_is : transfer'.slashed ≡ slashed
  pub place_is : slashed ≡ false → transfer'.place ≡ place

pub record ItemGoesOn (meaning : Or Passage) (transfer : Transfer) (objects : List Object) (stale : Option Transfer) (units : Units) (place : Place) (slashed : Bool) : Type 0 where
  pub transfer' : Transfer
  pub is_behind : IsBehind transfer transfer' place slashed
  pub goes_on : meaning ≡ Ok (GoesOn transfer' (world_with objects stale units))

-- a unit stands behind 2^53 records or more
abbrev pub StandsFar : ℤ → List Row → Type 0
StandsFar unit rows = 2 ^ 53 ≤ position_of unit (units_of rows)

-- what holds where more is to be counted than 64 bits tell
abbrev pub UncountedItem : {T : Type 0} → Result T ItemEnd → Type 0 → Type 0
UncountedItem (Ok done) P = Unit {0}
UncountedItem (Err (Fault fault)) P = Unit {0}
UncountedItem (Err (Number number)) P = Unit {0}
UncountedItem (Err Device) P = Unit {0}
UncountedItem (Err Uncounted) P = P

-- what an item comes to
abbrev pub ItemReply : Or Passage → Transfer → List Object → Option Transfer → Units → Place → Result ItemRead ItemEnd → Type 0
ItemReply meaning transfer objects stale units place (Ok Given) = ItemGoesOn meaning transfer objects stale units place false
ItemReply meaning transfer objects stale units place (Ok Slashed) = ItemGoesOn meaning transfer objects stale units place true
ItemReply meaning transfer objects stale units place (Err (Fault fault)) = meaning ≡ failing fault
ItemReply meaning transfer objects stale units place (Err (Number number)) =
    meaning ≡ Ok (Answers (ended_by number transfer (world_with objects stale units)))
ItemReply meaning transfer objects stale units place (Err Device) = Unit {0}
ItemReply meaning transfer objects stale units place (Err Uncounted) = Unit {0}

abbrev pub ItemDevice : ℤ → List Row → List Row → Result ItemRead ItemEnd → Type 0
ItemDevice unit old new (Ok read) = StayedOn unit old new
ItemDevice unit old new (Err (Fault fault)) = StayedOn unit old new
ItemDevice unit old new (Err (Number number)) = NoneFailed old new
ItemDevice unit old new (Err Device) = FailedOn unit old new
ItemDevice unit old new (Err Uncounted) = NoneFailed old new

-- the meaning of an item at a place, over these objects and units
abbrev pub taken_at : ℤ → Item → Transfer → List Object → Option Transfer → Units → Place → Or Passage
taken_at unit item transfer objects stale units place =
    listed_taken (kind_of (kind_shown item.kind)) item.pointer item.size transfer (world_with objects stale units) (coming unit units)
    (item_over place (coming unit units).lines (kind_of (kind_shown item.kind)))

-- an item is read, for each transfer on the unit at its place
pub record ReadsItem (unit : ℤ) (item : Item) (place place' : Place) (objects objects' : List Object) (old new : List Row) (result : Result ItemRead ItemEnd) : Type 0 where
  pub tells : Tells old → Tells new
  pub replies : Tells old → (transfer : Transfer) → (stale : Option Transfer) → transfer.medium ≡ media.Unit unit → transfer.place ≡ place → transfer.slashed ≡ false →
      ItemReply (taken_at unit item transfer objects stale (units_of old) place) transfer objects' stale (units_of new) place' result
  pub devices : ItemDevice unit old new result
  pub uncounted : UncountedItem result (StandsFar unit new)
