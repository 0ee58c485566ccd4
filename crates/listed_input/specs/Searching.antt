-- The search for the value of an item, record by record (ANSI X3.9-1978, 13.6.1).
use Rattle.std.specs.Prelude.{◌≡◌, ℕ, ℤ, ◌<◌, ◌≤◌, ◌+◌, ◌*◌, true, List, [], ◌++◌, length, take, Result, Ok, Err}
use Rattle.std.specs.Bool.{⊤}
use Rattle.c_tree.specs.Objects.{Object}
use Rattle.c_tree.specs.Transfers.{Upcoming, read_on}
use Rattle.c_tree.specs.TransferInput.{kind_of, runs_out}
use Rattle.edit_rules.specs.edit_meaning.ListInput.{Kind, Place, Between, Repeated, Nulls, Inside}
use Rattle.edit_rules.specs.edit_meaning.ListItems.{begun_with, item_over}
use Rattle.edit_rules.specs.declared.list_reader.ListItem.{ListItem}
use Rattle.edit_rules.specs.declared.list_reader.ListItem.TheVariants as item
use Rattle.edit_rules.specs.declared.list_reader.ListReader.{ListReader}
use Rattle.edit_rules.specs.Reader.{StandsIn}
use Rattle.f2c_outside.specs.Table.{Row}
use Rattle.f2c_outside.specs.Meaning.{Tells, units_of}
use Rattle.listed_output.specs.Writing.{StayedOn}
use Rattle.listed_input.specs.declared.ends.ItemEnd.{ItemEnd}
use Rattle.listed_input.specs.declared.ends.Step.{Step}
use Rattle.listed_input.specs.declared.ends.Step.TheVariants.{Read, GoesOn}
use Rattle.listed_input.specs.declared.kinds.Item.{Item}
use Rattle.listed_input.specs.declared.reading.RecordInReading.{RecordInReading}
use Rattle.listed_input.specs.Fetching.{coming, position_of}
use Rattle.listed_output.specs.Kinds.{kind_shown}
use Rattle.listed_input.specs.Texts.{Written}
use Rattle.listed_input.specs.Reading.{place_of, ReadsItem}

-- a place outside a text in apostrophes
abbrev pub IsOutside : Place → Type 0
IsOutside (Between valued rest) = ⊤
IsOutside (Repeated more rest) = ⊤
IsOutside (Nulls more rest) = ⊤
IsOutside (Inside more constant rest) = ⊥

-- where an item begins: its unit, the item, the place, the objects and the rows; and how many steps its search has taken
pub record Search : Type 0 where
  pub unit : ℤ
  pub item : Item
  pub place : Place
  pub objects : List Object
  pub rows : List Row
  pub steps : ℕ

abbrev pub kind_in : Search → Kind
kind_in from = kind_of (kind_shown from.item.kind)

-- records before the others
abbrev pub all_before : List (List ℕ) → Upcoming → Upcoming
all_before front next = record next { lines = front ++ next.lines }

-- the bytes of its record that stand behind a place
abbrev pub rest_size : Place → ℕ
rest_size (Between valued rest) = length rest
rest_size (Repeated more rest) = length rest
rest_size (Nulls more rest) = length rest
rest_size (Inside more constant rest) = length rest

abbrev pub one_more : Search → Search
one_more from = record from { steps = from.steps + 1 }

-- some records are read and a text is begun, and the item has no value yet
pub record Seeking (from : Search) (reading : RecordInReading) (objects : List Object) (rows : List Row) (done : ℕ) : Type 0 where
  pub text : List ℕ
  pub front : List (List ℕ)
  pub tells : Tells from.rows → Tells rows
  pub stays : StayedOn from.unit from.rows rows
  pub comes : Tells from.rows → coming from.unit (units_of from.rows) ≡ all_before front (coming from.unit (units_of rows))
  pub reads : Tells from.rows → units_of rows ≡ read_on (length front) from.unit (units_of from.rows)
  pub same : (later : List (List ℕ)) → item_over from.place (front ++ later) (kind_in from) ≡ begun_with text (item_over (place_of reading) later (kind_in from))
  pub out : (j : ℕ) → j < length front → runs_out (item_over from.place (take j front) (kind_in from)) ≡ true
  pub written : Written from.objects from.item.pointer from.item.size text objects done
  pub counted : from.steps + rest_size (place_of reading) ≤ 1024 + 1025 * length front
  pub deep : length front ≤ position_of from.unit (units_of rows)
  pub fresh : IsOutside (place_of reading) → text ≡ []

-- where another record is needed, the reader stands in each
abbrev pub GoesAnywhere : ListItem → ListReader → Type 0
GoesAnywhere item.NeedLine reader = (line : List ℕ) → StandsIn reader line
GoesAnywhere item.Slash reader = ⊤
GoesAnywhere item.Null reader = ⊤
GoesAnywhere (item.Bad number) reader = ⊤
GoesAnywhere (item.Int number) reader = ⊤
GoesAnywhere (item.Logical truth) reader = ⊤
GoesAnywhere (item.Text start end more) reader = ⊤

-- behind a step the search goes on, or the item is read
abbrev pub Steps : Search → RecordInReading → List Object → List Row → Result Step ItemEnd → Type 0
Steps from reading objects rows (Ok (GoesOn done)) = Seeking (one_more from) reading objects rows done
Steps from reading objects rows (Ok (Read read)) = ReadsItem from.unit from.item from.place (place_of reading) from.objects objects from.rows rows (Ok read)
Steps from reading objects rows (Err end) = ReadsItem from.unit from.item from.place (place_of reading) from.objects objects from.rows rows (Err end)
