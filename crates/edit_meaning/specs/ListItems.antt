-- List-directed input over records: the values that the items of a list take. ANSI X3.9-1978, section 13.6.1.
use Rattle.std.specs.Prelude.{◌≡◌, ℕ, zero, suc, ℤ, ◌==◌, Bool, true, false, if◌then◌else◌, List, [], ◌∷◌, ◌++◌}
use Rattle.edit_meaning.specs.ListInput.{Kind, Place, Between, Repeated, Nulls, Inside, Given, Number, Truth, Piece, Null, Slash, NeedRecord, Wrong, Ending, Open, Well, Badly, ending, behind_constant, given}

-- what an item takes; under a null it keeps its value
pub data Value : Type 0 where
  IntValue : ℤ → Value
  LogicalValue : Bool → Value
  TextValue : List ℕ → Value
  Kept : Value

-- how a list ends: each item has what it takes, or a slash stands there, or an error by its number, or the records end. The item at an
-- error or at the end of the records gets the characters that its text has in earlier records
pub data Outcome : Type 0 where
  Filled : Outcome
  Slashed : Outcome
  Failed : ℕ → List ℕ → Outcome
  EndOfRecords : List ℕ → Outcome

-- the values that the items take, and how the list ends
pub record Items : Type 0 where
  pub values : List Value
  pub outcome : Outcome

-- what one item takes, with the place and the records behind it
pub data Item : Type 0 where
  Takes : Value → Place → List (List ℕ) → Item
  Stops : Outcome → Item

-- the characters of a text in apostrophes up to its end or the record's; `quoted` says that an apostrophe stands before
abbrev pub characters : Bool → List ℕ → List ℕ
characters quoted [] = []
characters false (c ∷ cs) = if c == 39 then characters (c == 39) cs else c ∷ characters (c == 39) cs
characters true (c ∷ cs) = if c == 39 then c ∷ characters false cs else []

-- what stands behind the text
abbrev pub behind_text : Bool → List ℕ → List ℕ
behind_text quoted [] = []
behind_text false (c ∷ cs) = behind_text (c == 39) cs
behind_text true (c ∷ cs) = if c == 39 then behind_text false cs else c ∷ cs

-- characters stand before those of the item
abbrev pub begun_with_outcome : List ℕ → Outcome → Outcome
begun_with_outcome front Filled = Filled
begun_with_outcome front Slashed = Slashed
begun_with_outcome front (Failed number text) = Failed number (front ++ text)
begun_with_outcome front (EndOfRecords text) = EndOfRecords (front ++ text)

abbrev pub begun_with_value : List ℕ → Value → Value
begun_with_value front (IntValue number) = IntValue number
begun_with_value front (LogicalValue truth) = LogicalValue truth
begun_with_value front (TextValue text) = TextValue (front ++ text)
begun_with_value front Kept = Kept

abbrev pub begun_with : List ℕ → Item → Item
begun_with front (Takes value place later) = Takes (begun_with_value front value) place later
begun_with front (Stops outcome) = Stops (begun_with_outcome front outcome)

-- a text with these characters up to its end or the record's, and what stands behind them; `on` is what it takes in the next record.
-- A repeated one has to end in its record
abbrev pub text_item : Ending → ℕ → List ℕ → List ℕ → List ℕ → List (List ℕ) → Item → Item
text_item Well more constant text rest later on = Takes (TextValue text) (behind_constant more constant rest) later
text_item Badly more constant text rest later on = Stops (Failed 1 [])
text_item Open zero constant text rest later on = begun_with text on
text_item Open (suc more) constant text rest later on = Stops (Failed 1 [])

-- the rest of a text in apostrophes, which goes on at the first column of the next record where it is not closed in its own
abbrev pub text_over : ℕ → List ℕ → List ℕ → List (List ℕ) → Item
text_over more constant rest [] =
    text_item (ending false rest) more constant (characters false rest) (behind_text false rest) [] (Stops (EndOfRecords []))
text_over more constant rest (next ∷ later) =
    text_item (ending false rest) more constant (characters false rest) (behind_text false rest) (next ∷ later) (text_over 0 [] next later)

-- a place in a new record
abbrev pub in_record : List ℕ → Place → Place
in_record next (Between valued rest) = Between valued next
in_record next (Repeated more rest) = Repeated more next
in_record next (Nulls more rest) = Nulls more next
in_record next (Inside more constant rest) = Inside more constant next

-- a text whose first characters stand before a place inside it
abbrev pub text_on : List ℕ → Place → List (List ℕ) → Item
text_on front (Inside more constant rest) later = begun_with front (text_over more constant rest later)
text_on front (Between valued rest) later = Stops (Failed 1 [])
text_on front (Repeated more rest) later = Stops (Failed 1 [])
text_on front (Nulls more rest) later = Stops (Failed 1 [])

-- what the item takes by what it is given; `on` is what it takes where the record is used up
abbrev pub item_by : Given → List (List ℕ) → Item → Item
item_by (Number number place) later on = Takes (IntValue number) place later
item_by (Truth truth place) later on = Takes (LogicalValue truth) place later
item_by (Piece text false place) later on = Takes (TextValue text) place later
item_by (Piece text true place) later on = text_on text place later
item_by (Null place) later on = Takes Kept place later
item_by Slash later on = Stops Slashed
item_by (Wrong number) later on = Stops (Failed number [])
item_by (NeedRecord place) later on = on

-- the place at which the item goes on in the next record
abbrev pub renewed : Given → List ℕ → Place
renewed (NeedRecord place) next = in_record next place
renewed (Number number place) next = Between true []
renewed (Truth truth place) next = Between true []
renewed (Piece text goes_on place) next = Between true []
renewed (Null place) next = Between true []
renewed Slash next = Between true []
renewed (Wrong number) next = Between true []

abbrev pub item_at : Place → Given → List (List ℕ) → Item → Item
item_at (Inside more constant rest) given later on = text_over more constant rest later
item_at (Between valued rest) given later on = item_by given later on
item_at (Repeated more rest) given later on = item_by given later on
item_at (Nulls more rest) given later on = item_by given later on

-- what an item of the kind takes, at a place with further records behind its own
abbrev pub item_over : Place → List (List ℕ) → Kind → Item
item_over place [] kind = item_at place (given place kind) [] (Stops (EndOfRecords []))
item_over place (next ∷ later) kind = item_at place (given place kind) (next ∷ later) (item_over (renewed (given place kind) next) later kind)

abbrev pub place_behind : Item → Place
place_behind (Takes value place later) = place
place_behind (Stops outcome) = Between true []

abbrev pub records_behind : Item → List (List ℕ)
records_behind (Takes value place later) = later
records_behind (Stops outcome) = []

-- an item before the others, which take nothing where it stops
abbrev pub before : Item → Items → Items
before (Takes value place later) others = record others { values = value ∷ others.values }
before (Stops outcome) others = record { values = []; outcome = outcome }

-- the items from a place on
unfoldable pub items_from : Place → List (List ℕ) → List Kind → Items
items_from place later [] = record { values = []; outcome = Filled }
items_from place later (kind ∷ kinds) =
    before (item_over place later kind) (items_from (place_behind (item_over place later kind)) (records_behind (item_over place later kind)) kinds)

-- a value before the items
abbrev pub led_by : Value → Items → Items
led_by value others = record others { values = value ∷ others.values }

-- characters before those of the first item
abbrev pub begun_values : List ℕ → List Value → Outcome → Items
begun_values front [] outcome = record { values = []; outcome = begun_with_outcome front outcome }
begun_values front (value ∷ values) outcome = record { values = begun_with_value front value ∷ values; outcome = outcome }

abbrev pub begun_items : List ℕ → Items → Items
begun_items front others = begun_values front others.values others.outcome

-- the items where a record is used up: there are no others, or they go on in the next one
abbrev pub InNextRecord : Place → List (List ℕ) → List Kind → Items → Type 0
InNextRecord place [] kinds all = all ≡ record { values = []; outcome = EndOfRecords [] }
InNextRecord place (next ∷ later) kinds all = all ≡ items_from (in_record next place) later kinds

-- all the items, where this is what the first of them is given
abbrev pub Follows : Items → List (List ℕ) → Kind → List Kind → Given → Type 0
Follows all later kind kinds (Number number place) = all ≡ led_by (IntValue number) (items_from place later kinds)
Follows all later kind kinds (Truth truth place) = all ≡ led_by (LogicalValue truth) (items_from place later kinds)
Follows all later kind kinds (Piece text false place) = all ≡ led_by (TextValue text) (items_from place later kinds)
Follows all later kind kinds (Piece text true place) = all ≡ begun_items text (items_from place later (kind ∷ kinds))
Follows all later kind kinds (Null place) = all ≡ led_by Kept (items_from place later kinds)
Follows all later kind kinds Slash = all ≡ record { values = []; outcome = Slashed }
Follows all later kind kinds (Wrong number) = all ≡ record { values = []; outcome = Failed number [] }
Follows all later kind kinds (NeedRecord place) = InNextRecord place later (kind ∷ kinds) all

-- the items of a list, by their kinds, in the records. A transfer reads its first record at its start
unfoldable pub items : List (List ℕ) → List Kind → Items
items [] kinds = record { values = []; outcome = EndOfRecords [] }
items (first ∷ later) kinds = items_from (Between false first) later kinds
