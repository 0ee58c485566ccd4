-- A reader of list-directed input: where it stands in its line, and what its answers mean.
use Rattle.std.specs.Prelude.{◌≡◌, ℕ, ◌-◌, ◌<◌, ◌≤◌, true, false, List, [], length, take, drop, ⊤}
use Rattle.edit_meaning.specs.ListInput.{Kind, IntItem, LogicalItem, TextItem, Place, Between, Repeated, Nulls, Inside, Given, Number, Truth, Piece, Null, Slash, NeedRecord, Wrong}
use Rattle.edit_rules.specs.declared.list_reader.ItemKind.{ItemKind}
use Rattle.edit_rules.specs.declared.list_reader.ItemKind.TheVariants as kind
use Rattle.edit_rules.specs.declared.list_reader.ListItem.{ListItem}
use Rattle.edit_rules.specs.declared.list_reader.ListItem.TheVariants as item
use Rattle.edit_rules.specs.declared.list_reader.Doing.{Doing}
use Rattle.edit_rules.specs.declared.list_reader.Doing.TheVariants as doing
use Rattle.edit_rules.specs.declared.list_reader.ListReader.{ListReader}

abbrev pub kind_of : ItemKind → Kind
kind_of kind.Int = IntItem
kind_of kind.Logical = LogicalItem
kind_of kind.Text = TextItem

-- where the reader stands, with the rest of the line
abbrev pub place_by : Doing → ℕ → List ℕ → Place
place_by (doing.Between valued) place line = Between valued (drop place line)
place_by (doing.Repeated more) place line = Repeated more (drop place line)
place_by (doing.Nulls more) place line = Nulls more (drop place line)
place_by (doing.Inside more constant) place line = Inside more (drop constant line) (drop place line)

abbrev pub place_in : List ℕ → ListReader → Place
place_in line reader = place_by reader.doing reader.place line

-- what an answer gives
abbrev pub given_as : List ℕ → ListItem → ListReader → Given
given_as line (item.Int number) reader = Number number (place_in line reader)
given_as line (item.Logical truth) reader = Truth truth (place_in line reader)
given_as line (item.Text from to more) reader = Piece (take (to - from) (drop from line)) more (place_in line reader)
given_as line item.Null reader = Null (place_in line reader)
given_as line item.Slash reader = Slash
given_as line item.NeedLine reader = NeedRecord (place_in [] reader)
given_as line (item.Bad number) reader = Wrong number

abbrev pub ConstantWithin : Doing → ℕ → Type 0
ConstantWithin (doing.Between valued) size = ⊤
ConstantWithin (doing.Repeated more) size = ⊤
ConstantWithin (doing.Nulls more) size = ⊤
ConstantWithin (doing.Inside more constant) size = constant ≤ size

-- the reader stands in the line: its places are places of the line
pub record StandsIn (reader : ListReader) (line : List ℕ) : Type 0 where
  pub place : reader.place ≤ length line
  pub constant : ConstantWithin reader.doing (length line)

-- the bytes of a text are bytes of the line; a piece of a text that goes on has a byte, or stands at the line's end
abbrev pub IsWithin : List ℕ → ListItem → Type 0
IsWithin line (item.Text from to false) = (from ≤ to) × (to ≤ length line)
IsWithin line (item.Text from to true) = (from ≤ to) × (to ≤ length line) × (to < length line → from < to)
IsWithin line (item.Int number) = ⊤
IsWithin line (item.Logical truth) = ⊤
IsWithin line item.Null = ⊤
IsWithin line item.Slash = ⊤
IsWithin line item.NeedLine = ⊤
IsWithin line (item.Bad number) = ⊤

-- where a line is needed the reader then stands in every line; at a slash or an error it stays where it is
abbrev pub KeepsPlace : ListItem → ListReader → ListReader → Type 0
KeepsPlace item.NeedLine old new = (line : List ℕ) → StandsIn new line
KeepsPlace item.Slash old new = new ≡ old
KeepsPlace (item.Bad number) old new = new ≡ old
KeepsPlace (item.Int number) old new = ⊤
KeepsPlace (item.Logical truth) old new = ⊤
KeepsPlace (item.Text from to more) old new = ⊤
KeepsPlace item.Null old new = ⊤
