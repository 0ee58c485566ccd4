-- Parts of formats by their places in the text.
use Rattle.std.specs.Prelude.{ℕ, ◌-◌, Bool, true, false, Option, None, Some, List, take, drop}
use Rattle.edit_meaning.specs.Formats.{IntIn, LogicalIn, TextIn, Literal, ToColumn, LeftBy, RightBy, NextRecord, PlusSigns, ZeroBlanks, Item, Act, Stop}
use Rattle.edit_meaning.specs.Formats as formats
use Rattle.edit_rules.specs.FormatParts as parts
use Rattle.edit_meaning.specs.ListItems.{characters}
use Rattle.edit_rules.specs.declared.edits.Edit.{Edit}
use Rattle.edit_rules.specs.declared.edits.Edit.TheVariants as edit
use Rattle.edit_rules.specs.declared.format_parts.Part.{Part}
use Rattle.edit_rules.specs.declared.format_parts.Part.TheVariants as part
use Rattle.edit_rules.specs.declared.format_parts.Counted.{Counted}
use Rattle.edit_rules.specs.declared.format_parts.Sign.{Sign}
use Rattle.edit_rules.specs.declared.format_parts.Parted.{Parted}

-- the characters of a text that stands between two places, in which apostrophes may be doubled
abbrev pub literal_of : Bool → List ℕ → List ℕ
literal_of true written = characters false written
literal_of false written = written

-- the edit of a format that an edit is, in its text
abbrev pub edit_in : List ℕ → Edit → Option formats.Edit
edit_in text (edit.Int width least) = Some (Item (IntIn width least))
edit_in text (edit.Logical width) = Some (Item (LogicalIn width))
edit_in text (edit.Text width) = Some (Item (TextIn width))
edit_in text (edit.Literal from to doubled) = Some (Act (Literal (literal_of doubled (take (to - from) (drop from text)))))
edit_in text (edit.Column column) = Some (Act (ToColumn column))
edit_in text (edit.Left columns) = Some (Act (LeftBy columns))
edit_in text (edit.Right columns) = Some (Act (RightBy columns))
edit_in text edit.NextRecord = Some (Act NextRecord)
edit_in text (edit.ShowPlus plus) = Some (Act (PlusSigns plus))
edit_in text (edit.ZeroBlanks zeros) = Some (Act (ZeroBlanks zeros))
edit_in text edit.Done = None
edit_in text edit.NoDescriptor = None

abbrev pub giving_if : ℕ → Option formats.Edit → parts.Part
giving_if times None = parts.Joint
giving_if times (Some edit) = parts.Giving times edit

abbrev pub part_in : List ℕ → Part → parts.Part
part_in text part.Joint = parts.Joint
part_in text (part.Open times) = parts.Opening times
part_in text part.Close = parts.Closing
part_in text part.Colon = parts.Giving 1 Stop
part_in text (part.Give times edit) = giving_if times (edit_in text edit)

abbrev pub number_in : List ℕ → Counted → parts.Counted
number_in text counted = record { number = counted.number; behind = drop counted.behind text }

abbrev pub sign_in : List ℕ → Sign → parts.Sign
sign_in text sign = record { character = sign.character; behind = drop sign.behind text }

abbrev pub parted_in : List ℕ → Parted → parts.Parted
parted_in text parted = record { part = part_in text parted.part; behind = drop parted.behind text }
