-- Formatted records that the same format reads back. ANSI X3.9-1978, sections 13.3 and 13.5.
use Rattle.std.specs.Prelude.{◌≡◌, ℕ, ℤ, pos, negsuc, ◌^◌, ◌≤◌, nat_le, nat_lt, Bool, true, false, ◌&&◌, unwrap_or, List, [], ◌∷◌, ◌++◌, length, replicate}
use Rattle.std.specs.Bool.{⊤}
use Rattle.edit_meaning.specs.EditedFields.{int_text}
use Rattle.edit_meaning.specs.EditedRecords.{Sheet, Output, with_control, with_field, field_of, output_start}
use Rattle.edit_meaning.specs.Formats.{Descriptor, IntIn, LogicalIn, TextIn, Control, Literal, ToColumn, LeftBy, RightBy, NextRecord, PlusSigns, ZeroBlanks, Format, Edit, Item, Act, Stop, edits_for, closing}
use Rattle.edit_meaning.specs.Listed.{ListedValue, Int, Logical, Text}
use Rattle.edit_meaning.specs.ListItems.{Value, IntValue, LogicalValue, TextValue}
use Rattle.edit_meaning.specs.TakenRecords.{Want, WantInt, WantLogical, WantText}

-- an integer of 32 bits
abbrev pub has_32_bits : ℤ → Bool
has_32_bits (pos size) = nat_lt size (2 ^ 31)
has_32_bits (negsuc size) = nat_lt size (2 ^ 31)

-- the field holds the whole value: an integer's sign and digits, a logical's letter, a text's characters; without a width a text has the
-- field that it needs
abbrev pub is_wide_enough : Descriptor → ListedValue → Bool → Bool
is_wide_enough (IntIn width least) (Int number) plus = has_32_bits number && nat_le (length (int_text number least plus)) width
is_wide_enough (LogicalIn width) (Logical truth) plus = nat_lt 0 width
is_wide_enough (TextIn width) (Text text) plus = nat_le (length text) (unwrap_or width (length text))
is_wide_enough (IntIn width least) (Logical truth) plus = false
is_wide_enough (IntIn width least) (Text text) plus = false
is_wide_enough (LogicalIn width) (Int number) plus = false
is_wide_enough (LogicalIn width) (Text text) plus = false
is_wide_enough (TextIn width) (Int number) plus = false
is_wide_enough (TextIn width) (Logical truth) plus = false

-- a text in a format has no place on input
abbrev pub has_place_on_input : Control → Bool
has_place_on_input (Literal text) = false
has_place_on_input (ToColumn column) = true
has_place_on_input (LeftBy columns) = true
has_place_on_input (RightBy columns) = true
has_place_on_input NextRecord = true
has_place_on_input (PlusSigns plus) = true
has_place_on_input (ZeroBlanks zeros) = true

abbrev pub have_place_on_input : List Edit → Bool
have_place_on_input [] = true
have_place_on_input (Item descriptor ∷ later) = true
have_place_on_input (Act control ∷ later) = has_place_on_input control && have_place_on_input later
have_place_on_input (Stop ∷ later) = have_place_on_input later

-- each value gets a field that is wide enough, behind all that its record has so far; no text of the format is written
abbrev pub fields_hold : Sheet → List Edit → List ListedValue → Output → Bool
fields_hold sheet [] [] out = true
fields_hold sheet [] (value ∷ values) out = false
fields_hold sheet (Item descriptor ∷ later) [] out = true
fields_hold sheet (Item descriptor ∷ later) (value ∷ values) out =
    (nat_le (length out.making) out.before && is_wide_enough descriptor value out.plus)
    && fields_hold sheet later values (with_field sheet (field_of descriptor value out.plus) out)
fields_hold sheet (Act control ∷ later) values out = has_place_on_input control && fields_hold sheet later values (with_control sheet control out)
fields_hold sheet (Stop ∷ later) values out = fields_hold sheet later values out

-- the values stand whole under the format
unfoldable pub stand_whole : Sheet → Format → List ListedValue → Bool
stand_whole sheet format values =
    fields_hold sheet (edits_for format (length values)).edits values (output_start sheet) && have_place_on_input (closing (edits_for format (length values)).left)

-- a control that writes nothing and moves the position, if at all, to the right or to the next record
abbrev pub goes_right : Control → Bool
goes_right (Literal text) = false
goes_right (ToColumn column) = false
goes_right (LeftBy columns) = false
goes_right (RightBy columns) = true
goes_right NextRecord = true
goes_right (PlusSigns plus) = true
goes_right (ZeroBlanks zeros) = true

-- whether plus signs are written behind a control
abbrev pub plus_behind : Control → Bool → Bool
plus_behind (Literal text) plus = plus
plus_behind (ToColumn column) plus = plus
plus_behind (LeftBy columns) plus = plus
plus_behind (RightBy columns) plus = plus
plus_behind NextRecord plus = plus
plus_behind (PlusSigns written) plus = written
plus_behind (ZeroBlanks zeros) plus = plus

-- each value gets a field that is wide enough, and between them the position goes to the right or to the next record alone
abbrev pub fields_follow : Bool → List Edit → List ListedValue → Bool
fields_follow plus [] [] = true
fields_follow plus [] (value ∷ values) = false
fields_follow plus (Item descriptor ∷ later) [] = true
fields_follow plus (Item descriptor ∷ later) (value ∷ values) = is_wide_enough descriptor value plus && fields_follow plus later values
fields_follow plus (Act control ∷ later) values = goes_right control && fields_follow (plus_behind control plus) later values
fields_follow plus (Stop ∷ later) values = fields_follow plus later values

-- the fields of the values follow one another under the format
unfoldable pub follow_one_another : Format → List ListedValue → Bool
follow_one_another format values =
    fields_follow false (edits_for format (length values)).edits values && have_place_on_input (closing (edits_for format (length values)).left)

-- a record where it is kept: blanks may stand behind it, as in an internal file, up to 1,024 characters in all
pub record IsKept (line kept : List ℕ) : Type 0 where
  pub short : length kept ≤ 1024
  pub blanks : ℕ
  pub same : kept ≡ line ++ replicate blanks 32

-- records where they are kept, before any others
abbrev pub AreKept : List (List ℕ) → List (List ℕ) → Type 0
AreKept [] kept = ⊤
AreKept (line ∷ lines) [] = ⊥
AreKept (line ∷ lines) (first ∷ kept) = IsKept line first × AreKept lines kept

-- what an item wants that is to get the value, and what it gets
abbrev pub want_of : ListedValue → Want
want_of (Int number) = WantInt
want_of (Logical truth) = WantLogical
want_of (Text text) = WantText (length text)

abbrev pub read_as : ListedValue → Value
read_as (Int number) = IntValue number
read_as (Logical truth) = LogicalValue truth
read_as (Text text) = TextValue text
