-- A list of items of a format, part by part: what the next part of its text is. ANSI X3.9-1978, sections 13.1.1 and 13.5.
-- The text is one that spells a format; of another text nothing is said here.
use Rattle.std.specs.Prelude.{ℕ, suc, ◌+◌, ◌-◌, ◌*◌, ◌==◌, min, max, Bool, true, false, if◌then◌else◌, Option, None, Some, List, [], ◌∷◌, take, drop}
use Rattle.std.specs.Char.{is_ascii_digit, to_ascii_uppercase}
use Rattle.edit_meaning.specs.Formats.{IntIn, LogicalIn, TextIn, Control, Literal, ToColumn, LeftBy, RightBy, NextRecord, PlusSigns, ZeroBlanks, Edit, Item, Act, Stop}
use Rattle.edit_meaning.specs.ListItems.{characters, behind_text}

-- a part of a list: an edit with its repeat; a group that opens, with its repeat; a list that ends; or what only joins others, as a
-- comma, a scale factor, or the sign of one
pub data Part : Type 0 where
  Joint : Part
  Opening : ℕ → Part
  Closing : Part
  Giving : ℕ → Edit → Part

-- a number and the text behind it; a sign and the text behind it; a part and the text behind it
pub record Counted : Type 0 where
  pub number : ℕ
  pub behind : List ℕ

pub record Sign : Type 0 where
  pub character : ℕ
  pub behind : List ℕ

pub record Parted : Type 0 where
  pub part : Part
  pub behind : List ℕ

-- numbers up to 65,535 are told apart, which are more than a format has
abbrev pub with_digit : ℕ → ℕ → ℕ
with_digit number c = min (number * 10 + (c - 48)) 65535

-- the digits at the front of a text take a number on; blanks among them mean nothing
abbrev pub number_from : ℕ → List ℕ → List ℕ → Counted
number_from number behind [] = record { number = number; behind = behind }
number_from number behind (c ∷ cs) =
    if c == 32 then number_from number behind cs
    else (if is_ascii_digit c then number_from (with_digit number c) cs cs else record { number = number; behind = behind })

-- the number at the front of a text, zero where there is none
unfoldable pub number_of : List ℕ → Counted
number_of text = number_from 0 text text

-- the next character that is no blank, a letter in upper case
abbrev pub next_sign : List ℕ → Sign
next_sign [] = record { character = 0; behind = [] }
next_sign (c ∷ cs) = if c == 32 then next_sign cs else record { character = to_ascii_uppercase c; behind = cs }

unfoldable pub sign_of : List ℕ → Sign
sign_of text = next_sign text

abbrev pub giving : ℕ → Edit → List ℕ → Parted
giving times edit behind = record { part = Giving times edit; behind = behind }

-- Iw and Iw.m
abbrev pub int_least : ℕ → ℕ → Counted → Parted
int_least times width least = giving times (Item (IntIn width (Some least.number))) least.behind

abbrev pub int_point : ℕ → Counted → Sign → Parted
int_point times width point =
    if point.character == 46 then int_least times width.number (number_of point.behind)
    else giving times (Item (IntIn width.number None)) width.behind

abbrev pub int_by : ℕ → Counted → Parted
int_by times width = int_point times width (sign_of width.behind)

unfoldable pub int_part : ℕ → List ℕ → Parted
int_part times text = int_by times (number_of text)

-- Lw
abbrev pub logical_by : ℕ → Counted → Parted
logical_by times width = giving times (Item (LogicalIn width.number)) width.behind

unfoldable pub logical_part : ℕ → List ℕ → Parted
logical_part times text = logical_by times (number_of text)

-- A and Aw
abbrev pub width_if : ℕ → Option ℕ
width_if number = if number == 0 then None else Some number

abbrev pub text_by : ℕ → Counted → Parted
text_by times width = giving times (Item (TextIn (width_if width.number))) width.behind

unfoldable pub text_part : ℕ → List ℕ → Parted
text_part times text = text_by times (number_of text)

-- S, SS and SP
abbrev pub plus_by : List ℕ → Sign → Parted
plus_by text sign =
    if sign.character == 80 then giving 1 (Act (PlusSigns true)) sign.behind
    else (if sign.character == 83 then giving 1 (Act (PlusSigns false)) sign.behind else giving 1 (Act (PlusSigns false)) text)

unfoldable pub plus_part : List ℕ → Parted
plus_part text = plus_by text (sign_of text)

-- BN and BZ
abbrev pub blanks_by : Sign → Parted
blanks_by sign = giving 1 (Act (ZeroBlanks (sign.character == 90))) sign.behind

unfoldable pub blanks_part : List ℕ → Parted
blanks_part text = blanks_by (sign_of text)

-- Tn, TLn and TRn
abbrev pub moving : (ℕ → Control) → Counted → Parted
moving control columns = giving 1 (Act (control columns.number)) columns.behind

abbrev pub tab_by : List ℕ → Sign → Parted
tab_by text sign =
    if sign.character == 76 then moving LeftBy (number_of sign.behind)
    else (if sign.character == 82 then moving RightBy (number_of sign.behind) else moving ToColumn (number_of text))

unfoldable pub tab_part : List ℕ → Parted
tab_part text = tab_by text (sign_of text)

-- a text in apostrophes, and nH
unfoldable pub quoted_part : List ℕ → Parted
quoted_part text = giving 1 (Act (Literal (characters false text))) (behind_text false text)

unfoldable pub verbatim_part : ℕ → List ℕ → Parted
verbatim_part size text = giving 1 (Act (Literal (take size text))) (drop size text)

-- by the letter behind a number, or behind none
unfoldable pub letter_part : ℕ → ℕ → List ℕ → Parted
letter_part number letter behind =
    if letter == 73 then int_part (max number 1) behind
    else (if letter == 76 then logical_part (max number 1) behind
    else (if letter == 65 then text_part (max number 1) behind
    else (if letter == 72 then verbatim_part number behind
    else (if letter == 88 then giving 1 (Act (RightBy number)) behind
    else (if letter == 83 then plus_part behind
    else (if letter == 66 then blanks_part behind
    else (if letter == 84 then tab_part behind
    else record { part = Joint; behind = behind })))))))

-- by the character behind a number, or behind none
abbrev pub part_by : ℕ → Sign → Parted
part_by number sign =
    if sign.character == 40 then record { part = Opening (max number 1); behind = sign.behind }
    else (if sign.character == 41 then record { part = Closing; behind = sign.behind }
    else (if sign.character == 47 then giving (max number 1) (Act NextRecord) sign.behind
    else (if sign.character == 58 then giving 1 Stop sign.behind
    else (if sign.character == 39 then quoted_part sign.behind
    else letter_part number sign.character sign.behind))))

abbrev pub part_behind : Counted → Parted
part_behind counted = part_by counted.number (sign_of counted.behind)

-- the part at the front of the text
unfoldable pub part_of : List ℕ → Parted
part_of text = part_behind (number_of text)

-- the size of a text in apostrophes as it is written, up to the apostrophe that ends it
abbrev pub written_size : Bool → List ℕ → ℕ
written_size quoted [] = 0
written_size false (c ∷ cs) = if c == 39 then written_size true cs else suc (written_size false cs)
written_size true (c ∷ cs) = if c == 39 then suc (suc (written_size false cs)) else 0
