-- The format at the front of a text, computed. ANSI X3.9-1978, sections 13.1, 13.2 and 13.5.
-- The text is read once, character by character. What is to come is settled by the place in the format (`Place`), by what was made of
-- the list of items so far (`Made`), and by the groups that are open (`Frame`).
use Rattle.std.specs.Prelude.{ℕ, zero, suc, ◌+◌, ◌-◌, ◌*◌, ◌==◌, nat_lt, nat_le, Bool, true, false, if◌then◌else◌, Option, None, Some, List, [], ◌∷◌, length}
use Rattle.std.specs.Char.{is_ascii_digit, to_ascii_uppercase}
use Rattle.edit_meaning.specs.Formats.{Descriptor, IntIn, LogicalIn, TextIn, Control, Literal, ToColumn, LeftBy, RightBy, NextRecord, PlusSigns, ZeroBlanks, Format, Empty, Takes, Does, Colon, Group}
use Rattle.edit_meaning.specs.FormatGrammar.{is_from, Joint, Opened, Wanted, Free, Behind, may_close, takes_comma, takes_item}

-- the characters of formats outside texts, but for blanks; letters in either case
pub data Sign : Type 0 where
  LeftParen : Sign
  RightParen : Sign
  Comma : Sign
  Slash : Sign
  Period : Sign
  Colons : Sign
  Quote : Sign
  PlusMinus : Sign
  Digit : ℕ → Sign
  LetterA : Sign
  LetterB : Sign
  LetterH : Sign
  LetterI : Sign
  LetterL : Sign
  LetterN : Sign
  LetterP : Sign
  LetterR : Sign
  LetterS : Sign
  LetterT : Sign
  LetterX : Sign
  LetterZ : Sign
  Unknown : Sign

abbrev pub letter_of : ℕ → Sign
letter_of c =
    if c == 65 then LetterA else (if c == 66 then LetterB else (if c == 72 then LetterH else (if c == 73 then LetterI
    else (if c == 76 then LetterL else (if c == 78 then LetterN else (if c == 80 then LetterP else (if c == 82 then LetterR
    else (if c == 83 then LetterS else (if c == 84 then LetterT else (if c == 88 then LetterX else (if c == 90 then LetterZ else Unknown)))))))))))

abbrev pub mark_of : ℕ → Sign
mark_of c =
    if c == 40 then LeftParen else (if c == 41 then RightParen else (if c == 44 then Comma else (if c == 47 then Slash
    else (if c == 46 then Period else (if c == 58 then Colons else (if c == 39 then Quote else (if c == 43 then PlusMinus
    else (if c == 45 then PlusMinus else letter_of c))))))))

-- the sign that a character is, with a letter in upper case
abbrev pub upper_sign : ℕ → Sign
upper_sign c = if is_ascii_digit c then Digit (c - 48) else mark_of c

abbrev pub sign_of : ℕ → Sign
sign_of c = upper_sign (to_ascii_uppercase c)

-- what a number is: a repeat, the n of nX and nH, or an unsigned k, which shows behind it; a signed k; w of I; m with w; w of L; w of A;
-- n of T, TL and TR
pub data Kind : Type 0 where
  Count : Kind
  Signed : Kind
  IntWidth : Kind
  Least : ℕ → Kind
  LogicalWidth : Kind
  TextWidth : Kind
  Column : Kind
  Left : Kind
  Right : Kind

abbrev pub most : Kind → ℕ
most Count = 32767
most Signed = 127
most IntWidth = 1024
most (Least width) = width
most LogicalWidth = 1024
most TextWidth = 1024
most Column = 1024
most Left = 1024
most Right = 1024

-- a place outside texts: before the format, between items, before the first digit of a number, in a number, or behind a letter
pub data Place : Type 0 where
  Start : Place
  At : Joint → Place
  Before : Kind → Place
  Inside : Kind → ℕ → Place
  BehindA : Place
  BehindB : Place
  BehindS : Place
  BehindT : Place

-- a place in a format: outside texts; in a text in apostrophes, that has characters or has none yet; behind an apostrophe in it; or in
-- the text of nH, before a character and so many others
pub data Mode : Type 0 where
  Outside : Place → Mode
  InText : Bool → Mode
  BehindQuote : Bool → Mode
  Verbatim : ℕ → Mode

-- what was made of a list: the characters of a text in front of further ones, the repeat, and the items in front of later ones
pub record Made : Type 0 where
  pub kept : List ℕ → List ℕ
  pub count : ℕ
  pub items : Format → Format

-- no text and no repeat is begun
abbrev pub fresh : (Format → Format) → Made
fresh items = record { kept = λ more. more; count = 1; items = items }

-- where a character leads: nowhere, to a place in the same list, into a group with its repeat, or to the end of the list
pub data Move : Type 0 where
  Refused : Move
  To : Mode → (Made → Made) → Move
  Opens : ℕ → Move
  Closes : (Made → Made) → Move

abbrev pub same : Made → Made
same made = made

abbrev pub counts : ℕ → Made → Made
counts repeat made = record made { count = repeat }

abbrev pub keeps : ℕ → Made → Made
keeps c made = record made { kept = λ more. made.kept (c ∷ more) }

abbrev pub takes : Descriptor → Made → Made
takes item made = fresh (λ later. made.items (Takes made.count item later))

abbrev pub does : ℕ → Control → Made → Made
does repeat item made = fresh (λ later. made.items (Does repeat item later))

abbrev pub has_text : Made → Made
has_text made = does 1 (Literal (made.kept [])) made

abbrev pub has_colon : Made → Made
has_colon made = fresh (λ later. made.items (Colon later))

abbrev pub only_if : Bool → Move → Move
only_if true move = move
only_if false move = Refused

-- the move behind a change
abbrev pub behind : (Made → Made) → Move → Move
behind change Refused = Refused
behind change (To mode next) = To mode (λ made. next (change made))
behind change (Opens repeat) = Opens repeat
behind change (Closes next) = Closes (λ made. next (change made))

-- a group, at most 20 deep
abbrev pub opens : ℕ → ℕ → Move
opens depth repeat = only_if (nat_lt depth 20) (Opens repeat)

abbrev pub in_number : Kind → ℕ → Move
in_number kind number = only_if (nat_le number (most kind)) (To (Outside (Inside kind number)) same)

-- the first character of an item
abbrev pub item : ℕ → Sign → Move
item depth LeftParen = opens depth 1
item depth Quote = To (InText false) same
item depth PlusMinus = To (Outside (Before Signed)) same
item depth (Digit digit) = in_number Count digit
item depth LetterA = To (Outside BehindA) same
item depth LetterB = To (Outside BehindB) same
item depth LetterI = To (Outside (Before IntWidth)) same
item depth LetterL = To (Outside (Before LogicalWidth)) same
item depth LetterS = To (Outside BehindS) same
item depth LetterT = To (Outside BehindT) same
item depth sign = Refused

-- a character between items
abbrev pub between : ℕ → Joint → Sign → Move
between depth joint RightParen = only_if (may_close joint) (Closes same)
between depth joint Comma = only_if (takes_comma joint) (To (Outside (At Wanted)) same)
between depth joint Slash = To (Outside (At Free)) (does 1 NextRecord)
between depth joint Colons = To (Outside (At Free)) has_colon
between depth joint sign = only_if (takes_item joint) (item depth sign)

-- the character behind an item
abbrev pub ended : Bool → (Made → Made) → ℕ → Sign → Move
ended well change depth sign = only_if well (behind change (between depth Behind sign))

abbrev pub in_text_of : ℕ → Move
in_text_of zero = Refused
in_text_of (suc more) = To (Verbatim more) same

-- the character behind a number in front of an item
abbrev pub counted : ℕ → ℕ → Sign → Move
counted depth number LeftParen = only_if (is_from 1 32767 number) (opens depth number)
counted depth number Slash = only_if (is_from 1 32767 number) (To (Outside (At Free)) (does number NextRecord))
counted depth number LetterA = only_if (is_from 1 32767 number) (To (Outside BehindA) (counts number))
counted depth number LetterI = only_if (is_from 1 32767 number) (To (Outside (Before IntWidth)) (counts number))
counted depth number LetterL = only_if (is_from 1 32767 number) (To (Outside (Before LogicalWidth)) (counts number))
counted depth number LetterH = only_if (is_from 1 1024 number) (in_text_of number)
counted depth number LetterX = only_if (is_from 1 1024 number) (To (Outside (At Behind)) (does 1 (RightBy number)))
counted depth number LetterP = only_if (nat_le number 127) (To (Outside (At Free)) same)
counted depth number sign = Refused

abbrev pub scaled : ℕ → Sign → Move
scaled number LetterP = only_if (nat_le number 127) (To (Outside (At Free)) same)
scaled number sign = Refused

abbrev pub wide : ℕ → ℕ → Sign → Move
wide depth width Period = only_if (is_from 1 1024 width) (To (Outside (Before (Least width))) same)
wide depth width sign = ended (is_from 1 1024 width) (takes (IntIn width None)) depth sign

-- the character behind a number
abbrev pub behind_number : ℕ → Kind → ℕ → Sign → Move
behind_number depth Count number sign = counted depth number sign
behind_number depth Signed number sign = scaled number sign
behind_number depth IntWidth number sign = wide depth number sign
behind_number depth (Least width) number sign = ended (nat_le number width) (takes (IntIn width (Some number))) depth sign
behind_number depth LogicalWidth number sign = ended (is_from 1 1024 number) (takes (LogicalIn number)) depth sign
behind_number depth TextWidth number sign = ended (is_from 1 1024 number) (takes (TextIn (Some number))) depth sign
behind_number depth Column number sign = ended (is_from 1 1024 number) (does 1 (ToColumn number)) depth sign
behind_number depth Left number sign = ended (is_from 1 1024 number) (does 1 (LeftBy number)) depth sign
behind_number depth Right number sign = ended (is_from 1 1024 number) (does 1 (RightBy number)) depth sign

abbrev pub behind_a : ℕ → Sign → Move
behind_a depth (Digit digit) = in_number TextWidth digit
behind_a depth sign = ended true (takes (TextIn None)) depth sign

abbrev pub behind_b : Sign → Move
behind_b LetterN = To (Outside (At Behind)) (does 1 (ZeroBlanks false))
behind_b LetterZ = To (Outside (At Behind)) (does 1 (ZeroBlanks true))
behind_b sign = Refused

abbrev pub behind_s : ℕ → Sign → Move
behind_s depth LetterS = To (Outside (At Behind)) (does 1 (PlusSigns false))
behind_s depth LetterP = To (Outside (At Behind)) (does 1 (PlusSigns true))
behind_s depth sign = ended true (does 1 (PlusSigns false)) depth sign

abbrev pub behind_t : Sign → Move
behind_t (Digit digit) = in_number Column digit
behind_t LetterL = To (Outside (Before Left)) same
behind_t LetterR = To (Outside (Before Right)) same
behind_t sign = Refused

abbrev pub at_start : Sign → Move
at_start LeftParen = To (Outside (At Opened)) same
at_start sign = Refused

-- before a number, or in one
abbrev pub first_digit : Kind → Sign → Move
first_digit kind (Digit digit) = in_number kind digit
first_digit kind sign = Refused

abbrev pub next_digit : ℕ → Kind → ℕ → Sign → Move
next_digit depth kind number (Digit digit) = in_number kind (number * 10 + digit)
next_digit depth kind number sign = behind_number depth kind number sign

-- a character outside texts, which is no blank
abbrev pub outside : ℕ → Place → Sign → Move
outside depth Start sign = at_start sign
outside depth (At joint) sign = between depth joint sign
outside depth (Before kind) sign = first_digit kind sign
outside depth (Inside kind number) sign = next_digit depth kind number sign
outside depth BehindA sign = behind_a depth sign
outside depth BehindB sign = behind_b sign
outside depth BehindS sign = behind_s depth sign
outside depth BehindT sign = behind_t sign

-- outside texts blanks mean nothing
abbrev pub outside_text : ℕ → Place → ℕ → Move
outside_text depth place c = if c == 32 then To (Outside place) same else outside depth place (sign_of c)

abbrev pub in_text : Bool → Bool → ℕ → Move
in_text true some c = To (BehindQuote some) same
in_text false some c = To (InText true) (keeps c)

-- behind an apostrophe: with a second one it is a character of the text, and else it ends the text
abbrev pub behind_quote : Bool → Bool → ℕ → ℕ → Move
behind_quote true some depth c = To (InText true) (keeps 39)
behind_quote false some depth c = only_if some (behind has_text (outside_text depth (At Behind) c))

abbrev pub verbatim : ℕ → ℕ → Move
verbatim zero c = To (Outside (At Behind)) (λ made. has_text (keeps c made))
verbatim (suc more) c = To (Verbatim more) (keeps c)

-- where a character leads from a place that is so deep in parentheses
abbrev pub moved : ℕ → Mode → ℕ → Move
moved depth (Outside place) c = outside_text depth place c
moved depth (InText some) c = in_text (c == 39) some c
moved depth (BehindQuote some) c = behind_quote (c == 39) some depth c
moved depth (Verbatim more) c = verbatim more c

-- a group that is open: its repeat, and the items in front of it
pub record Frame : Type 0 where
  pub repeat : ℕ
  pub before : Format → Format

pub data State : Type 0 where
  Going : Mode → Made → List Frame → State
  Done : Format → State

-- the end of a list: of the format's, or of the group's that was opened last
abbrev pub closed : Format → List Frame → State
closed inner [] = Done inner
closed inner (frame ∷ outer) = Going (Outside (At Behind)) (fresh (λ later. frame.before (Group frame.repeat inner later))) outer

abbrev pub state_by : Move → Made → List Frame → Option State
state_by Refused made outer = None
state_by (To mode change) made outer = Some (Going mode (change made) outer)
state_by (Opens repeat) made outer =
    Some (Going (Outside (At Wanted)) (fresh (λ later. later)) (record { repeat = repeat; before = made.items } ∷ outer))
state_by (Closes change) made outer = Some (closed ((change made).items Empty) outer)

abbrev pub next_state : State → ℕ → Option State
next_state (Going mode made outer) c = state_by (moved (suc (length outer)) mode c) made outer
next_state (Done format) c = None

abbrev pub starting : State
starting = Going (Outside Start) (fresh (λ later. later)) []

-- a format at the front of a text, and what stands behind it
pub data Found : Type 0 where
  Nothing : Found
  Front : Format → List ℕ → Found

abbrev pub ending_in : State → List ℕ → Found
ending_in (Done format) rest = Front format rest
ending_in (Going mode made outer) rest = Nothing

-- the rest of the text is read until the format ends
abbrev pub from_state : Option State → (State → Found) → Found
from_state None continue = Nothing
from_state (Some state) continue = continue state

abbrev pub found : List ℕ → State → Found
found [] state = ending_in state []
found (c ∷ cs) (Done format) = Front format (c ∷ cs)
found (c ∷ cs) (Going mode made outer) = from_state (next_state (Going mode made outer) c) (λ state. found cs state)

abbrev pub tree_of : Found → Option Format
tree_of Nothing = None
tree_of (Front format rest) = Some format

abbrev pub size_of : ℕ → Found → Option ℕ
size_of size Nothing = None
size_of size (Front format rest) = Some (size - length rest)

-- the format that begins the text, where one does
unfoldable pub format_of : List ℕ → Option Format
format_of text = tree_of (found text starting)

-- the number of its bytes, up to and with its right parenthesis
unfoldable pub format_end : List ℕ → Option ℕ
format_end text = size_of (length text) (found text starting)
