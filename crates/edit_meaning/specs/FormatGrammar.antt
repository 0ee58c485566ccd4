-- The texts that spell formats. ANSI X3.9-1978, sections 13.1, 13.2 and 13.5.
-- A text is its bytes. In each relation `before` is a text from a place on, and `after` is that text from behind what was spelled.
-- An item with no comma behind it can only be followed by a slash or a colon. As a slash with a repeat begins with a number, a comma
-- before it cannot be left out. A list in inner parentheses has an item, and an apostrophe edit descriptor has a character.
use Rattle.std.specs.Prelude.{◌≡◌, ℕ, suc, ◌+◌, ◌-◌, ◌*◌, ◌<◌, ◌==◌, nat_le, Bool, true, false, ◌&&◌, ◌||◌, if◌then◌else◌, None, Some, IsTrue, List, [], ◌∷◌, ◌++◌, length}
use Rattle.std.specs.Char.{is_ascii_digit, to_ascii_uppercase}
use Rattle.edit_meaning.specs.Formats.{Descriptor, IntIn, LogicalIn, TextIn, Control, Literal, ToColumn, LeftBy, RightBy, NextRecord, PlusSigns, ZeroBlanks, Format, Empty, Takes, Does, Colon, Group}

-- the next character that is no blank, a letter in upper case, before what stands behind it
abbrev pub seen : List ℕ → List ℕ
seen [] = []
seen (c ∷ cs) = if c == 32 then seen cs else to_ascii_uppercase c ∷ cs

abbrev pub is_from : ℕ → ℕ → ℕ → Bool
is_from least most number = nat_le least number && nat_le number most

-- further digits, or none, take a number on
pub data Digits : ℕ → ℕ → List ℕ → List ℕ → Type 0 where
  no_more : {number : ℕ} {text : List ℕ} → Digits number number text text
  one_more : {begun number digit : ℕ} {before middle after : List ℕ} → seen before ≡ digit ∷ middle → IsTrue (is_ascii_digit digit)
      → Digits (begun * 10 + (digit - 48)) number middle after → Digits begun number before after

-- an unsigned integer constant
pub data Number : ℕ → List ℕ → List ℕ → Type 0 where
  digits : {number digit : ℕ} {before middle after : List ℕ} → seen before ≡ digit ∷ middle → IsTrue (is_ascii_digit digit)
      → Digits (digit - 48) number middle after → Number number before after

-- a repeat specification, which is one where it is left out
pub data Repeat : ℕ → List ℕ → List ℕ → Type 0 where
  once : {text : List ℕ} → Repeat 1 text text
  times : {repeat : ℕ} {before after : List ℕ} → Number repeat before after → IsTrue (is_from 1 32767 repeat) → Repeat repeat before after

-- the repeatable edit descriptors. Sections 13.5.9.1, 13.5.10 and 13.5.11
pub data Describes : Descriptor → List ℕ → List ℕ → Type 0 where
  -- Iw
  int_of_width : {width : ℕ} {before middle after : List ℕ} → seen before ≡ 73 ∷ middle → Number width middle after
      → IsTrue (is_from 1 1024 width) → Describes (IntIn width None) before after
  -- Iw.m
  int_of_least : {width least : ℕ} {before middle point behind after : List ℕ} → seen before ≡ 73 ∷ middle → Number width middle point
      → IsTrue (is_from 1 1024 width) → seen point ≡ 46 ∷ behind → Number least behind after → IsTrue (nat_le least width)
      → Describes (IntIn width (Some least)) before after
  -- Lw
  logical_of_width : {width : ℕ} {before middle after : List ℕ} → seen before ≡ 76 ∷ middle → Number width middle after
      → IsTrue (is_from 1 1024 width) → Describes (LogicalIn width) before after
  -- A
  text_whole : {before after : List ℕ} → seen before ≡ 65 ∷ after → Describes (TextIn None) before after
  -- Aw
  text_of_width : {width : ℕ} {before middle after : List ℕ} → seen before ≡ 65 ∷ middle → Number width middle after
      → IsTrue (is_from 1 1024 width) → Describes (TextIn (Some width)) before after

-- no apostrophe follows at once
abbrev pub NoQuote : List ℕ → Type 0
NoQuote [] = Unit {0}
NoQuote (c ∷ cs) = (c == 39) ≡ false

-- the characters of an apostrophe edit descriptor behind its first apostrophe. An apostrophe among them is doubled. Section 13.5.1
pub data Quoted : List ℕ → List ℕ → List ℕ → Type 0 where
  ends : {quote : ℕ} {after : List ℕ} → IsTrue (quote == 39) → NoQuote after → Quoted [] (quote ∷ after) after
  doubled : {quote again : ℕ} {text middle after : List ℕ} → IsTrue (quote == 39) → IsTrue (again == 39) → Quoted text middle after
      → Quoted (39 ∷ text) (quote ∷ again ∷ middle) after
  other : {c : ℕ} {text middle after : List ℕ} → (c == 39) ≡ false → Quoted text middle after → Quoted (c ∷ text) (c ∷ middle) after

-- the edit descriptors that are not repeatable, but for the slash, the colon and the scale factor. Sections 13.5.1 to 13.5.8
pub data Controls : Control → List ℕ → List ℕ → Type 0 where
  -- 'text'
  in_apostrophes : {c : ℕ} {text before middle after : List ℕ} → seen before ≡ 39 ∷ middle → Quoted (c ∷ text) middle after
      → Controls (Literal (c ∷ text)) before after
  -- nH and n characters, whatever they are
  hollerith : {number : ℕ} {text before letter middle after : List ℕ} → Number number before letter → IsTrue (is_from 1 1024 number)
      → seen letter ≡ 72 ∷ middle → middle ≡ text ++ after → length text ≡ number → Controls (Literal text) before after
  -- nX
  skip : {number : ℕ} {before letter after : List ℕ} → Number number before letter → IsTrue (is_from 1 1024 number)
      → seen letter ≡ 88 ∷ after → Controls (RightBy number) before after
  -- Tn
  to_column : {number : ℕ} {before middle after : List ℕ} → seen before ≡ 84 ∷ middle → Number number middle after
      → IsTrue (is_from 1 1024 number) → Controls (ToColumn number) before after
  -- TLn
  left_by : {number : ℕ} {before middle behind after : List ℕ} → seen before ≡ 84 ∷ middle → seen middle ≡ 76 ∷ behind
      → Number number behind after → IsTrue (is_from 1 1024 number) → Controls (LeftBy number) before after
  -- TRn
  right_by : {number : ℕ} {before middle behind after : List ℕ} → seen before ≡ 84 ∷ middle → seen middle ≡ 82 ∷ behind
      → Number number behind after → IsTrue (is_from 1 1024 number) → Controls (RightBy number) before after
  -- S, SS and SP
  plus_as_ever : {before after : List ℕ} → seen before ≡ 83 ∷ after → Controls (PlusSigns false) before after
  plus_suppressed : {before middle after : List ℕ} → seen before ≡ 83 ∷ middle → seen middle ≡ 83 ∷ after → Controls (PlusSigns false) before after
  plus_produced : {before middle after : List ℕ} → seen before ≡ 83 ∷ middle → seen middle ≡ 80 ∷ after → Controls (PlusSigns true) before after
  -- BN and BZ
  blanks_null : {before middle after : List ℕ} → seen before ≡ 66 ∷ middle → seen middle ≡ 78 ∷ after → Controls (ZeroBlanks false) before after
  blanks_zero : {before middle after : List ℕ} → seen before ≡ 66 ∷ middle → seen middle ≡ 90 ∷ after → Controls (ZeroBlanks true) before after

-- a scale factor kP, where k is an optionally signed integer constant. Section 13.5.7
pub data Scales : List ℕ → List ℕ → Type 0 where
  unsigned : {number : ℕ} {before letter after : List ℕ} → Number number before letter → IsTrue (nat_le number 127) → seen letter ≡ 80 ∷ after
      → Scales before after
  signed : {sign number : ℕ} {before middle letter after : List ℕ} → seen before ≡ sign ∷ middle → IsTrue (sign == 43 || sign == 45)
      → Number number middle letter → IsTrue (nat_le number 127) → seen letter ≡ 80 ∷ after → Scales before after

-- what stands before a place in a list of items: the left parenthesis of the format; a comma, or the left parenthesis of a group, behind
-- which an item has to follow; a slash, a colon or a scale factor, behind which a comma may be left out; another item
pub data Joint : Type 0 where
  Opened : Joint
  Wanted : Joint
  Free : Joint
  Behind : Joint

abbrev pub may_close : Joint → Bool
may_close Opened = true
may_close Wanted = false
may_close Free = true
may_close Behind = true

abbrev pub takes_comma : Joint → Bool
takes_comma Opened = false
takes_comma Wanted = false
takes_comma Free = true
takes_comma Behind = true

abbrev pub takes_item : Joint → Bool
takes_item Opened = true
takes_item Wanted = true
takes_item Free = true
takes_item Behind = false

-- the rest of a list of items from a place on, up to and with its right parenthesis, so deep in parentheses. Section 13.1.2
pub data SpellsList : ℕ → Joint → Format → List ℕ → List ℕ → Type 0 where
  right_parenthesis : {depth : ℕ} {joint : Joint} {before after : List ℕ} → IsTrue (may_close joint) → seen before ≡ 41 ∷ after
      → SpellsList depth joint Empty before after
  comma : {depth : ℕ} {joint : Joint} {later : Format} {before middle after : List ℕ} → IsTrue (takes_comma joint) → seen before ≡ 44 ∷ middle
      → SpellsList depth Wanted later middle after → SpellsList depth joint later before after
  descriptor : {depth repeat : ℕ} {joint : Joint} {item : Descriptor} {later : Format} {before letter middle after : List ℕ}
      → IsTrue (takes_item joint) → Repeat repeat before letter → Describes item letter middle → SpellsList depth Behind later middle after
      → SpellsList depth joint (Takes repeat item later) before after
  control : {depth : ℕ} {joint : Joint} {item : Control} {later : Format} {before middle after : List ℕ} → IsTrue (takes_item joint)
      → Controls item before middle → SpellsList depth Behind later middle after → SpellsList depth joint (Does 1 item later) before after
  group : {depth repeat : ℕ} {joint : Joint} {inner later : Format} {before parenthesis inside middle after : List ℕ} → IsTrue (takes_item joint)
      → Repeat repeat before parenthesis → seen parenthesis ≡ 40 ∷ inside → depth < 20 → SpellsList (suc depth) Wanted inner inside middle
      → SpellsList depth Behind later middle after → SpellsList depth joint (Group repeat inner later) before after
  slash : {depth : ℕ} {joint : Joint} {later : Format} {before middle after : List ℕ} → seen before ≡ 47 ∷ middle
      → SpellsList depth Free later middle after → SpellsList depth joint (Does 1 NextRecord later) before after
  slashes : {depth repeat : ℕ} {joint : Joint} {later : Format} {before slash middle after : List ℕ} → IsTrue (takes_item joint)
      → Number repeat before slash → IsTrue (is_from 1 32767 repeat) → seen slash ≡ 47 ∷ middle → SpellsList depth Free later middle after
      → SpellsList depth joint (Does repeat NextRecord later) before after
  colon : {depth : ℕ} {joint : Joint} {later : Format} {before middle after : List ℕ} → seen before ≡ 58 ∷ middle
      → SpellsList depth Free later middle after → SpellsList depth joint (Colon later) before after
  scale : {depth : ℕ} {joint : Joint} {later : Format} {before middle after : List ℕ} → IsTrue (takes_item joint) → Scales before middle
      → SpellsList depth Free later middle after → SpellsList depth joint later before after

-- a format at the front of a text: a left parenthesis, a list of items, which may have none, and a right parenthesis
pub data SpellsFormat : Format → List ℕ → List ℕ → Type 0 where
  left_parenthesis : {format : Format} {before middle after : List ℕ} → seen before ≡ 40 ∷ middle → SpellsList 1 Opened format middle after
      → SpellsFormat format before after

-- the whole text spells the format
abbrev pub IsFormat : Format → List ℕ → Type 0
IsFormat format text = SpellsFormat format text []
