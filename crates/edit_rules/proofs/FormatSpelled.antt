-- What spells a format is read as that format.
use Rattle.std.proofs.Common.{◌≡◌, ℕ, zero, suc, ◌+◌, ◌-◌, ◌*◌, ◌<◌, ◌≤◌, ◌==◌, nat_le, nat_lt, Bool, true, false, ◌||◌, if◌then◌else◌, None, Some, IsTrue, List, [], ◌∷◌, ◌++◌, length, refl, sym, ap, ◌∙◌, arith}
use Rattle.std.proofs.lemmas.Bool.{and_parts}
use Rattle.std.proofs.lemmas.Bool.Decides.{nat_tests}
use Rattle.std.specs.Char.{to_ascii_uppercase}
use Rattle.edit_meaning.specs.Formats.{Descriptor, IntIn, LogicalIn, TextIn, Control, Literal, ToColumn, LeftBy, RightBy, NextRecord, PlusSigns, Format, Takes, Does, Colon, Group}
use Rattle.edit_meaning.specs.FormatGrammar.{seen, is_from, Digits, no_more, one_more, Number, digits, Repeat, once, times, Describes, int_of_width, int_of_least, logical_of_width, text_whole, text_of_width, NoQuote, Quoted, ends, doubled, other, Controls, in_apostrophes, hollerith, skip, to_column, left_by, right_by, plus_as_ever, plus_suppressed, plus_produced, blanks_null, blanks_zero, Scales, unsigned, signed, Joint, Wanted, Free, Behind, may_close, takes_comma, takes_item, SpellsList, right_parenthesis, comma, descriptor, control, group, slash, slashes, colon, scale, SpellsFormat, left_parenthesis}
use Rattle.edit_meaning.specs.FormatTexts.{Sign, LeftParen, RightParen, Comma, Slash, Period, Colons, Quote, PlusMinus, Digit, LetterA, LetterB, LetterH, LetterI, LetterL, LetterN, LetterP, LetterR, LetterS, LetterT, LetterX, LetterZ, upper_sign, Kind, Count, Signed, IntWidth, Least, LogicalWidth, TextWidth, Column, Left, Right, most, Place, Start, At, Before, Inside, BehindA, BehindB, BehindS, BehindT, Outside, InText, BehindQuote, Verbatim, Made, fresh, Move, To, Opens, Closes, same, counts, keeps, takes, does, has_text, only_if, behind, in_number, between, ended, wide, behind_a, behind_s, in_text_of, in_text, behind_number, behind_quote, outside, Going, Done, Frame, closed, state_by, starting, Front, from_state, found}
use Rattle.edit_rules.proofs.FormatSteps.{at_next, step_to, digit_sign, behind_change}

grows : {begun number : ℕ} {before after : List ℕ} → Digits begun number before after → begun ≤ number
grows no_more = omega arith
grows (one_more e d more) = let ih = grows more in omega arith

allowed : (ok : Bool) (move : Move) (made : Made) (outer : List Frame) → IsTrue ok → state_by (only_if ok move) made outer ≡ state_by move made outer
allowed ok move made outer h = ap (λ z. state_by (only_if z move) made outer) h

pub within_most : (a b : ℕ) → a ≤ b → IsTrue (nat_le a b)
within_most a b h = grind (arith, nat_tests)

pub le_of : (a b : ℕ) → IsTrue (nat_le a b) → a ≤ b
le_of a b h = grind (arith, nat_tests)

pub below_of : (a b : ℕ) → a < b → IsTrue (nat_lt a b)
below_of a b h = grind (arith, nat_tests)

upper_bound : (least greatest number : ℕ) → IsTrue (is_from least greatest number) → number ≤ greatest
upper_bound least greatest number h = le_of number greatest (and_parts (nat_le least number) (nat_le number greatest) h).1

-- the digits of a number that is begun
digits_run : (kind : Kind) (made : Made) (outer : List Frame) {begun number : ℕ} {before after : List ℕ} → Digits begun number before after → number ≤ most kind
    → found before (Going (Outside (Inside kind begun)) made outer) ≡ found after (Going (Outside (Inside kind number)) made outer)
digits_run kind made outer no_more h = refl
digits_run kind made outer {begun = begun} {before = before} (one_more {digit = digit} {middle = middle} e d more) h =
    let g = grows more in
    step_to before (Inside kind begun) made outer digit middle (Digit (digit - 48)) (Going (Outside (Inside kind (begun * 10 + (digit - 48)))) made outer) e
    (digit_sign digit d)
    (allowed (nat_le (begun * 10 + (digit - 48)) (most kind)) (To (Outside (Inside kind (begun * 10 + (digit - 48)))) same) made outer
    (within_most (begun * 10 + (digit - 48)) (most kind) (omega arith)))
    ∙ digits_run kind made outer more h

-- a number, from a place where it may begin
number_run : (place : Place) (kind : Kind) (made : Made) (outer : List Frame) {number : ℕ} {before after : List ℕ} → Number number before after → number ≤ most kind
    → ((digit : ℕ) → state_by (outside (suc (length outer)) place (Digit digit)) made outer ≡ state_by (in_number kind digit) made outer)
    → found before (Going (Outside place) made outer) ≡ found after (Going (Outside (Inside kind number)) made outer)
number_run place kind made outer {before = before} (digits {digit = digit} {middle = middle} e d more) h begins =
    let g = grows more in
    step_to before place made outer digit middle (Digit (digit - 48)) (Going (Outside (Inside kind (digit - 48))) made outer) e (digit_sign digit d)
    (begins (digit - 48) ∙ allowed (nat_le (digit - 48) (most kind)) (To (Outside (Inside kind (digit - 48))) same) made outer
    (within_most (digit - 48) (most kind) (omega arith)))
    ∙ digits_run kind made outer more h

-- the signs that can stand behind an item
data Separates : Sign → Type 0 where
  by_paren : Separates RightParen
  by_comma : Separates Comma
  by_slash : Separates Slash
  by_colon : Separates Colons

-- a text that goes on with one of them
data Parted : List ℕ → Type 0 where
  parted : {text : List ℕ} (c : ℕ) (middle : List ℕ) (sign : Sign) → seen text ≡ c ∷ middle → upper_sign c ≡ sign → Separates sign → Parted text

list_parted : {depth : ℕ} {list : Format} {before after : List ℕ} → SpellsList depth Behind list before after → Parted before
list_parted (right_parenthesis h e) = parted _ _ RightParen e refl by_paren
list_parted (comma h e more) = parted _ _ Comma e refl by_comma
list_parted (descriptor h r d more) = absurd (cc)
list_parted (control h c more) = absurd (cc)
list_parted (group h r e l i more) = absurd (cc)
list_parted (slash e more) = parted _ _ Slash e refl by_slash
list_parted (slashes h n w e more) = absurd (cc)
list_parted (colon e more) = parted _ _ Colons e refl by_colon
list_parted (scale h s more) = absurd (cc)

-- an item that shows its end only by what stands behind it
settles : (place : Place) (change : Made → Made) (made : Made) (outer : List Frame) (text : List ℕ) → Parted text
    → ((sign : Sign) → Separates sign → state_by (outside (suc (length outer)) place sign) made outer ≡ state_by (behind change (between (suc (length outer)) Behind sign)) made outer)
    → found text (Going (Outside place) made outer) ≡ found text (Going (Outside (At Behind)) (change made) outer)
settles place change made outer text (parted c middle sign e s p) h =
    at_next text place made outer c middle e
    ∙ ap (λ z. from_state (state_by (outside (suc (length outer)) place z) made outer) (λ state. found middle state)) s
    ∙ ap (λ z. from_state z (λ state. found middle state)) (h sign p ∙ behind_change (suc (length outer)) change made outer sign)
    ∙ ap (λ z. from_state (state_by (outside (suc (length outer)) (At Behind) z) (change made) outer) (λ state. found middle state)) (sym s)
    ∙ sym (at_next text (At Behind) (change made) outer c middle e)

-- where an item may begin, with its repeat
record Awaits (repeat : ℕ) (items : Format → Format) (outer : List Frame) (place : Place) : Type 0 where
  at_i : state_by (outside (suc (length outer)) place LetterI) (fresh items) outer ≡ Some (Going (Outside (Before IntWidth)) (counts repeat (fresh items)) outer)
  at_l : state_by (outside (suc (length outer)) place LetterL) (fresh items) outer ≡ Some (Going (Outside (Before LogicalWidth)) (counts repeat (fresh items)) outer)
  at_a : state_by (outside (suc (length outer)) place LetterA) (fresh items) outer ≡ Some (Going (Outside BehindA) (counts repeat (fresh items)) outer)
  at_paren : IsTrue (nat_lt (suc (length outer)) 20) → state_by (outside (suc (length outer)) place LeftParen) (fresh items) outer
      ≡ Some (Going (Outside (At Wanted)) (fresh (λ later. later)) (record { repeat = repeat; before = items } ∷ outer))

record Repeated (repeat : ℕ) (items : Format → Format) (outer : List Frame) (joint : Joint) (before after : List ℕ) : Type 0 where
  place : Place
  awaits : Awaits repeat items outer place
  run : found before (Going (Outside (At joint)) (fresh items) outer) ≡ found after (Going (Outside place) (fresh items) outer)

repeat_run : (items : Format → Format) (outer : List Frame) (joint : Joint) {repeat : ℕ} {before after : List ℕ} → IsTrue (takes_item joint) → Repeat repeat before after
    → Repeated repeat items outer joint before after
repeat_run items outer joint h once = record {
  place = At joint;
  awaits = record {
    at_i = allowed (takes_item joint) _ (fresh items) outer h;
    at_l = allowed (takes_item joint) _ (fresh items) outer h;
    at_a = allowed (takes_item joint) _ (fresh items) outer h;
    at_paren = λ l. allowed (takes_item joint) (only_if (nat_lt (suc (length outer)) 20) (Opens 1)) (fresh items) outer h
        ∙ allowed (nat_lt (suc (length outer)) 20) (Opens 1) (fresh items) outer l;
  };
  run = refl;
}
repeat_run items outer joint {repeat = repeat} h (times n w) = record {
  place = Inside Count repeat;
  awaits = record {
    at_i = allowed (is_from 1 32767 repeat) _ (fresh items) outer w;
    at_l = allowed (is_from 1 32767 repeat) _ (fresh items) outer w;
    at_a = allowed (is_from 1 32767 repeat) _ (fresh items) outer w;
    at_paren = λ l. allowed (is_from 1 32767 repeat) (only_if (nat_lt (suc (length outer)) 20) (Opens repeat)) (fresh items) outer w
        ∙ allowed (nat_lt (suc (length outer)) 20) (Opens repeat) (fresh items) outer l;
  };
  run = number_run (At joint) Count (fresh items) outer n (upper_bound 1 32767 repeat w) (λ digit. allowed (takes_item joint) (in_number Count digit) (fresh items) outer h);
}

shows_end : (depth : ℕ) (kind : Kind) (number : ℕ) (sign : Sign) → Separates sign → outside depth (Inside kind number) sign ≡ behind_number depth kind number sign
shows_end depth kind number sign by_paren = refl
shows_end depth kind number sign by_comma = refl
shows_end depth kind number sign by_slash = refl
shows_end depth kind number sign by_colon = refl

-- an item that ends with a number
number_settles : (kind : Kind) (number : ℕ) (ok : Bool) (change : Made → Made) (made : Made) (outer : List Frame) (text : List ℕ) → Parted text → IsTrue ok
    → ((sign : Sign) → Separates sign → behind_number (suc (length outer)) kind number sign ≡ ended ok change (suc (length outer)) sign)
    → found text (Going (Outside (Inside kind number)) made outer) ≡ found text (Going (Outside (At Behind)) (change made) outer)
number_settles kind number ok change made outer text p h k =
    settles (Inside kind number) change made outer text p
    (λ sign s. ap (λ z. state_by z made outer) (shows_end (suc (length outer)) kind number sign s ∙ k sign s)
    ∙ allowed ok (behind change (between (suc (length outer)) Behind sign)) made outer h)

wide_end : (depth width : ℕ) (sign : Sign) → Separates sign → wide depth width sign ≡ ended (is_from 1 1024 width) (takes (IntIn width None)) depth sign
wide_end depth width sign by_paren = refl
wide_end depth width sign by_comma = refl
wide_end depth width sign by_slash = refl
wide_end depth width sign by_colon = refl

a_end : (depth : ℕ) (sign : Sign) → Separates sign → behind_a depth sign ≡ behind (takes (TextIn None)) (between depth Behind sign)
a_end depth sign by_paren = refl
a_end depth sign by_comma = refl
a_end depth sign by_slash = refl
a_end depth sign by_colon = refl

s_end : (depth : ℕ) (sign : Sign) → Separates sign → behind_s depth sign ≡ behind (does 1 (PlusSigns false)) (between depth Behind sign)
s_end depth sign by_paren = refl
s_end depth sign by_comma = refl
s_end depth sign by_slash = refl
s_end depth sign by_colon = refl

-- a repeatable edit descriptor
describes_run : (repeat : ℕ) (items : Format → Format) (outer : List Frame) (place : Place) {item : Descriptor} {before after : List ℕ} → Awaits repeat items outer place
    → Describes item before after → Parted after
    → found before (Going (Outside place) (fresh items) outer) ≡ found after (Going (Outside (At Behind)) (fresh (λ later. items (Takes repeat item later))) outer)
describes_run repeat items outer place {before = before} {after = after} w (int_of_width {width = width} {middle = middle} e n b) p =
    let made = counts repeat (fresh items) in
    step_to before place (fresh items) outer 73 middle LetterI _ e refl w.at_i
    ∙ number_run (Before IntWidth) IntWidth made outer n (upper_bound 1 1024 width b) (λ digit. refl)
    ∙ number_settles IntWidth width (is_from 1 1024 width) (takes (IntIn width None)) made outer after p b (wide_end (suc (length outer)) width)
describes_run repeat items outer place {before = before} {after = after} w (int_of_least {width = width} {least = least} {middle = middle} {point = point} {behind = tail} e n b f m l) p =
    let made = counts repeat (fresh items) in
    step_to before place (fresh items) outer 73 middle LetterI _ e refl w.at_i
    ∙ number_run (Before IntWidth) IntWidth made outer n (upper_bound 1 1024 width b) (λ digit. refl)
    ∙ step_to point (Inside IntWidth width) made outer 46 tail Period (Going (Outside (Before (Least width))) made outer) f refl
    (allowed (is_from 1 1024 width) (To (Outside (Before (Least width))) same) made outer b)
    ∙ number_run (Before (Least width)) (Least width) made outer m (le_of least width l) (λ digit. refl)
    ∙ number_settles (Least width) least (nat_le least width) (takes (IntIn width (Some least))) made outer after p l (λ sign s. refl)
describes_run repeat items outer place {before = before} {after = after} w (logical_of_width {width = width} {middle = middle} e n b) p =
    let made = counts repeat (fresh items) in
    step_to before place (fresh items) outer 76 middle LetterL _ e refl w.at_l
    ∙ number_run (Before LogicalWidth) LogicalWidth made outer n (upper_bound 1 1024 width b) (λ digit. refl)
    ∙ number_settles LogicalWidth width (is_from 1 1024 width) (takes (LogicalIn width)) made outer after p b (λ sign s. refl)
describes_run repeat items outer place {before = before} {after = after} w (text_whole e) p =
    let made = counts repeat (fresh items) in
    step_to before place (fresh items) outer 65 after LetterA _ e refl w.at_a
    ∙ settles BehindA (takes (TextIn None)) made outer after p (λ sign s. ap (λ z. state_by z made outer) (a_end (suc (length outer)) sign s))
describes_run repeat items outer place {before = before} {after = after} w (text_of_width {width = width} {middle = middle} e n b) p =
    let made = counts repeat (fresh items) in
    step_to before place (fresh items) outer 65 middle LetterA _ e refl w.at_a
    ∙ number_run BehindA TextWidth made outer n (upper_bound 1 1024 width b) (λ digit. refl)
    ∙ number_settles TextWidth width (is_from 1 1024 width) (takes (TextIn (Some width))) made outer after p b (λ sign s. refl)

-- a text in front of later items
abbrev pub texts : Made → List ℕ → Made
texts made text = fresh (λ later. made.items (Does 1 (Literal (made.kept text)) later))

pub quote_by : (blank : Bool) (u c : ℕ) (cs : List ℕ) (made : Made) (outer : List Frame)
    → from_state (state_by (behind has_text (if blank then To (Outside (At Behind)) same else outside (suc (length outer)) (At Behind) (upper_sign u))) made outer) (λ state. found cs state)
    ≡ from_state (state_by (if blank then To (Outside (At Behind)) same else outside (suc (length outer)) (At Behind) (upper_sign u)) (has_text made) outer) (λ state. found cs state)
quote_by true u c cs made outer = refl
quote_by false u c cs made outer = ap (λ z. from_state z (λ state. found cs state)) (behind_change (suc (length outer)) has_text made outer (upper_sign u))

-- behind the last apostrophe
quote_end : (made : Made) (outer : List Frame) (text : List ℕ) → NoQuote text
    → found text (Going (BehindQuote true) made outer) ≡ found text (Going (Outside (At Behind)) (has_text made) outer)
quote_end made outer [] h = refl
quote_end made outer (c ∷ cs) h =
    ap (λ z. from_state (state_by (behind_quote z true (suc (length outer)) c) made outer) (λ state. found cs state)) h
    ∙ quote_by (c == 32) (to_ascii_uppercase c) c cs made outer

abbrev pub filled : Bool → List ℕ → Bool
filled some [] = some
filled some (c ∷ cs) = true

filled_true : (text : List ℕ) → IsTrue (filled true text)
filled_true [] = refl
filled_true (c ∷ cs) = refl

quoted_run : (some : Bool) (made : Made) (outer : List Frame) {text before after : List ℕ} → Quoted text before after → IsTrue (filled some text)
    → found before (Going (InText some) made outer) ≡ found after (Going (Outside (At Behind)) (texts made text) outer)
quoted_run some made outer (ends {quote = quote} {after = after} q n) h =
    ap (λ z. from_state (state_by (in_text z some quote) made outer) (λ state. found after state)) q
    ∙ ap (λ z. found after (Going (BehindQuote z) made outer)) h ∙ quote_end made outer after n
quoted_run some made outer (doubled {quote = quote} {again = again} {text = text} {middle = middle} q a more) h =
    ap (λ z. from_state (state_by (in_text z some quote) made outer) (λ state. found (again ∷ middle) state)) q
    ∙ ap (λ z. from_state (state_by (behind_quote z some (suc (length outer)) again) made outer) (λ state. found middle state)) a
    ∙ quoted_run true (keeps 39 made) outer more (filled_true text)
quoted_run some made outer (other {c = c} {text = text} {middle = middle} q more) h =
    ap (λ z. from_state (state_by (in_text z some c) made outer) (λ state. found middle state)) q
    ∙ quoted_run true (keeps c made) outer more (filled_true text)

verbatim_run : (text : List ℕ) (more : ℕ) (made : Made) (outer : List Frame) (after : List ℕ) → length text ≡ suc more
    → found (text ++ after) (Going (Verbatim more) made outer) ≡ found after (Going (Outside (At Behind)) (texts made text) outer)
verbatim_run [] more made outer after h = absurd (omega arith)
verbatim_run (c ∷ []) zero made outer after h = refl
verbatim_run (c ∷ d ∷ text) zero made outer after h = absurd (omega arith)
verbatim_run (c ∷ text) (suc more) made outer after h = verbatim_run text more (keeps c made) outer after (omega arith)

hollerith_by : (number : ℕ) (items : Format → Format) (outer : List Frame) (letter middle text after : List ℕ) → IsTrue (is_from 1 1024 number) → seen letter ≡ 72 ∷ middle
    → middle ≡ text ++ after → length text ≡ number
    → found letter (Going (Outside (Inside Count number)) (fresh items) outer) ≡ found after (Going (Outside (At Behind)) (texts (fresh items) text) outer)
hollerith_by zero items outer letter middle text after b e f l = absurd (cc)
hollerith_by (suc more) items outer letter middle text after b e f l =
    step_to letter (Inside Count (suc more)) (fresh items) outer 72 middle LetterH (Going (Verbatim more) (fresh items) outer) e refl
    (allowed (is_from 1 1024 (suc more)) (in_text_of (suc more)) (fresh items) outer b)
    ∙ ap (λ z. found z (Going (Verbatim more) (fresh items) outer)) f
    ∙ verbatim_run text more (fresh items) outer after l

-- a further edit descriptor
controls_run : (items : Format → Format) (outer : List Frame) (joint : Joint) {item : Control} {before after : List ℕ} → IsTrue (takes_item joint) → Controls item before after → Parted after
    → found before (Going (Outside (At joint)) (fresh items) outer) ≡ found after (Going (Outside (At Behind)) (fresh (λ later. items (Does 1 item later))) outer)
controls_run items outer joint {before = before} t (in_apostrophes {middle = middle} e q) p =
    step_to before (At joint) (fresh items) outer 39 middle Quote (Going (InText false) (fresh items) outer) e refl
    (allowed (takes_item joint) (To (InText false) same) (fresh items) outer t)
    ∙ quoted_run false (fresh items) outer q refl
controls_run items outer joint t (hollerith {number = number} {text = text} {letter = letter} {middle = middle} {after = after} n b e f l) p =
    number_run (At joint) Count (fresh items) outer n (let u = upper_bound 1 1024 number b in omega arith)
    (λ digit. allowed (takes_item joint) (in_number Count digit) (fresh items) outer t)
    ∙ hollerith_by number items outer letter middle text after b e f l
controls_run items outer joint t (skip {number = number} {letter = letter} {after = after} n b e) p =
    number_run (At joint) Count (fresh items) outer n (let u = upper_bound 1 1024 number b in omega arith)
    (λ digit. allowed (takes_item joint) (in_number Count digit) (fresh items) outer t)
    ∙ step_to letter (Inside Count number) (fresh items) outer 88 after LetterX _ e refl
    (allowed (is_from 1 1024 number) (To (Outside (At Behind)) (does 1 (RightBy number))) (fresh items) outer b)
controls_run items outer joint {before = before} {after = after} t (to_column {number = number} {middle = middle} e n b) p =
    step_to before (At joint) (fresh items) outer 84 middle LetterT (Going (Outside BehindT) (fresh items) outer) e refl
    (allowed (takes_item joint) (To (Outside BehindT) same) (fresh items) outer t)
    ∙ number_run BehindT Column (fresh items) outer n (upper_bound 1 1024 number b) (λ digit. refl)
    ∙ number_settles Column number (is_from 1 1024 number) (does 1 (ToColumn number)) (fresh items) outer after p b (λ sign s. refl)
controls_run items outer joint {before = before} {after = after} t (left_by {number = number} {middle = middle} {behind = tail} e f n b) p =
    step_to before (At joint) (fresh items) outer 84 middle LetterT (Going (Outside BehindT) (fresh items) outer) e refl
    (allowed (takes_item joint) (To (Outside BehindT) same) (fresh items) outer t)
    ∙ step_to middle BehindT (fresh items) outer 76 tail LetterL (Going (Outside (Before Left)) (fresh items) outer) f refl refl
    ∙ number_run (Before Left) Left (fresh items) outer n (upper_bound 1 1024 number b) (λ digit. refl)
    ∙ number_settles Left number (is_from 1 1024 number) (does 1 (LeftBy number)) (fresh items) outer after p b (λ sign s. refl)
controls_run items outer joint {before = before} {after = after} t (right_by {number = number} {middle = middle} {behind = tail} e f n b) p =
    step_to before (At joint) (fresh items) outer 84 middle LetterT (Going (Outside BehindT) (fresh items) outer) e refl
    (allowed (takes_item joint) (To (Outside BehindT) same) (fresh items) outer t)
    ∙ step_to middle BehindT (fresh items) outer 82 tail LetterR (Going (Outside (Before Right)) (fresh items) outer) f refl refl
    ∙ number_run (Before Right) Right (fresh items) outer n (upper_bound 1 1024 number b) (λ digit. refl)
    ∙ number_settles Right number (is_from 1 1024 number) (does 1 (RightBy number)) (fresh items) outer after p b (λ sign s. refl)
controls_run items outer joint {before = before} {after = after} t (plus_as_ever e) p =
    step_to before (At joint) (fresh items) outer 83 after LetterS (Going (Outside BehindS) (fresh items) outer) e refl
    (allowed (takes_item joint) (To (Outside BehindS) same) (fresh items) outer t)
    ∙ settles BehindS (does 1 (PlusSigns false)) (fresh items) outer after p (λ sign s. ap (λ z. state_by z (fresh items) outer) (s_end (suc (length outer)) sign s))
controls_run items outer joint {before = before} {after = after} t (plus_suppressed {middle = middle} e f) p =
    step_to before (At joint) (fresh items) outer 83 middle LetterS (Going (Outside BehindS) (fresh items) outer) e refl
    (allowed (takes_item joint) (To (Outside BehindS) same) (fresh items) outer t)
    ∙ step_to middle BehindS (fresh items) outer 83 after LetterS _ f refl refl
controls_run items outer joint {before = before} {after = after} t (plus_produced {middle = middle} e f) p =
    step_to before (At joint) (fresh items) outer 83 middle LetterS (Going (Outside BehindS) (fresh items) outer) e refl
    (allowed (takes_item joint) (To (Outside BehindS) same) (fresh items) outer t)
    ∙ step_to middle BehindS (fresh items) outer 80 after LetterP _ f refl refl
controls_run items outer joint {before = before} {after = after} t (blanks_null {middle = middle} e f) p =
    step_to before (At joint) (fresh items) outer 66 middle LetterB (Going (Outside BehindB) (fresh items) outer) e refl
    (allowed (takes_item joint) (To (Outside BehindB) same) (fresh items) outer t)
    ∙ step_to middle BehindB (fresh items) outer 78 after LetterN _ f refl refl
controls_run items outer joint {before = before} {after = after} t (blanks_zero {middle = middle} e f) p =
    step_to before (At joint) (fresh items) outer 66 middle LetterB (Going (Outside BehindB) (fresh items) outer) e refl
    (allowed (takes_item joint) (To (Outside BehindB) same) (fresh items) outer t)
    ∙ step_to middle BehindB (fresh items) outer 90 after LetterZ _ f refl refl

is_plus_or_minus : (c : ℕ) → IsTrue (c == 43 || c == 45) → upper_sign c ≡ PlusMinus
is_plus_or_minus c h = grind (arith, nat_tests)

-- a scale factor
scales_run : (items : Format → Format) (outer : List Frame) (joint : Joint) {before after : List ℕ} → IsTrue (takes_item joint) → Scales before after
    → found before (Going (Outside (At joint)) (fresh items) outer) ≡ found after (Going (Outside (At Free)) (fresh items) outer)
scales_run items outer joint t (unsigned {number = number} {letter = letter} {after = after} n b e) =
    number_run (At joint) Count (fresh items) outer n (let u = le_of number 127 b in omega arith)
    (λ digit. allowed (takes_item joint) (in_number Count digit) (fresh items) outer t)
    ∙ step_to letter (Inside Count number) (fresh items) outer 80 after LetterP _ e refl
    (allowed (nat_le number 127) (To (Outside (At Free)) same) (fresh items) outer b)
scales_run items outer joint {before = before} t (signed {sign = sign} {number = number} {middle = middle} {letter = letter} {after = after} f s n b e) =
    step_to before (At joint) (fresh items) outer sign middle PlusMinus (Going (Outside (Before Signed)) (fresh items) outer) f (is_plus_or_minus sign s)
    (allowed (takes_item joint) (To (Outside (Before Signed)) same) (fresh items) outer t)
    ∙ number_run (Before Signed) Signed (fresh items) outer n (le_of number 127 b) (λ digit. refl)
    ∙ step_to letter (Inside Signed number) (fresh items) outer 80 after LetterP _ e refl
    (allowed (nat_le number 127) (To (Outside (At Free)) same) (fresh items) outer b)

-- a list of items, up to its right parenthesis
pub list_run : (items : Format → Format) (outer : List Frame) {depth : ℕ} {joint : Joint} {list : Format} {before after : List ℕ} → depth ≡ suc (length outer)
    → SpellsList depth joint list before after
    → found before (Going (Outside (At joint)) (fresh items) outer) ≡ found after (closed (items list) outer)
list_run items outer {joint = joint} {before = before} {after = after} d (right_parenthesis h e) =
    step_to before (At joint) (fresh items) outer 41 after RightParen _ e refl (allowed (may_close joint) (Closes same) (fresh items) outer h)
list_run items outer {joint = joint} {before = before} d (comma {middle = middle} h e more) =
    step_to before (At joint) (fresh items) outer 44 middle Comma _ e refl (allowed (takes_comma joint) (To (Outside (At Wanted)) same) (fresh items) outer h)
    ∙ list_run items outer d more
list_run items outer {joint = joint} d (descriptor {repeat = repeat} {item = item'} h r b more) =
    let begun = repeat_run items outer joint h r in
    begun.run ∙ describes_run repeat items outer begun.place begun.awaits b (list_parted more)
    ∙ list_run (λ later. items (Takes repeat item' later)) outer d more
list_run items outer {joint = joint} d (control {item = item'} h c more) =
    controls_run items outer joint h c (list_parted more) ∙ list_run (λ later. items (Does 1 item' later)) outer d more
list_run items outer {joint = joint} d (group {repeat = repeat} {inner = inner} {parenthesis = parenthesis} {inside = inside} h r e l within more) =
    let begun = repeat_run items outer joint h r in
    begun.run
    ∙ step_to parenthesis begun.place (fresh items) outer 40 inside LeftParen _ e refl (begun.awaits.at_paren (below_of (suc (length outer)) 20 (omega arith)))
    ∙ list_run (λ later. later) (record { repeat = repeat; before = items } ∷ outer) (ap suc d) within
    ∙ list_run (λ later. items (Group repeat inner later)) outer d more
list_run items outer {joint = joint} {before = before} d (slash {middle = middle} e more) =
    step_to before (At joint) (fresh items) outer 47 middle Slash _ e refl refl ∙ list_run (λ later. items (Does 1 NextRecord later)) outer d more
list_run items outer {joint = joint} d (slashes {repeat = repeat} {slash = slash'} {middle = middle} h n b e more) =
    number_run (At joint) Count (fresh items) outer n (upper_bound 1 32767 repeat b)
    (λ digit. allowed (takes_item joint) (in_number Count digit) (fresh items) outer h)
    ∙ step_to slash' (Inside Count repeat) (fresh items) outer 47 middle Slash _ e refl
    (allowed (is_from 1 32767 repeat) (To (Outside (At Free)) (does repeat NextRecord)) (fresh items) outer b)
    ∙ list_run (λ later. items (Does repeat NextRecord later)) outer d more
list_run items outer {joint = joint} {before = before} d (colon {middle = middle} e more) =
    step_to before (At joint) (fresh items) outer 58 middle Colons _ e refl refl ∙ list_run (λ later. items (Colon later)) outer d more
list_run items outer {joint = joint} d (scale h s more) = scales_run items outer joint h s ∙ list_run items outer d more

pub found_done : (text : List ℕ) (format : Format) → found text (Done format) ≡ Front format text
found_done [] format = refl
found_done (c ∷ cs) format = refl

-- a text that begins with a format
pub format_run : {format : Format} {before after : List ℕ} → SpellsFormat format before after → found before starting ≡ Front format after
format_run {format = format} {before = before} {after = after} (left_parenthesis {middle = middle} e more) =
    step_to before Start (fresh (λ later. later)) [] 40 middle LeftParen _ e refl refl ∙ list_run (λ later. later) [] refl more ∙ found_done after format
