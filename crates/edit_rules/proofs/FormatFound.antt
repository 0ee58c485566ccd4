-- What the reader finds at the front of a text spells that format.
use Rattle.std.proofs.Common.{◌≡◌, ℕ, zero, suc, ◌+◌, ◌-◌, ◌*◌, ◌<◌, ◌≤◌, ◌==◌, nat_le, nat_lt, Bool, true, false, ◌||◌, None, Some, IsTrue, List, [], ◌∷◌, ◌++◌, length, refl, sym, ap, subst, ◌∙◌, arith}
use Rattle.std.proofs.lemmas.Bool.Decides.{nat_tests}
use Rattle.std.specs.Char.{is_ascii_digit, to_ascii_uppercase}
use Rattle.edit_meaning.specs.Formats.{Descriptor, IntIn, LogicalIn, TextIn, Control, Literal, ToColumn, LeftBy, RightBy, NextRecord, PlusSigns, ZeroBlanks, Format, Empty, Takes, Does, Colon, Group}
use Rattle.edit_meaning.specs.FormatGrammar.{seen, is_from, Digits, no_more, one_more, Number, digits, Repeat, once, times, Describes, int_of_width, int_of_least, logical_of_width, text_whole, text_of_width, Quoted, ends, doubled, other, Controls, in_apostrophes, hollerith, skip, to_column, left_by, right_by, plus_as_ever, plus_suppressed, plus_produced, blanks_null, blanks_zero, Scales, unsigned, signed, Joint, Opened, Wanted, Free, Behind, may_close, takes_comma, takes_item, SpellsList, right_parenthesis, comma, descriptor, control, group, slash, slashes, colon, scale, SpellsFormat, left_parenthesis}
use Rattle.edit_meaning.specs.FormatTexts.{Sign, upper_sign, Kind, Count, Signed, IntWidth, Least, LogicalWidth, TextWidth, Column, Left, Right, most, Place, Start, At, Before, Inside, BehindA, BehindB, BehindS, BehindT, Outside, InText, BehindQuote, Verbatim, Made, fresh, Move, Refused, To, Opens, Closes, same, counts, keeps, takes, does, has_text, only_if, behind, opens, in_number, between, ended, counted, scaled, wide, behind_a, behind_b, behind_s, behind_t, in_text_of, in_text, behind_number, behind_quote, outside_text, outside, Going, Frame, closed, state_by, starting, Nothing, Front, from_state, found}
use Rattle.edit_rules.proofs.FormatSteps.{at_next, at_none, CodeOf, left_paren, right_paren, a_comma, a_slash, a_period, a_colon, a_quote, plus_minus, a_digit, letter_a, letter_b, letter_h, letter_i, letter_l, letter_n, letter_p, letter_r, letter_s, letter_t, letter_x, letter_z, code_of, Next, none, some, next_of, behind_change}
use Rattle.edit_rules.proofs.FormatSpelled.{le_of, quote_by, texts, filled, found_done}

allowed_only : (ok : Bool) (move : Move) (made : Made) (outer : List Frame) (middle : List ℕ) (tree : Format) (rest : List ℕ)
    → from_state (state_by (only_if ok move) made outer) (λ state. found middle state) ≡ Front tree rest
    → IsTrue ok × (from_state (state_by move made outer) (λ state. found middle state) ≡ Front tree rest)
allowed_only true move made outer middle tree rest h = (refl, h)
allowed_only false move made outer middle tree rest h = absurd (cc)

-- a number that is begun, read to its end
record NumberRead (kind : Kind) (begun : ℕ) (made : Made) (outer : List Frame) (text : List ℕ) (tree : Format) (rest : List ℕ) : Type 0 where
  number : ℕ
  after : List ℕ
  c : ℕ
  middle : List ℕ
  sign : Sign
  read : Digits begun number text after
  upto : begun ≤ most kind → number ≤ most kind
  next : seen after ≡ c ∷ middle
  is_sign : upper_sign c ≡ sign
  code : CodeOf sign c
  shorter : length after ≤ length text
  smaller : length middle < length after
  on : from_state (state_by (behind_number (suc (length outer)) kind number sign) made outer) (λ state. found middle state) ≡ Front tree rest

abbrev ReadsNumbers : ℕ → Type 0
ReadsNumbers fuel = (kind : Kind) (begun : ℕ) (made : Made) (outer : List Frame) (text : List ℕ) (tree : Format) (rest : List ℕ) → length text ≤ fuel
    → found text (Going (Outside (Inside kind begun)) made outer) ≡ Front tree rest → NumberRead kind begun made outer text tree rest

number_sign : (fuel : ℕ) → ReadsNumbers fuel → (kind : Kind) (begun : ℕ) (made : Made) (outer : List Frame) (text : List ℕ) (tree : Format) (rest : List ℕ) (c : ℕ) (middle : List ℕ) (sign : Sign)
    → seen text ≡ c ∷ middle → upper_sign c ≡ sign → length middle < length text → length text ≤ suc fuel → CodeOf sign c
    → from_state (state_by (outside (suc (length outer)) (Inside kind begun) sign) made outer) (λ state. found middle state) ≡ Front tree rest
    → NumberRead kind begun made outer text tree rest
number_sign fuel ih kind begun made outer text tree rest c middle sign e s l f (a_digit d) h =
    let parts = allowed_only (nat_le (begun * 10 + (c - 48)) (most kind)) (To (Outside (Inside kind (begun * 10 + (c - 48)))) same) made outer middle tree rest h in
    let r = ih kind (begun * 10 + (c - 48)) made outer middle tree rest (omega arith) parts.1 in
    record {
      number = r.number;
      after = r.after;
      c = r.c;
      middle = r.middle;
      sign = r.sign;
      read = one_more e d r.read;
      upto = λ u. r.upto (le_of (begun * 10 + (c - 48)) (most kind) parts.0);
      next = r.next;
      is_sign = r.is_sign;
      code = r.code;
      shorter = let a = r.shorter in omega arith;
      smaller = r.smaller;
      on = r.on;
    }
number_sign fuel ih kind begun made outer text tree rest c middle sign e s l f code h = record {
  number = begun;
  after = text;
  c = c;
  middle = middle;
  sign = sign;
  read = no_more;
  upto = λ u. u;
  next = e;
  is_sign = s;
  code = code;
  shorter = omega arith;
  smaller = l;
  on = h;
}

along : (text : List ℕ) (place : Place) (made : Made) (outer : List Frame) (c : ℕ) (middle : List ℕ) (tree : Format) (rest : List ℕ) → seen text ≡ c ∷ middle
    → found text (Going (Outside place) made outer) ≡ Front tree rest
    → from_state (state_by (outside (suc (length outer)) place (upper_sign c)) made outer) (λ state. found middle state) ≡ Front tree rest
along text place made outer c middle tree rest e h = sym (at_next text place made outer c middle e) ∙ h

nothing_there : (text : List ℕ) (place : Place) (made : Made) (outer : List Frame) (tree : Format) (rest : List ℕ) → seen text ≡ []
    → found text (Going (Outside place) made outer) ≡ Front tree rest → ⊥
nothing_there text place made outer tree rest e h = let a : Nothing ≡ Front tree rest = sym (at_none text place made outer e) ∙ h in cc

number_next : (fuel : ℕ) → ReadsNumbers fuel → (kind : Kind) (begun : ℕ) (made : Made) (outer : List Frame) (text : List ℕ) (tree : Format) (rest : List ℕ) → length text ≤ suc fuel → Next text
    → found text (Going (Outside (Inside kind begun)) made outer) ≡ Front tree rest → NumberRead kind begun made outer text tree rest
number_next fuel ih kind begun made outer text tree rest f (none e) h = absurd (nothing_there text (Inside kind begun) made outer tree rest e h)
number_next fuel ih kind begun made outer text tree rest f (some c middle e l) h =
    number_sign fuel ih kind begun made outer text tree rest c middle (upper_sign c) e refl l f (code_of c)
    (along text (Inside kind begun) made outer c middle tree rest e h)

number_empty : (kind : Kind) (begun : ℕ) (made : Made) (outer : List Frame) (text : List ℕ) (tree : Format) (rest : List ℕ) → length text ≤ 0
    → found text (Going (Outside (Inside kind begun)) made outer) ≡ Front tree rest → NumberRead kind begun made outer text tree rest
number_empty kind begun made outer [] tree rest f h = absurd (cc)
number_empty kind begun made outer (c ∷ cs) tree rest f h = absurd (omega arith)

number_read : (fuel : ℕ) → ReadsNumbers fuel
number_read zero = λ kind begun made outer text tree rest f h. number_empty kind begun made outer text tree rest f h
number_read (suc fuel) = λ kind begun made outer text tree rest f h. number_next fuel (number_read fuel) kind begun made outer text tree rest f (next_of text) h

-- a whole number
record NumeralRead (kind : Kind) (made : Made) (outer : List Frame) (text : List ℕ) (tree : Format) (rest : List ℕ) : Type 0 where
  number : ℕ
  after : List ℕ
  c : ℕ
  middle : List ℕ
  sign : Sign
  read : Number number text after
  upto : number ≤ most kind
  next : seen after ≡ c ∷ middle
  is_sign : upper_sign c ≡ sign
  code : CodeOf sign c
  shorter : length after < length text
  smaller : length middle < length after
  on : from_state (state_by (behind_number (suc (length outer)) kind number sign) made outer) (λ state. found middle state) ≡ Front tree rest

numeral_read : (kind : Kind) (made : Made) (outer : List Frame) (text : List ℕ) (tree : Format) (rest : List ℕ) (c : ℕ) (middle : List ℕ) → seen text ≡ c ∷ middle
    → IsTrue (is_ascii_digit c) → length middle < length text
    → from_state (state_by (in_number kind (c - 48)) made outer) (λ state. found middle state) ≡ Front tree rest → NumeralRead kind made outer text tree rest
numeral_read kind made outer text tree rest c middle e d l h =
    let parts = allowed_only (nat_le (c - 48) (most kind)) (To (Outside (Inside kind (c - 48))) same) made outer middle tree rest h in
    let r = number_read (length middle) kind (c - 48) made outer middle tree rest (omega arith) parts.1 in
    record {
      number = r.number;
      after = r.after;
      c = r.c;
      middle = r.middle;
      sign = r.sign;
      read = digits e d r.read;
      upto = r.upto (le_of (c - 48) (most kind) parts.0);
      next = r.next;
      is_sign = r.is_sign;
      code = r.code;
      shorter = let a = r.shorter in omega arith;
      smaller = r.smaller;
      on = r.on;
    }

before_sign : (kind : Kind) (made : Made) (outer : List Frame) (text : List ℕ) (tree : Format) (rest : List ℕ) (c : ℕ) (middle : List ℕ) (sign : Sign) → seen text ≡ c ∷ middle
    → length middle < length text → CodeOf sign c
    → from_state (state_by (outside (suc (length outer)) (Before kind) sign) made outer) (λ state. found middle state) ≡ Front tree rest → NumeralRead kind made outer text tree rest
before_sign kind made outer text tree rest c middle sign e l (a_digit d) h = numeral_read kind made outer text tree rest c middle e d l h
before_sign kind made outer text tree rest c middle sign e l _ h = absurd (cc)

before_next : (kind : Kind) (made : Made) (outer : List Frame) (text : List ℕ) (tree : Format) (rest : List ℕ) → Next text
    → found text (Going (Outside (Before kind)) made outer) ≡ Front tree rest → NumeralRead kind made outer text tree rest
before_next kind made outer text tree rest (none e) h = absurd (nothing_there text (Before kind) made outer tree rest e h)
before_next kind made outer text tree rest (some c middle e l) h =
    before_sign kind made outer text tree rest c middle (upper_sign c) e l (code_of c) (along text (Before kind) made outer c middle tree rest e h)

before_read : (kind : Kind) (made : Made) (outer : List Frame) (text : List ℕ) (tree : Format) (rest : List ℕ)
    → found text (Going (Outside (Before kind)) made outer) ≡ Front tree rest → NumeralRead kind made outer text tree rest
before_read kind made outer text tree rest h = before_next kind made outer text tree rest (next_of text) h

-- the end of an item that shows only by what stands behind it
end_read : (ok : Bool) (change : Made → Made) (made : Made) (outer : List Frame) (after : List ℕ) (c : ℕ) (middle : List ℕ) (sign : Sign) (tree : Format) (rest : List ℕ)
    → seen after ≡ c ∷ middle → upper_sign c ≡ sign
    → from_state (state_by (ended ok change (suc (length outer)) sign) made outer) (λ state. found middle state) ≡ Front tree rest
    → IsTrue ok × (found after (Going (Outside (At Behind)) (change made) outer) ≡ Front tree rest)
end_read ok change made outer after c middle sign tree rest e s h =
    let parts = allowed_only ok (behind change (between (suc (length outer)) Behind sign)) made outer middle tree rest h in (
      parts.0,
      at_next after (At Behind) (change made) outer c middle e
          ∙ ap (λ z. from_state (state_by (between (suc (length outer)) Behind z) (change made) outer) (λ state. found middle state)) s
          ∙ ap (λ z. from_state z (λ state. found middle state)) (sym (behind_change (suc (length outer)) change made outer sign))
          ∙ parts.1,
    )

-- an edit descriptor that was read, with a repeat
record Described (repeat : ℕ) (items : Format → Format) (outer : List Frame) (text : List ℕ) (tree : Format) (rest : List ℕ) : Type 0 where
  item' : Descriptor
  after : List ℕ
  read : Describes item' text after
  shorter : length after < length text
  on : found after (Going (Outside (At Behind)) (fresh (λ later. items (Takes repeat item' later))) outer) ≡ Front tree rest

wide_read : (repeat : ℕ) (items : Format → Format) (outer : List Frame) (letter middle : List ℕ) (tree : Format) (rest : List ℕ) → seen letter ≡ 73 ∷ middle → length middle < length letter
    → (width : ℕ) (after : List ℕ) → Number width middle after → length after < length middle → (c : ℕ) (next : List ℕ) (sign : Sign) → seen after ≡ c ∷ next → upper_sign c ≡ sign
    → length next < length after → CodeOf sign c
    → from_state (state_by (wide (suc (length outer)) width sign) (counts repeat (fresh items)) outer) (λ state. found next state) ≡ Front tree rest
    → Described repeat items outer letter tree rest
wide_read repeat items outer letter middle tree rest e l width after n k c next sign f s m (a_period p) h =
    let parts = allowed_only (is_from 1 1024 width) (To (Outside (Before (Least width))) same) (counts repeat (fresh items)) outer next tree rest h in
    let r = before_read (Least width) (counts repeat (fresh items)) outer next tree rest parts.1 in
    let end = end_read (nat_le r.number width) (takes (IntIn width (Some r.number))) (counts repeat (fresh items)) outer r.after r.c r.middle r.sign tree rest r.next r.is_sign r.on in
    record {
      item' = IntIn width (Some r.number);
      after = r.after;
      read = int_of_least e n parts.0 (f ∙ ap (λ z. z ∷ next) p) r.read end.0;
      shorter = let a = r.shorter in omega arith;
      on = end.1;
    }
wide_read repeat items outer letter middle tree rest e l width after n k c next sign f s m _ h =
    let end = end_read (is_from 1 1024 width) (takes (IntIn width None)) (counts repeat (fresh items)) outer after c next sign tree rest f s h in
    record { item' = IntIn width None; after = after; read = int_of_width e n end.0; shorter = omega arith; on = end.1 }

int_read : (repeat : ℕ) (items : Format → Format) (outer : List Frame) (letter middle : List ℕ) (tree : Format) (rest : List ℕ) → seen letter ≡ 73 ∷ middle → length middle < length letter
    → found middle (Going (Outside (Before IntWidth)) (counts repeat (fresh items)) outer) ≡ Front tree rest → Described repeat items outer letter tree rest
int_read repeat items outer letter middle tree rest e l h =
    let r = before_read IntWidth (counts repeat (fresh items)) outer middle tree rest h in
    wide_read repeat items outer letter middle tree rest e l r.number r.after r.read r.shorter r.c r.middle r.sign r.next r.is_sign r.smaller r.code r.on

logical_read : (repeat : ℕ) (items : Format → Format) (outer : List Frame) (letter middle : List ℕ) (tree : Format) (rest : List ℕ) → seen letter ≡ 76 ∷ middle → length middle < length letter
    → found middle (Going (Outside (Before LogicalWidth)) (counts repeat (fresh items)) outer) ≡ Front tree rest → Described repeat items outer letter tree rest
logical_read repeat items outer letter middle tree rest e l h =
    let r = before_read LogicalWidth (counts repeat (fresh items)) outer middle tree rest h in
    let end = end_read (is_from 1 1024 r.number) (takes (LogicalIn r.number)) (counts repeat (fresh items)) outer r.after r.c r.middle r.sign tree rest r.next r.is_sign r.on in
    record { item' = LogicalIn r.number; after = r.after; read = logical_of_width e r.read end.0; shorter = let a = r.shorter in omega arith; on = end.1 }

text_sign : (repeat : ℕ) (items : Format → Format) (outer : List Frame) (letter middle : List ℕ) (tree : Format) (rest : List ℕ) → seen letter ≡ 65 ∷ middle → length middle < length letter
    → (c : ℕ) (next : List ℕ) (sign : Sign) → seen middle ≡ c ∷ next → upper_sign c ≡ sign → length next < length middle → CodeOf sign c
    → from_state (state_by (behind_a (suc (length outer)) sign) (counts repeat (fresh items)) outer) (λ state. found next state) ≡ Front tree rest
    → Described repeat items outer letter tree rest
text_sign repeat items outer letter middle tree rest e l c next sign f s m (a_digit d) h =
    let r = numeral_read TextWidth (counts repeat (fresh items)) outer middle tree rest c next f d m h in
    let end = end_read (is_from 1 1024 r.number) (takes (TextIn (Some r.number))) (counts repeat (fresh items)) outer r.after r.c r.middle r.sign tree rest r.next r.is_sign r.on in
    record { item' = TextIn (Some r.number); after = r.after; read = text_of_width e r.read end.0; shorter = let a = r.shorter in omega arith; on = end.1 }
text_sign repeat items outer letter middle tree rest e l c next sign f s m _ h =
    let end = end_read true (takes (TextIn None)) (counts repeat (fresh items)) outer middle c next sign tree rest f s h in
    record { item' = TextIn None; after = middle; read = text_whole e; shorter = l; on = end.1 }

text_next : (repeat : ℕ) (items : Format → Format) (outer : List Frame) (letter middle : List ℕ) (tree : Format) (rest : List ℕ) → seen letter ≡ 65 ∷ middle → length middle < length letter
    → Next middle → found middle (Going (Outside BehindA) (counts repeat (fresh items)) outer) ≡ Front tree rest → Described repeat items outer letter tree rest
text_next repeat items outer letter middle tree rest e l (none f) h = absurd (nothing_there middle BehindA (counts repeat (fresh items)) outer tree rest f h)
text_next repeat items outer letter middle tree rest e l (some c next f m) h =
    text_sign repeat items outer letter middle tree rest e l c next (upper_sign c) f refl m (code_of c)
    (along middle BehindA (counts repeat (fresh items)) outer c next tree rest f h)

-- a further edit descriptor that was read
record Controlled (items : Format → Format) (outer : List Frame) (text : List ℕ) (tree : Format) (rest : List ℕ) : Type 0 where
  item' : Control
  after : List ℕ
  read : Controls item' text after
  shorter : length after < length text
  on : found after (Going (Outside (At Behind)) (fresh (λ later. items (Does 1 item' later))) outer) ≡ Front tree rest

-- a text in apostrophes
record QuotedRead (some' : Bool) (made : Made) (outer : List Frame) (text : List ℕ) (tree : Format) (rest : List ℕ) : Type 0 where
  characters : List ℕ
  after : List ℕ
  read : Quoted characters text after
  full : IsTrue (filled some' characters)
  shorter : length after < length text
  on : found after (Going (Outside (At Behind)) (texts made characters) outer) ≡ Front tree rest

again_by : (again some' : Bool) (made : Made) (outer : List Frame) (quote c : ℕ) (cs : List ℕ) (tree : Format) (rest : List ℕ)
    → (found cs (Going (InText true) (keeps 39 made) outer) ≡ Front tree rest → QuotedRead true (keeps 39 made) outer cs tree rest)
    → (quote == 39) ≡ true → (c == 39) ≡ again
    → from_state (state_by (behind_quote again some' (suc (length outer)) c) made outer) (λ state. found cs state) ≡ Front tree rest
    → QuotedRead some' made outer (quote ∷ c ∷ cs) tree rest
again_by true some' made outer quote c cs tree rest ih q a h =
    let r = ih h in
    record { characters = 39 ∷ r.characters; after = r.after; read = doubled q a r.read; full = refl; shorter = let l = r.shorter in omega arith; on = r.on }
again_by false some' made outer quote c cs tree rest ih q a h =
    let parts = allowed_only some' (behind has_text (outside_text (suc (length outer)) (At Behind) c)) made outer cs tree rest h in
    record {
      characters = [];
      after = c ∷ cs;
      read = ends q a;
      full = parts.0;
      shorter = omega arith;
      on = sym (quote_by (c == 32) (to_ascii_uppercase c) c cs made outer) ∙ parts.1;
    }

behind_quote_by : (some' : Bool) (made : Made) (outer : List Frame) (quote : ℕ) (text : List ℕ) (tree : Format) (rest : List ℕ)
    → ((c : ℕ) (cs : List ℕ) → text ≡ c ∷ cs → found cs (Going (InText true) (keeps 39 made) outer) ≡ Front tree rest → QuotedRead true (keeps 39 made) outer cs tree rest)
    → (quote == 39) ≡ true → found text (Going (BehindQuote some') made outer) ≡ Front tree rest → QuotedRead some' made outer (quote ∷ text) tree rest
behind_quote_by some' made outer quote [] tree rest ih q h = absurd (cc)
behind_quote_by some' made outer quote (c ∷ cs) tree rest ih q h = again_by (c == 39) some' made outer quote c cs tree rest (ih c cs refl) q refl h

quoted_by : (is_quote some' : Bool) (made : Made) (outer : List Frame) (c : ℕ) (cs : List ℕ) (tree : Format) (rest : List ℕ)
    → (found cs (Going (InText true) (keeps c made) outer) ≡ Front tree rest → QuotedRead true (keeps c made) outer cs tree rest)
    → (found cs (Going (BehindQuote some') made outer) ≡ Front tree rest → (c == 39) ≡ true → QuotedRead some' made outer (c ∷ cs) tree rest)
    → (c == 39) ≡ is_quote
    → from_state (state_by (in_text is_quote some' c) made outer) (λ state. found cs state) ≡ Front tree rest
    → QuotedRead some' made outer (c ∷ cs) tree rest
quoted_by true some' made outer c cs tree rest ih at_end q h = at_end h q
quoted_by false some' made outer c cs tree rest ih at_end q h =
    let r = ih h in
    record { characters = c ∷ r.characters; after = r.after; read = other q r.read; full = refl; shorter = let l = r.shorter in omega arith; on = r.on }

abbrev ReadsQuoted : ℕ → Type 0
ReadsQuoted fuel = (some' : Bool) (made : Made) (outer : List Frame) (text : List ℕ) (tree : Format) (rest : List ℕ) → length text ≤ fuel
    → found text (Going (InText some') made outer) ≡ Front tree rest → QuotedRead some' made outer text tree rest

quoted_next : (fuel : ℕ) → ReadsQuoted fuel → (some' : Bool) (made : Made) (outer : List Frame) (text : List ℕ) (tree : Format) (rest : List ℕ) → length text ≤ suc fuel
    → found text (Going (InText some') made outer) ≡ Front tree rest → QuotedRead some' made outer text tree rest
quoted_next fuel ih some' made outer [] tree rest f h = absurd (cc)
quoted_next fuel ih some' made outer (c ∷ cs) tree rest f h =
    quoted_by (c == 39) some' made outer c cs tree rest (ih true (keeps c made) outer cs tree rest (omega arith))
    (λ g q. behind_quote_by some' made outer c cs tree rest (λ d ds e. let l : length cs ≡ length (d ∷ ds) = ap length e in ih true (keeps 39 made) outer ds tree rest (omega arith)) q g)
    refl h

quoted_empty : (some' : Bool) (made : Made) (outer : List Frame) (text : List ℕ) (tree : Format) (rest : List ℕ) → length text ≤ 0
    → found text (Going (InText some') made outer) ≡ Front tree rest → QuotedRead some' made outer text tree rest
quoted_empty some' made outer [] tree rest f h = absurd (cc)
quoted_empty some' made outer (c ∷ cs) tree rest f h = absurd (omega arith)

quoted_read : (fuel : ℕ) → ReadsQuoted fuel
quoted_read zero = λ some' made outer text tree rest f h. quoted_empty some' made outer text tree rest f h
quoted_read (suc fuel) = λ some' made outer text tree rest f h. quoted_next fuel (quoted_read fuel) some' made outer text tree rest f h

-- the text of nH
record VerbatimRead (more : ℕ) (made : Made) (outer : List Frame) (text : List ℕ) (tree : Format) (rest : List ℕ) : Type 0 where
  characters : List ℕ
  after : List ℕ
  read : text ≡ characters ++ after
  size : length characters ≡ suc more
  shorter : length after < length text
  on : found after (Going (Outside (At Behind)) (texts made characters) outer) ≡ Front tree rest

verbatim_read : (more : ℕ) (made : Made) (outer : List Frame) (text : List ℕ) (tree : Format) (rest : List ℕ) → found text (Going (Verbatim more) made outer) ≡ Front tree rest
    → VerbatimRead more made outer text tree rest
verbatim_read more made outer [] tree rest h = absurd (cc)
verbatim_read zero made outer (c ∷ cs) tree rest h = record { characters = c ∷ []; after = cs; read = refl; size = refl; shorter = omega arith; on = h }
verbatim_read (suc more) made outer (c ∷ cs) tree rest h =
    let r = verbatim_read more (keeps c made) outer cs tree rest h in
    record {
      characters = c ∷ r.characters;
      after = r.after;
      read = ap (λ z. c ∷ z) r.read;
      size = let e = r.size in omega arith;
      shorter = let l = r.shorter in omega arith;
      on = r.on;
    }

-- an edit descriptor that is not repeatable and ends with a number
numbered : (kind : Kind) (control' : ℕ → Control) (items : Format → Format) (outer : List Frame) (text : List ℕ) (tree : Format) (rest : List ℕ)
    → ((number : ℕ) (sign : Sign) → behind_number (suc (length outer)) kind number sign ≡ ended (is_from 1 1024 number) (does 1 (control' number)) (suc (length outer)) sign)
    → (before : List ℕ) → length text < length before
    → ((number : ℕ) (after : List ℕ) → Number number text after → IsTrue (is_from 1 1024 number) → Controls (control' number) before after)
    → NumeralRead kind (fresh items) outer text tree rest → Controlled items outer before tree rest
numbered kind control' items outer text tree rest shows before l reads r =
    let end = end_read (is_from 1 1024 r.number) (does 1 (control' r.number)) (fresh items) outer r.after r.c r.middle r.sign tree rest r.next r.is_sign
    (ap (λ z. from_state (state_by z (fresh items) outer) (λ state. found r.middle state)) (sym (shows r.number r.sign)) ∙ r.on) in
    record { item' = control' r.number; after = r.after; read = reads r.number r.after r.read end.0; shorter = let a = r.shorter in omega arith; on = end.1 }

t_sign : (items : Format → Format) (outer : List Frame) (before text : List ℕ) (tree : Format) (rest : List ℕ) → seen before ≡ 84 ∷ text → length text < length before
    → (c : ℕ) (middle : List ℕ) (sign : Sign) → seen text ≡ c ∷ middle → length middle < length text → CodeOf sign c
    → from_state (state_by (behind_t sign) (fresh items) outer) (λ state. found middle state) ≡ Front tree rest → Controlled items outer before tree rest
t_sign items outer before text tree rest e l c middle sign f m (a_digit d) h =
    numbered Column ToColumn items outer text tree rest (λ number sign. refl) before l (λ number after n b. to_column e n b)
    (numeral_read Column (fresh items) outer text tree rest c middle f d m h)
t_sign items outer before text tree rest e l c middle sign f m (letter_l p) h =
    numbered Left LeftBy items outer middle tree rest (λ number sign. refl) before (omega arith) (λ number after n b. left_by e (f ∙ ap (λ z. z ∷ middle) p) n b)
    (before_read Left (fresh items) outer middle tree rest h)
t_sign items outer before text tree rest e l c middle sign f m (letter_r p) h =
    numbered Right RightBy items outer middle tree rest (λ number sign. refl) before (omega arith) (λ number after n b. right_by e (f ∙ ap (λ z. z ∷ middle) p) n b)
    (before_read Right (fresh items) outer middle tree rest h)
t_sign items outer before text tree rest e l c middle sign f m _ h = absurd (cc)

t_next : (items : Format → Format) (outer : List Frame) (before text : List ℕ) (tree : Format) (rest : List ℕ) → seen before ≡ 84 ∷ text → length text < length before
    → Next text → found text (Going (Outside BehindT) (fresh items) outer) ≡ Front tree rest → Controlled items outer before tree rest
t_next items outer before text tree rest e l (none f) h = absurd (nothing_there text BehindT (fresh items) outer tree rest f h)
t_next items outer before text tree rest e l (some c middle f m) h =
    t_sign items outer before text tree rest e l c middle (upper_sign c) f m (code_of c) (along text BehindT (fresh items) outer c middle tree rest f h)

s_sign : (items : Format → Format) (outer : List Frame) (before text : List ℕ) (tree : Format) (rest : List ℕ) → seen before ≡ 83 ∷ text → length text < length before
    → (c : ℕ) (middle : List ℕ) (sign : Sign) → seen text ≡ c ∷ middle → upper_sign c ≡ sign → length middle < length text → CodeOf sign c
    → from_state (state_by (behind_s (suc (length outer)) sign) (fresh items) outer) (λ state. found middle state) ≡ Front tree rest → Controlled items outer before tree rest
s_sign items outer before text tree rest e l c middle sign f s m (letter_s p) h =
    record { item' = PlusSigns false; after = middle; read = plus_suppressed e (f ∙ ap (λ z. z ∷ middle) p); shorter = omega arith; on = h }
s_sign items outer before text tree rest e l c middle sign f s m (letter_p p) h =
    record { item' = PlusSigns true; after = middle; read = plus_produced e (f ∙ ap (λ z. z ∷ middle) p); shorter = omega arith; on = h }
s_sign items outer before text tree rest e l c middle sign f s m _ h =
    let end = end_read true (does 1 (PlusSigns false)) (fresh items) outer text c middle sign tree rest f s h in
    record { item' = PlusSigns false; after = text; read = plus_as_ever e; shorter = l; on = end.1 }

s_next : (items : Format → Format) (outer : List Frame) (before text : List ℕ) (tree : Format) (rest : List ℕ) → seen before ≡ 83 ∷ text → length text < length before
    → Next text → found text (Going (Outside BehindS) (fresh items) outer) ≡ Front tree rest → Controlled items outer before tree rest
s_next items outer before text tree rest e l (none f) h = absurd (nothing_there text BehindS (fresh items) outer tree rest f h)
s_next items outer before text tree rest e l (some c middle f m) h =
    s_sign items outer before text tree rest e l c middle (upper_sign c) f refl m (code_of c) (along text BehindS (fresh items) outer c middle tree rest f h)

b_sign : (items : Format → Format) (outer : List Frame) (before text : List ℕ) (tree : Format) (rest : List ℕ) → seen before ≡ 66 ∷ text → length text < length before
    → (c : ℕ) (middle : List ℕ) (sign : Sign) → seen text ≡ c ∷ middle → length middle < length text → CodeOf sign c
    → from_state (state_by (behind_b sign) (fresh items) outer) (λ state. found middle state) ≡ Front tree rest → Controlled items outer before tree rest
b_sign items outer before text tree rest e l c middle sign f m (letter_n p) h =
    record { item' = ZeroBlanks false; after = middle; read = blanks_null e (f ∙ ap (λ z. z ∷ middle) p); shorter = omega arith; on = h }
b_sign items outer before text tree rest e l c middle sign f m (letter_z p) h =
    record { item' = ZeroBlanks true; after = middle; read = blanks_zero e (f ∙ ap (λ z. z ∷ middle) p); shorter = omega arith; on = h }
b_sign items outer before text tree rest e l c middle sign f m _ h = absurd (cc)

b_next : (items : Format → Format) (outer : List Frame) (before text : List ℕ) (tree : Format) (rest : List ℕ) → seen before ≡ 66 ∷ text → length text < length before
    → Next text → found text (Going (Outside BehindB) (fresh items) outer) ≡ Front tree rest → Controlled items outer before tree rest
b_next items outer before text tree rest e l (none f) h = absurd (nothing_there text BehindB (fresh items) outer tree rest f h)
b_next items outer before text tree rest e l (some c middle f m) h =
    b_sign items outer before text tree rest e l c middle (upper_sign c) f m (code_of c) (along text BehindB (fresh items) outer c middle tree rest f h)

apostrophes_by : (items : Format → Format) (outer : List Frame) (before text : List ℕ) (tree : Format) (rest : List ℕ) → seen before ≡ 39 ∷ text → length text < length before
    → (characters after : List ℕ) → Quoted characters text after → IsTrue (filled false characters) → length after < length text
    → found after (Going (Outside (At Behind)) (texts (fresh items) characters) outer) ≡ Front tree rest → Controlled items outer before tree rest
apostrophes_by items outer before text tree rest e l [] after q u m h = absurd (cc)
apostrophes_by items outer before text tree rest e l (c ∷ cs) after q u m h =
    record { item' = Literal (c ∷ cs); after = after; read = in_apostrophes e q; shorter = omega arith; on = h }

apostrophes_read : (items : Format → Format) (outer : List Frame) (before text : List ℕ) (tree : Format) (rest : List ℕ) → seen before ≡ 39 ∷ text → length text < length before
    → found text (Going (InText false) (fresh items) outer) ≡ Front tree rest → Controlled items outer before tree rest
apostrophes_read items outer before text tree rest e l h =
    let r = quoted_read (length text) false (fresh items) outer text tree rest (omega arith) h in
    apostrophes_by items outer before text tree rest e l r.characters r.after r.read r.full r.shorter r.on

hollerith_read : (number : ℕ) (items : Format → Format) (outer : List Frame) (before letter text : List ℕ) (tree : Format) (rest : List ℕ) → Number number before letter → length letter < length before
    → IsTrue (is_from 1 1024 number) → seen letter ≡ 72 ∷ text → length text < length letter
    → from_state (state_by (in_text_of number) (fresh items) outer) (λ state. found text state) ≡ Front tree rest → Controlled items outer before tree rest
hollerith_read zero items outer before letter text tree rest n l b e m h = absurd (cc)
hollerith_read (suc more) items outer before letter text tree rest n l b e m h =
    let r = verbatim_read more (fresh items) outer text tree rest h in
    record { item' = Literal r.characters; after = r.after; read = hollerith n b e r.read r.size; shorter = let s = r.shorter in omega arith; on = r.on }

-- the rest of a list that was read
record Listed (joint : Joint) (items : Format → Format) (outer : List Frame) (text : List ℕ) (tree : Format) (rest : List ℕ) : Type 0 where
  list : Format
  after : List ℕ
  read : SpellsList (suc (length outer)) joint list text after
  shorter : length after < length text
  on : found after (closed (items list) outer) ≡ Front tree rest

abbrev ReadsLists : ℕ → Type 0
ReadsLists fuel = (joint : Joint) (items : Format → Format) (outer : List Frame) (text : List ℕ) (tree : Format) (rest : List ℕ) → length text ≤ fuel
    → found text (Going (Outside (At joint)) (fresh items) outer) ≡ Front tree rest → Listed joint items outer text tree rest

described_list : (fuel : ℕ) → ReadsLists fuel → (repeat : ℕ) (joint : Joint) (items : Format → Format) (outer : List Frame) (text letter : List ℕ) (tree : Format) (rest : List ℕ)
    → IsTrue (takes_item joint) → Repeat repeat text letter → length letter ≤ length text → length text ≤ suc fuel
    → Described repeat items outer letter tree rest → Listed joint items outer text tree rest
described_list fuel ih repeat joint items outer text letter tree rest t r l f d =
    let s = d.shorter in
    let later = ih Behind (λ more. items (Takes repeat d.item' more)) outer d.after tree rest (omega arith) d.on in
    record {
      list = Takes repeat d.item' later.list;
      after = later.after;
      read = descriptor t r d.read later.read;
      shorter = let a = later.shorter in omega arith;
      on = later.on;
    }

controlled_list : (fuel : ℕ) → ReadsLists fuel → (joint : Joint) (items : Format → Format) (outer : List Frame) (text : List ℕ) (tree : Format) (rest : List ℕ)
    → IsTrue (takes_item joint) → length text ≤ suc fuel → Controlled items outer text tree rest → Listed joint items outer text tree rest
controlled_list fuel ih joint items outer text tree rest t f d =
    let s = d.shorter in
    let later = ih Behind (λ more. items (Does 1 d.item' more)) outer d.after tree rest (omega arith) d.on in
    record { list = Does 1 d.item' later.list; after = later.after; read = control t d.read later.read; shorter = let a = later.shorter in omega arith; on = later.on }

group_list : (fuel : ℕ) → ReadsLists fuel → (repeat : ℕ) (joint : Joint) (items : Format → Format) (outer : List Frame) (text parenthesis inside : List ℕ) (tree : Format) (rest : List ℕ)
    → IsTrue (takes_item joint) → Repeat repeat text parenthesis → length parenthesis ≤ length text → length text ≤ suc fuel
    → seen parenthesis ≡ 40 ∷ inside → length inside < length parenthesis
    → from_state (state_by (opens (suc (length outer)) repeat) (fresh items) outer) (λ state. found inside state) ≡ Front tree rest
    → Listed joint items outer text tree rest
group_list fuel ih repeat joint items outer text parenthesis inside tree rest t r l f e m h =
    let parts = allowed_only (nat_lt (suc (length outer)) 20) (Opens repeat) (fresh items) outer inside tree rest h in
    let inner = ih Wanted (λ more. more) (record { repeat = repeat; before = items } ∷ outer) inside tree rest (omega arith) parts.1 in
    let s = inner.shorter in
    let later = ih Behind (λ more. items (Group repeat inner.list more)) outer inner.after tree rest (omega arith) inner.on in
    record {
      list = Group repeat inner.list later.list;
      after = later.after;
      read = group t r e (below (suc (length outer)) 20 parts.0) inner.read later.read;
      shorter = let a = later.shorter in omega arith;
      on = later.on;
    }
  where
    below : (a b : ℕ) → IsTrue (nat_lt a b) → a < b
    below a b h = grind (arith, nat_tests)

scaled_list : (fuel : ℕ) → ReadsLists fuel → (joint : Joint) (items : Format → Format) (outer : List Frame) (text after : List ℕ) (tree : Format) (rest : List ℕ)
    → IsTrue (takes_item joint) → length text ≤ suc fuel → Scales text after → length after < length text
    → found after (Going (Outside (At Free)) (fresh items) outer) ≡ Front tree rest → Listed joint items outer text tree rest
scaled_list fuel ih joint items outer text after tree rest t f s l h =
    let later = ih Free items outer after tree rest (omega arith) h in
    record { list = later.list; after = later.after; read = scale t s later.read; shorter = let a = later.shorter in omega arith; on = later.on }

-- behind a number in front of an item
counted_list : (fuel : ℕ) → ReadsLists fuel → (joint : Joint) (items : Format → Format) (outer : List Frame) (text : List ℕ) (tree : Format) (rest : List ℕ) → IsTrue (takes_item joint)
    → length text ≤ suc fuel → (number : ℕ) (after : List ℕ) → Number number text after → length after < length text
    → (c : ℕ) (middle : List ℕ) (sign : Sign) → seen after ≡ c ∷ middle → length middle < length after → CodeOf sign c
    → from_state (state_by (counted (suc (length outer)) number sign) (fresh items) outer) (λ state. found middle state) ≡ Front tree rest
    → Listed joint items outer text tree rest
counted_list fuel ih joint items outer text tree rest t f number after n l c middle sign e m (left_paren p) h =
    let parts = allowed_only (is_from 1 32767 number) (opens (suc (length outer)) number) (fresh items) outer middle tree rest h in
    group_list fuel ih number joint items outer text after middle tree rest t (times n parts.0) (omega arith) f (e ∙ ap (λ z. z ∷ middle) p) m parts.1
counted_list fuel ih joint items outer text tree rest t f number after n l c middle sign e m (a_slash p) h =
    let parts = allowed_only (is_from 1 32767 number) (To (Outside (At Free)) (does number NextRecord)) (fresh items) outer middle tree rest h in
    let later = ih Free (λ more. items (Does number NextRecord more)) outer middle tree rest (omega arith) parts.1 in
    record {
      list = Does number NextRecord later.list;
      after = later.after;
      read = slashes t n parts.0 (e ∙ ap (λ z. z ∷ middle) p) later.read;
      shorter = let a = later.shorter in omega arith;
      on = later.on;
    }
counted_list fuel ih joint items outer text tree rest t f number after n l c middle sign e m (letter_a p) h =
    let parts = allowed_only (is_from 1 32767 number) (To (Outside BehindA) (counts number)) (fresh items) outer middle tree rest h in
    described_list fuel ih number joint items outer text after tree rest t (times n parts.0) (omega arith) f
    (text_next number items outer after middle tree rest (e ∙ ap (λ z. z ∷ middle) p) m (next_of middle) parts.1)
counted_list fuel ih joint items outer text tree rest t f number after n l c middle sign e m (letter_i p) h =
    let parts = allowed_only (is_from 1 32767 number) (To (Outside (Before IntWidth)) (counts number)) (fresh items) outer middle tree rest h in
    described_list fuel ih number joint items outer text after tree rest t (times n parts.0) (omega arith) f
    (int_read number items outer after middle tree rest (e ∙ ap (λ z. z ∷ middle) p) m parts.1)
counted_list fuel ih joint items outer text tree rest t f number after n l c middle sign e m (letter_l p) h =
    let parts = allowed_only (is_from 1 32767 number) (To (Outside (Before LogicalWidth)) (counts number)) (fresh items) outer middle tree rest h in
    described_list fuel ih number joint items outer text after tree rest t (times n parts.0) (omega arith) f
    (logical_read number items outer after middle tree rest (e ∙ ap (λ z. z ∷ middle) p) m parts.1)
counted_list fuel ih joint items outer text tree rest t f number after n l c middle sign e m (letter_h p) h =
    let parts = allowed_only (is_from 1 1024 number) (in_text_of number) (fresh items) outer middle tree rest h in
    controlled_list fuel ih joint items outer text tree rest t f
    (hollerith_read number items outer text after middle tree rest n l parts.0 (e ∙ ap (λ z. z ∷ middle) p) m parts.1)
counted_list fuel ih joint items outer text tree rest t f number after n l c middle sign e m (letter_x p) h =
    let parts = allowed_only (is_from 1 1024 number) (To (Outside (At Behind)) (does 1 (RightBy number))) (fresh items) outer middle tree rest h in
    controlled_list fuel ih joint items outer text tree rest t f
    (record { item' = RightBy number; after = middle; read = skip n parts.0 (e ∙ ap (λ z. z ∷ middle) p); shorter = omega arith; on = parts.1 })
counted_list fuel ih joint items outer text tree rest t f number after n l c middle sign e m (letter_p p) h =
    let parts = allowed_only (nat_le number 127) (To (Outside (At Free)) same) (fresh items) outer middle tree rest h in
    scaled_list fuel ih joint items outer text middle tree rest t f (unsigned n parts.0 (e ∙ ap (λ z. z ∷ middle) p)) (omega arith) parts.1
counted_list fuel ih joint items outer text tree rest t f number after n l c middle sign e m _ h = absurd (cc)

signed_list : (fuel : ℕ) → ReadsLists fuel → (joint : Joint) (items : Format → Format) (outer : List Frame) (text digit : List ℕ) (tree : Format) (rest : List ℕ) → IsTrue (takes_item joint)
    → length text ≤ suc fuel → (c : ℕ) → seen text ≡ c ∷ digit → IsTrue (c == 43 || c == 45) → length digit < length text
    → (number : ℕ) (after : List ℕ) → Number number digit after → length after < length digit
    → (d : ℕ) (middle : List ℕ) (sign : Sign) → seen after ≡ d ∷ middle → length middle < length after → CodeOf sign d
    → from_state (state_by (scaled number sign) (fresh items) outer) (λ state. found middle state) ≡ Front tree rest
    → Listed joint items outer text tree rest
signed_list fuel ih joint items outer text digit tree rest t f c e s l number after n k d middle sign g m (letter_p p) h =
    let parts = allowed_only (nat_le number 127) (To (Outside (At Free)) same) (fresh items) outer middle tree rest h in
    scaled_list fuel ih joint items outer text middle tree rest t f (signed e s n parts.0 (g ∙ ap (λ z. z ∷ middle) p)) (omega arith) parts.1
signed_list fuel ih joint items outer text digit tree rest t f c e s l number after n k d middle sign g m _ h = absurd (cc)

list_sign : (fuel : ℕ) → ReadsLists fuel → (joint : Joint) (items : Format → Format) (outer : List Frame) (text : List ℕ) (tree : Format) (rest : List ℕ) → length text ≤ suc fuel
    → (c : ℕ) (middle : List ℕ) (sign : Sign) → seen text ≡ c ∷ middle → length middle < length text → CodeOf sign c
    → from_state (state_by (between (suc (length outer)) joint sign) (fresh items) outer) (λ state. found middle state) ≡ Front tree rest
    → Listed joint items outer text tree rest
list_sign fuel ih joint items outer text tree rest f c middle sign e l (right_paren p) h =
    let parts = allowed_only (may_close joint) (Closes same) (fresh items) outer middle tree rest h in
    record { list = Empty; after = middle; read = right_parenthesis parts.0 (e ∙ ap (λ z. z ∷ middle) p); shorter = l; on = parts.1 }
list_sign fuel ih joint items outer text tree rest f c middle sign e l (a_comma p) h =
    let parts = allowed_only (takes_comma joint) (To (Outside (At Wanted)) same) (fresh items) outer middle tree rest h in
    let later = ih Wanted items outer middle tree rest (omega arith) parts.1 in
    record { list = later.list; after = later.after; read = comma parts.0 (e ∙ ap (λ z. z ∷ middle) p) later.read; shorter = let a = later.shorter in omega arith; on = later.on }
list_sign fuel ih joint items outer text tree rest f c middle sign e l (a_slash p) h =
    let later = ih Free (λ more. items (Does 1 NextRecord more)) outer middle tree rest (omega arith) h in
    record { list = Does 1 NextRecord later.list; after = later.after; read = slash (e ∙ ap (λ z. z ∷ middle) p) later.read; shorter = let a = later.shorter in omega arith; on = later.on }
list_sign fuel ih joint items outer text tree rest f c middle sign e l (a_colon p) h =
    let later = ih Free (λ more. items (Colon more)) outer middle tree rest (omega arith) h in
    record { list = Colon later.list; after = later.after; read = colon (e ∙ ap (λ z. z ∷ middle) p) later.read; shorter = let a = later.shorter in omega arith; on = later.on }
list_sign fuel ih joint items outer text tree rest f c middle sign e l (left_paren p) h =
    let parts = allowed_only (takes_item joint) (opens (suc (length outer)) 1) (fresh items) outer middle tree rest h in
    group_list fuel ih 1 joint items outer text text middle tree rest parts.0 once (omega arith) f (e ∙ ap (λ z. z ∷ middle) p) l parts.1
list_sign fuel ih joint items outer text tree rest f c middle sign e l (a_quote p) h =
    let parts = allowed_only (takes_item joint) (To (InText false) same) (fresh items) outer middle tree rest h in
    controlled_list fuel ih joint items outer text tree rest parts.0 f (apostrophes_read items outer text middle tree rest (e ∙ ap (λ z. z ∷ middle) p) l parts.1)
list_sign fuel ih joint items outer text tree rest f c middle sign e l (plus_minus s) h =
    let parts = allowed_only (takes_item joint) (To (Outside (Before Signed)) same) (fresh items) outer middle tree rest h in
    let r = before_read Signed (fresh items) outer middle tree rest parts.1 in
    signed_list fuel ih joint items outer text middle tree rest parts.0 f c e s l r.number r.after r.read r.shorter r.c r.middle r.sign r.next r.smaller r.code r.on
list_sign fuel ih joint items outer text tree rest f c middle sign e l (a_digit d) h =
    let parts = allowed_only (takes_item joint) (in_number Count (c - 48)) (fresh items) outer middle tree rest h in
    let r = numeral_read Count (fresh items) outer text tree rest c middle e d l parts.1 in
    counted_list fuel ih joint items outer text tree rest parts.0 f r.number r.after r.read r.shorter r.c r.middle r.sign r.next r.smaller r.code r.on
list_sign fuel ih joint items outer text tree rest f c middle sign e l (letter_a p) h =
    let parts = allowed_only (takes_item joint) (To (Outside BehindA) same) (fresh items) outer middle tree rest h in
    described_list fuel ih 1 joint items outer text text tree rest parts.0 once (omega arith) f
    (text_next 1 items outer text middle tree rest (e ∙ ap (λ z. z ∷ middle) p) l (next_of middle) parts.1)
list_sign fuel ih joint items outer text tree rest f c middle sign e l (letter_b p) h =
    let parts = allowed_only (takes_item joint) (To (Outside BehindB) same) (fresh items) outer middle tree rest h in
    controlled_list fuel ih joint items outer text tree rest parts.0 f (b_next items outer text middle tree rest (e ∙ ap (λ z. z ∷ middle) p) l (next_of middle) parts.1)
list_sign fuel ih joint items outer text tree rest f c middle sign e l (letter_i p) h =
    let parts = allowed_only (takes_item joint) (To (Outside (Before IntWidth)) same) (fresh items) outer middle tree rest h in
    described_list fuel ih 1 joint items outer text text tree rest parts.0 once (omega arith) f
    (int_read 1 items outer text middle tree rest (e ∙ ap (λ z. z ∷ middle) p) l parts.1)
list_sign fuel ih joint items outer text tree rest f c middle sign e l (letter_l p) h =
    let parts = allowed_only (takes_item joint) (To (Outside (Before LogicalWidth)) same) (fresh items) outer middle tree rest h in
    described_list fuel ih 1 joint items outer text text tree rest parts.0 once (omega arith) f
    (logical_read 1 items outer text middle tree rest (e ∙ ap (λ z. z ∷ middle) p) l parts.1)
list_sign fuel ih joint items outer text tree rest f c middle sign e l (letter_s p) h =
    let parts = allowed_only (takes_item joint) (To (Outside BehindS) same) (fresh items) outer middle tree rest h in
    controlled_list fuel ih joint items outer text tree rest parts.0 f (s_next items outer text middle tree rest (e ∙ ap (λ z. z ∷ middle) p) l (next_of middle) parts.1)
list_sign fuel ih joint items outer text tree rest f c middle sign e l (letter_t p) h =
    let parts = allowed_only (takes_item joint) (To (Outside BehindT) same) (fresh items) outer middle tree rest h in
    controlled_list fuel ih joint items outer text tree rest parts.0 f (t_next items outer text middle tree rest (e ∙ ap (λ z. z ∷ middle) p) l (next_of middle) parts.1)
list_sign fuel ih joint items outer text tree rest f c middle sign e l _ h =
    let parts = allowed_only (takes_item joint) Refused (fresh items) outer middle tree rest h in
    let never : Nothing ≡ Front tree rest = parts.1 in
    absurd (cc)

list_next : (fuel : ℕ) → ReadsLists fuel → (joint : Joint) (items : Format → Format) (outer : List Frame) (text : List ℕ) (tree : Format) (rest : List ℕ) → length text ≤ suc fuel → Next text
    → found text (Going (Outside (At joint)) (fresh items) outer) ≡ Front tree rest → Listed joint items outer text tree rest
list_next fuel ih joint items outer text tree rest f (none e) h = absurd (nothing_there text (At joint) (fresh items) outer tree rest e h)
list_next fuel ih joint items outer text tree rest f (some c middle e l) h =
    list_sign fuel ih joint items outer text tree rest f c middle (upper_sign c) e l (code_of c) (along text (At joint) (fresh items) outer c middle tree rest e h)

list_empty : (joint : Joint) (items : Format → Format) (outer : List Frame) (text : List ℕ) (tree : Format) (rest : List ℕ) → length text ≤ 0
    → found text (Going (Outside (At joint)) (fresh items) outer) ≡ Front tree rest → Listed joint items outer text tree rest
list_empty joint items outer [] tree rest f h = absurd (cc)
list_empty joint items outer (c ∷ cs) tree rest f h = absurd (omega arith)

list_read : (fuel : ℕ) → ReadsLists fuel
list_read zero = λ joint items outer text tree rest f h. list_empty joint items outer text tree rest f h
list_read (suc fuel) = λ joint items outer text tree rest f h. list_next fuel (list_read fuel) joint items outer text tree rest f (next_of text) h

spells_by : (list tree : Format) (before middle after rest : List ℕ) → seen before ≡ 40 ∷ middle → SpellsList 1 Opened list middle after → Front list after ≡ Front tree rest
    → SpellsFormat tree before rest
spells_by list tree before middle after rest e s h =
    let a : list ≡ tree = cc in
    let b : after ≡ rest = cc in
    let P : Format → Type 0 = λ z. SpellsFormat z before rest in
    let Q : List ℕ → Type 0 = λ z. SpellsFormat list before z in
    subst P a (subst Q b (left_parenthesis e s))

format_sign : (text : List ℕ) (tree : Format) (rest : List ℕ) (c : ℕ) (middle : List ℕ) (sign : Sign) → seen text ≡ c ∷ middle → CodeOf sign c
    → from_state (state_by (outside 1 Start sign) (fresh (λ later. later)) []) (λ state. found middle state) ≡ Front tree rest → SpellsFormat tree text rest
format_sign text tree rest c middle sign e (left_paren p) h =
    let r = list_read (length middle) Opened (λ later. later) [] middle tree rest (omega arith) h in
    spells_by r.list tree text middle r.after rest (e ∙ ap (λ z. z ∷ middle) p) r.read (sym (found_done r.after r.list) ∙ r.on)
format_sign text tree rest c middle sign e _ h = absurd (cc)

format_next : (text : List ℕ) (tree : Format) (rest : List ℕ) → Next text → found text starting ≡ Front tree rest → SpellsFormat tree text rest
format_next text tree rest (none e) h = absurd (nothing_there text Start (fresh (λ later. later)) [] tree rest e h)
format_next text tree rest (some c middle e l) h =
    format_sign text tree rest c middle (upper_sign c) e (code_of c) (along text Start (fresh (λ later. later)) [] c middle tree rest e h)

-- what is found at the front of a text spells it
pub format_found : (text : List ℕ) (tree : Format) (rest : List ℕ) → found text starting ≡ Front tree rest → SpellsFormat tree text rest
format_found text tree rest h = format_next text tree rest (next_of text) h
