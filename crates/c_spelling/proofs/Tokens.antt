-- How a C text reads as tokens, part by part, whatever stands behind the part (C89, 3.1).
use Rattle.std.specs.Prelude.{◌≡◌, ℕ, zero, suc, ◌+◌, ◌<◌, ◌≤◌, ◌/◌, ◌%◌, ◌^◌, Bool, true, false, not, ◌&&◌, ◌||◌, nat_eq, nat_le, List, [], ◌∷◌, ◌++◌, codes, decimal, length, drop, Option, Some}
use Rattle.std.specs.Char.{is_ascii_digit}
use Rattle.std.specs.List.{list_all}
use Rattle.std.specs.Str.Parse.{digits_value}
use Rattle.std.proofs.Common.{refl, ap, sym, ◌∙◌, subst, append_assoc}
use Rattle.std.proofs.lemmas.Bool.Decides.{nat_tests}
use Rattle.std.proofs.lemmas.Fmt.{decimal_by_steps, decimal_is_IsNumeral}
use native.Mathlib.Omega.{arith}
use Rattle.c_laws.specs.c_tree.declared.expression.BinaryOp.{BinaryOp}
use Rattle.c_laws.specs.c_tree.declared.expression.BinaryOp.TheVariants as op
use Rattle.c_laws.specs.c_tree.Tokens.{Token, Word, Digits, Quoted, Sign, Cut, longer_if, to_comment_end, Head, comment_head, begins_sign, is_sign, begins_with, is_letter, is_word_byte, is_space, is_short, is_number, Gap, Lexeme, begins_comment, head_of, line_feeds, still_alone, Placed, AreTokens, no_more, behind_a_gap, one_more}
use Rattle.c_laws.specs.c_tree.CWords.{words, is_name, is_among, infix_sign}
use Rattle.c_laws.specs.c_tree.CText.{kinds}
use Rattle.c_text.specs.Operators.{op_word}
use Rattle.c_text.specs.Printed.{indent}
use Rattle.c_laws.proofs.TokenSpellings.{and-first, and-second, word_reads, number_reads, space_reads, sign_reads, long_sign_reads, head-of-sign, sign_by}

-- ## Texts that read as tokens

-- tokens of a text from a line on, of the kinds that are given
pub record PlacedAs (line : ℕ) (alone : Bool) (text : List ℕ) (tokens : List Token) : Type 0 where
  pub placed : List Placed
  pub are : AreTokens line alone text placed
  pub kinds_of : kinds placed ≡ tokens

-- a text reads as tokens, on whatever line it begins
pub record ReadsAs (text : List ℕ) (tokens : List Token) : Type 0 where
  pub from : (line : ℕ) (alone : Bool) → PlacedAs line alone text tokens

-- the end of a text is no token
pub at_the_end : ReadsAs [] []
at_the_end = record { from = λ line alone. record { placed = []; are = no_more line alone [] refl; kinds_of = refl } }

-- a text in another grouping
pub inside : (a b c : List ℕ) {tokens : List Token} → ReadsAs (a ++ (b ++ c)) tokens → ReadsAs ((a ++ b) ++ c) tokens
inside a b c {tokens = tokens} more = subst (λ text. ReadsAs text tokens) (sym (append_assoc a b c)) more

-- the same text by an equation
pub in_words : {a b : List ℕ} {tokens : List Token} → a ≡ b → ReadsAs b tokens → ReadsAs a tokens
in_words {tokens = tokens} same more = subst (λ text. ReadsAs text tokens) (sym same) more

-- a part that a production spells, before a byte that goes not on with its last word
pub record Piece (text : List ℕ) (Spells : List Token → List Token → Type 0) : Type 0 where
  pub tokens : List Token → List Token
  pub reads : (first : ℕ) (rest : List ℕ) (more : List Token) → is_word_byte first ≡ false → ReadsAs (first ∷ rest) more → ReadsAs (text ++ first ∷ rest) (tokens more)
  pub spells : (more : List Token) → Spells (tokens more) more

-- a part with its end, before anything
pub record Whole (text : List ℕ) (Spells : List Token → List Token → Type 0) : Type 0 where
  pub tokens : List Token → List Token
  pub reads : (rest : List ℕ) (more : List Token) → ReadsAs rest more → ReadsAs (text ++ rest) (tokens more)
  pub spells : (more : List Token) → Spells (tokens more) more

-- ## White space and comments

pub space : (byte : ℕ) {rest : List ℕ} {tokens : List Token} → is_space byte ≡ true → ReadsAs rest tokens → ReadsAs (byte ∷ rest) tokens
space byte {rest = rest} {tokens = tokens} is more = record {
  from = λ line alone.
      let next : PlacedAs (line + line_feeds (byte ∷ [])) (still_alone alone (byte ∷ [])) rest tokens = more.from (line + line_feeds (byte ∷ [])) (still_alone alone (byte ∷ [])) in
      record { placed = next.placed; are = space_reads line alone byte rest next.placed is next.are; kinds_of = next.kinds_of };
}

pub blank : {rest : List ℕ} {tokens : List Token} → ReadsAs rest tokens → ReadsAs (32 ∷ rest) tokens
blank more = space 32 refl more

pub line_feed : {rest : List ℕ} {tokens : List Token} → ReadsAs rest tokens → ReadsAs (10 ∷ rest) tokens
line_feed more = space 10 refl more

pub four_blanks : {rest : List ℕ} {tokens : List Token} → ReadsAs rest tokens → ReadsAs (32 ∷ 32 ∷ 32 ∷ 32 ∷ rest) tokens
four_blanks more = blank (blank (blank (blank more)))

-- the blanks before a line
pub indented : (depth : ℕ) {rest : List ℕ} {tokens : List Token} → ReadsAs rest tokens → ReadsAs (indent depth ++ rest) tokens
unfolding indent
indented zero more = more
indented (suc depth) {rest = rest} more = inside (indent depth) (codes "    ") rest (indented depth (four_blanks more))

-- a comment before anything
pub comment : (front : List ℕ) {rest : List ℕ} {tokens : List Token} → head_of true (front ++ rest) ≡ Gap front rest → head_of false (front ++ rest) ≡ Gap front rest → ReadsAs rest tokens → ReadsAs (front ++ rest) tokens
comment front {rest = rest} {tokens = tokens} one other more = record {
  from = λ line alone. record {
    placed = (next line alone).placed;
    are = behind_a_gap line alone (front ++ rest) front rest (next line alone).placed (either alone) (next line alone).are;
    kinds_of = (next line alone).kinds_of;
  };
}
  where
    next : (line : ℕ) (alone : Bool) → PlacedAs (line + line_feeds front) (still_alone alone front) rest tokens
    next line alone = more.from (line + line_feeds front) (still_alone alone front)

    either : (alone : Bool) → head_of alone (front ++ rest) ≡ Gap front rest
    either true = one
    either false = other

-- a comment that holds a word
no_star : (byte : ℕ) → is_word_byte byte ≡ true → nat_eq byte 42 ≡ false
no_star byte is = grind (arith, nat_tests)

abbrev ending_by : Bool → ℕ → List ℕ → Option Cut → Option Cut
ending_by star first later behind = elim star [ true ↦ Some (record { front = codes "*/"; rest = drop 1 later }) | false ↦ longer_if first behind ]

word_to_end : (name rest : List ℕ) → list_all is_word_byte name ≡ true → to_comment_end (name ++ (codes " */" ++ rest)) ≡ Some (record { front = name ++ codes " */"; rest = rest })
word_to_end [] rest all = refl
word_to_end (first ∷ later) rest all =
    ap (λ z. ending_by (z && begins_with (nat_eq 47) (later ++ (codes " */" ++ rest))) first (later ++ (codes " */" ++ rest)) (to_comment_end (later ++ (codes " */" ++ rest))))
    (no_star first (and-first (is_word_byte first) (list_all is_word_byte later) all))
    ∙ ap (λ z. longer_if first z) (word_to_end later rest (and-second (is_word_byte first) (list_all is_word_byte later) all))

abbrev gap_by : Option Cut → List ℕ → Head
gap_by cut later = comment_head later (longer_if 47 (longer_if 42 (longer_if 32 cut)))

pub word_comment : (name : List ℕ) {rest : List ℕ} {tokens : List Token} → list_all is_word_byte name ≡ true → ReadsAs rest tokens → ReadsAs (codes "/* " ++ (name ++ (codes " */" ++ rest))) tokens
word_comment name {rest = rest} {tokens = tokens} all more =
    in_words (ap (λ z. codes "/* " ++ z) (sym (append_assoc name (codes " */") rest)))
    (comment (codes "/* " ++ (name ++ codes " */")) (head true) (head false) more)
  where
    same : (name ++ codes " */") ++ rest ≡ name ++ (codes " */" ++ rest)
    same = append_assoc name (codes " */") rest

    ends : to_comment_end ((name ++ codes " */") ++ rest) ≡ Some (record { front = name ++ codes " */"; rest = rest })
    ends = ap to_comment_end same ∙ word_to_end name rest all

    head : (alone : Bool) → head_of alone (codes "/* " ++ ((name ++ codes " */") ++ rest)) ≡ Gap (codes "/* " ++ (name ++ codes " */")) rest
    head true = ap (λ z. gap_by z (42 ∷ 32 ∷ ((name ++ codes " */") ++ rest))) ends
    head false = ap (λ z. gap_by z (42 ∷ 32 ∷ ((name ++ codes " */") ++ rest))) ends

-- ## Words

-- a word before what goes not on with it
pub word : (text : List ℕ) {rest : List ℕ} {tokens : List Token} → begins_with is_letter text ≡ true → list_all is_word_byte text ≡ true → begins_with is_word_byte rest ≡ false →
    ReadsAs rest tokens → ReadsAs (text ++ rest) (Word text ∷ tokens)
word text {rest = rest} {tokens = tokens} letter bytes clear more = record {
  from = λ line alone.
      let next : PlacedAs line false rest tokens = more.from line false in
      record {
        placed = record { token = Word text; line = line } ∷ next.placed;
        are = word_reads line alone text rest next.placed letter bytes clear next.are;
        kinds_of = ap (λ ts. Word text ∷ ts) next.kinds_of;
      };
}

-- a text that reads as a word
pub record IsWord (name : List ℕ) : Type 0 where
  pub letter : begins_with is_letter name ≡ true
  pub bytes : list_all is_word_byte name ≡ true

pub name_word : (name : List ℕ) → is_name name ≡ true → IsWord name
name_word name is =
    let later : (list_all is_word_byte name && not (is_among name words)) ≡ true = and-second (begins_with is_letter name) (list_all is_word_byte name && not (is_among name words)) is in
    record {
      letter = and-first (begins_with is_letter name) (list_all is_word_byte name && not (is_among name words)) is;
      bytes = and-first (list_all is_word_byte name) (not (is_among name words)) later;
    }

-- such a word before a byte that goes not on with it
pub named : (name : List ℕ) (first : ℕ) {rest : List ℕ} {tokens : List Token} → IsWord name → is_word_byte first ≡ false → ReadsAs (first ∷ rest) tokens → ReadsAs (name ++ first ∷ rest) (Word name ∷ tokens)
named name first w clear more = word name w.letter w.bytes clear more

-- ## Signs

-- a sign of one byte before a byte with which it is no longer sign
pub sign : (byte first : ℕ) {rest : List ℕ} {tokens : List Token} → begins_sign byte ≡ true → begins_comment (byte ∷ first ∷ rest) ≡ false → is_sign (byte ∷ []) ≡ true → is_sign (byte ∷ first ∷ []) ≡ false →
    ReadsAs (first ∷ rest) tokens → ReadsAs (byte ∷ first ∷ rest) (Sign (byte ∷ []) ∷ tokens)
sign byte first {rest = rest} {tokens = tokens} begins none one two more = record {
  from = λ line alone.
      let next : PlacedAs line false (first ∷ rest) tokens = more.from line false in
      record {
        placed = record { token = Sign (byte ∷ []); line = line } ∷ next.placed;
        are = sign_reads line alone byte (first ∷ rest) next.placed begins none one two next.are;
        kinds_of = ap (λ ts. Sign (byte ∷ []) ∷ ts) next.kinds_of;
      };
}

-- a sign of two bytes
pub long_sign : (a b : ℕ) {rest : List ℕ} {tokens : List Token} → begins_sign a ≡ true → begins_comment (a ∷ b ∷ rest) ≡ false → is_sign (a ∷ b ∷ []) ≡ true →
    ReadsAs rest tokens → ReadsAs (a ∷ b ∷ rest) (Sign (a ∷ b ∷ []) ∷ tokens)
long_sign a b {rest = rest} {tokens = tokens} begins none two more = record {
  from = λ line alone.
      let next : PlacedAs line false rest tokens = more.from line false in
      record {
        placed = record { token = Sign (a ∷ b ∷ []); line = line } ∷ next.placed;
        are = long_sign_reads line alone a b rest next.placed begins none two next.are;
        kinds_of = ap (λ ts. Sign (a ∷ b ∷ []) ∷ ts) next.kinds_of;
      };
}

-- a sign that begins no longer sign, before anything
pub lone_sign : (byte : ℕ) (rest : List ℕ) {tokens : List Token} → begins_sign byte ≡ true → ((text : List ℕ) → begins_comment (byte ∷ text) ≡ false) → is_sign (byte ∷ []) ≡ true →
    ((first : ℕ) → is_sign (byte ∷ first ∷ []) ≡ false) → ReadsAs rest tokens → ReadsAs (byte ∷ rest) (Sign (byte ∷ []) ∷ tokens)
lone_sign byte (first ∷ rest) begins none one two more = sign byte first begins (none (first ∷ rest)) one (two first) more
lone_sign byte [] {tokens = tokens} begins none one two more = record {
  from = λ line alone.
      let next : PlacedAs line false [] tokens = more.from line false in
      record {
        placed = record { token = Sign (byte ∷ []); line = line } ∷ next.placed;
        are =
            one_more line alone (byte ∷ []) (Sign (byte ∷ [])) [] next.placed
            (head-of-sign alone byte [] begins (none []) ∙ ap (λ z. sign_by z z (byte ∷ [])) one) next.are;
        kinds_of = ap (λ ts. Sign (byte ∷ []) ∷ ts) next.kinds_of;
      };
}

pub opening : {rest : List ℕ} {tokens : List Token} → ReadsAs rest tokens → ReadsAs (40 ∷ rest) (Sign (codes "(") ∷ tokens)
opening {rest = rest} more = lone_sign 40 rest refl (λ text. refl) refl (λ first. refl) more

pub closing : {rest : List ℕ} {tokens : List Token} → ReadsAs rest tokens → ReadsAs (41 ∷ rest) (Sign (codes ")") ∷ tokens)
closing {rest = rest} more = lone_sign 41 rest refl (λ text. refl) refl (λ first. refl) more

pub left_bracket : {rest : List ℕ} {tokens : List Token} → ReadsAs rest tokens → ReadsAs (91 ∷ rest) (Sign (codes "[") ∷ tokens)
left_bracket {rest = rest} more = lone_sign 91 rest refl (λ text. refl) refl (λ first. refl) more

pub right_bracket : {rest : List ℕ} {tokens : List Token} → ReadsAs rest tokens → ReadsAs (93 ∷ rest) (Sign (codes "]") ∷ tokens)
right_bracket {rest = rest} more = lone_sign 93 rest refl (λ text. refl) refl (λ first. refl) more

pub left_brace : {rest : List ℕ} {tokens : List Token} → ReadsAs rest tokens → ReadsAs (123 ∷ rest) (Sign (codes "{") ∷ tokens)
left_brace {rest = rest} more = lone_sign 123 rest refl (λ text. refl) refl (λ first. refl) more

pub right_brace : {rest : List ℕ} {tokens : List Token} → ReadsAs rest tokens → ReadsAs (125 ∷ rest) (Sign (codes "}") ∷ tokens)
right_brace {rest = rest} more = lone_sign 125 rest refl (λ text. refl) refl (λ first. refl) more

pub star : {rest : List ℕ} {tokens : List Token} → ReadsAs rest tokens → ReadsAs (42 ∷ rest) (Sign (codes "*") ∷ tokens)
star {rest = rest} more = lone_sign 42 rest refl (λ text. refl) refl (λ first. refl) more

pub comma : {rest : List ℕ} {tokens : List Token} → ReadsAs rest tokens → ReadsAs (44 ∷ rest) (Sign (codes ",") ∷ tokens)
comma {rest = rest} more = lone_sign 44 rest refl (λ text. refl) refl (λ first. refl) more

pub dot : {rest : List ℕ} {tokens : List Token} → ReadsAs rest tokens → ReadsAs (46 ∷ rest) (Sign (codes ".") ∷ tokens)
dot {rest = rest} more = lone_sign 46 rest refl (λ text. refl) refl (λ first. refl) more

pub colon : {rest : List ℕ} {tokens : List Token} → ReadsAs rest tokens → ReadsAs (58 ∷ rest) (Sign (codes ":") ∷ tokens)
colon {rest = rest} more = lone_sign 58 rest refl (λ text. refl) refl (λ first. refl) more

pub semicolon : {rest : List ℕ} {tokens : List Token} → ReadsAs rest tokens → ReadsAs (59 ∷ rest) (Sign (codes ";") ∷ tokens)
semicolon {rest = rest} more = lone_sign 59 rest refl (λ text. refl) refl (λ first. refl) more

pub question : {rest : List ℕ} {tokens : List Token} → ReadsAs rest tokens → ReadsAs (63 ∷ rest) (Sign (codes "?") ∷ tokens)
question {rest = rest} more = lone_sign 63 rest refl (λ text. refl) refl (λ first. refl) more

-- signs before a blank
pub equals : {rest : List ℕ} {tokens : List Token} → ReadsAs (32 ∷ rest) tokens → ReadsAs (61 ∷ 32 ∷ rest) (Sign (codes "=") ∷ tokens)
equals more = sign 61 32 refl refl refl refl more

pub minus : {rest : List ℕ} {tokens : List Token} → ReadsAs (32 ∷ rest) tokens → ReadsAs (45 ∷ 32 ∷ rest) (Sign (codes "-") ∷ tokens)
minus more = sign 45 32 refl refl refl refl more

-- signs of two bytes
pub added : {rest : List ℕ} {tokens : List Token} → ReadsAs rest tokens → ReadsAs (43 ∷ 61 ∷ rest) (Sign (codes "+=") ∷ tokens)
added more = long_sign 43 61 refl refl refl more

pub up : {rest : List ℕ} {tokens : List Token} → ReadsAs rest tokens → ReadsAs (43 ∷ 43 ∷ rest) (Sign (codes "++") ∷ tokens)
up more = long_sign 43 43 refl refl refl more

pub down : {rest : List ℕ} {tokens : List Token} → ReadsAs rest tokens → ReadsAs (45 ∷ 45 ∷ rest) (Sign (codes "--") ∷ tokens)
down more = long_sign 45 45 refl refl refl more

-- an operator between two operands, with its blanks
pub infix_reads : (o : BinaryOp) {rest : List ℕ} {tokens : List Token} → ReadsAs rest tokens → ReadsAs (op_word o ++ rest) (Sign (infix_sign o) ∷ tokens)
unfolding op_word
infix_reads op.Or more = blank (long_sign 124 124 refl refl refl (blank more))
infix_reads op.And more = blank (long_sign 38 38 refl refl refl (blank more))
infix_reads op.Equal more = blank (long_sign 61 61 refl refl refl (blank more))
infix_reads op.Unequal more = blank (long_sign 33 61 refl refl refl (blank more))
infix_reads op.Less more = blank (sign 60 32 refl refl refl refl (blank more))
infix_reads op.LessOrEqual more = blank (long_sign 60 61 refl refl refl (blank more))
infix_reads op.Greater more = blank (sign 62 32 refl refl refl refl (blank more))
infix_reads op.GreaterOrEqual more = blank (long_sign 62 61 refl refl refl (blank more))
infix_reads op.Add more = blank (sign 43 32 refl refl refl refl (blank more))
infix_reads op.Subtract more = blank (sign 45 32 refl refl refl refl (blank more))
infix_reads op.Multiply more = blank (sign 42 32 refl refl refl refl (blank more))
infix_reads op.Divide more = blank (sign 47 32 refl refl refl refl (blank more))
infix_reads op.Remainder more = blank (sign 37 32 refl refl refl refl (blank more))

-- a part before a text that goes not on with its last word
pub piece_before : {text : List ℕ} {Spells : List Token → List Token → Type 0} (p : Piece text Spells) (rest : List ℕ) (first : ℕ) (later : List ℕ) (more : List Token) → rest ≡ first ∷ later →
    is_word_byte first ≡ false → ReadsAs rest more → ReadsAs (text ++ rest) (p.tokens more)
piece_before {text = text} p rest first later more same clear r =
    in_words (ap (λ z. text ++ z) same) (p.reads first later more clear (in_words (sym same) r))

-- ## Numbers

-- the digits of a number: none of the first ones is zero, unless it stands alone
pub record DigitsOf (n : ℕ) (text : List ℕ) : Type 0 where
  pub first : ℕ
  pub later : List ℕ
  pub is : text ≡ first ∷ later
  pub digit : is_ascii_digit first ≡ true
  pub digits : list_all is_ascii_digit later ≡ true
  pub some : 0 < n → nat_eq 48 first ≡ false
  pub none : n < 10 → later ≡ []

is_digit : (m : ℕ) → m < 10 → is_ascii_digit (48 + m) ≡ true
is_digit m small = grind (arith, nat_tests)

no_zero : (m : ℕ) → 0 < m → nat_eq 48 (48 + m) ≡ false
no_zero m some = grind (arith, nat_tests)

all_with : (test : ℕ → Bool) (text : List ℕ) (last : ℕ) → list_all test text ≡ true → test last ≡ true → list_all test (text ++ last ∷ []) ≡ true
all_with test [] last all one = ap (λ z. z && true) one
all_with test (byte ∷ text) last all one = by (test byte) all (λ h. all_with test text last h one)
  where
    by : (z : Bool) → (z && list_all test text) ≡ true → (list_all test text ≡ true → list_all test (text ++ last ∷ []) ≡ true) → (z && list_all test (text ++ last ∷ [])) ≡ true
    by true h again = again h
    by false h again = h

one_digit : (m : ℕ) → m < 10 → DigitsOf m ((48 + m) ∷ [])
one_digit m small = record { first = 48 + m; later = []; is = refl; digit = is_digit m small; digits = refl; some = no_zero m; none = λ h. refl }

more_digits : (m : ℕ) (text : List ℕ) → 10 ≤ m → DigitsOf (m / 10) text → DigitsOf m (text ++ ((48 + m % 10) ∷ []))
more_digits m text large before = record {
  first = before.first;
  later = before.later ++ ((48 + m % 10) ∷ []);
  is = ap (λ z. z ++ ((48 + m % 10) ∷ [])) before.is;
  digit = before.digit;
  digits = all_with is_ascii_digit before.later (48 + m % 10) before.digits (is_digit (m % 10) (omega arith));
  some = λ h. before.some (omega arith);
  none = λ h. absurd (omega arith);
}

pub decimal_digits : (n : ℕ) → n < 2 ^ 64 → DigitsOf n (decimal n)
decimal_digits n small = decimal_by_steps DigitsOf one_digit more_digits n small

-- a number is written in one way, which is a token
all_of : (n : ℕ) (text : List ℕ) → DigitsOf n text → list_all is_ascii_digit text ≡ true
all_of n text d = subst (λ z. list_all is_ascii_digit z ≡ true) (sym d.is) (subst (λ z. (z && list_all is_ascii_digit d.later) ≡ true) (sym d.digit) d.digits)

pub decimal_all_digits : (n : ℕ) → n < 2 ^ 64 → list_all is_ascii_digit (decimal n) ≡ true
decimal_all_digits n small = all_of n (decimal n) (decimal_digits n small)

pub decimal_begins : (n : ℕ) → n < 2 ^ 64 → begins_with is_ascii_digit (decimal n) ≡ true
decimal_begins n small = let d : DigitsOf n (decimal n) = decimal_digits n small in subst (λ z. begins_with is_ascii_digit z ≡ true) (sym d.is) d.digit

short_by : (n first : ℕ) (later : List ℕ) → (0 < n → nat_eq 48 first ≡ false) → (n < 10 → later ≡ []) → is_short (first ∷ later) ≡ true
short_by zero first later some none = subst (λ z. is_short (first ∷ z) ≡ true) (sym (none (omega arith))) refl
short_by (suc n) first later some none = either (nat_le (length (first ∷ later)) 1) (nat_eq 48 first) (some (omega arith))
  where
    either : (a b : Bool) → b ≡ false → (a || not b) ≡ true
    either true b h = refl
    either false b h = ap not h

all_three : (a b c : Bool) → a ≡ true → b ≡ true → c ≡ true → (a && (b && c)) ≡ true
all_three true b c x y z = subst (λ w. (w && c) ≡ true) (sym y) z
all_three false b c x y z = x

pub decimal_number : (n : ℕ) → n ≤ 2147483647 → is_number (decimal n) ≡ true
decimal_number n small =
    let below : n < 2 ^ 64 = omega arith in
    let d : DigitsOf n (decimal n) = decimal_digits n below in
    all_three (list_all is_ascii_digit (decimal n)) (is_short (decimal n)) (nat_le (digits_value 10 (decimal n)) 2147483647)
    (decimal_all_digits n below)
    (subst (λ z. is_short z ≡ true) (sym d.is) (short_by n d.first d.later d.some d.none))
    (subst (λ z. nat_le z 2147483647 ≡ true) (sym (decimal_is_IsNumeral n below).1) (fits n small))
  where
    fits : (n : ℕ) → n ≤ 2147483647 → nat_le n 2147483647 ≡ true
    fits n small = grind (arith, nat_tests)

pub number : (n : ℕ) {rest : List ℕ} {tokens : List Token} → n ≤ 2147483647 → begins_with is_word_byte rest ≡ false → ReadsAs rest tokens → ReadsAs (decimal n ++ rest) (Digits n ∷ tokens)
number n {rest = rest} {tokens = tokens} small clear more =
    let below : n < 2 ^ 64 = omega arith in
    subst (λ v. ReadsAs (decimal n ++ rest) (Digits v ∷ tokens)) (decimal_is_IsNumeral n below).1
    (record {
      from = λ line alone.
          let next : PlacedAs line false rest tokens = more.from line false in
          record {
            placed = record { token = Digits (digits_value 10 (decimal n)); line = line } ∷ next.placed;
            are = number_reads line alone (decimal n) rest next.placed (decimal_begins n below) (decimal_number n small) clear next.are;
            kinds_of = ap (λ ts. Digits (digits_value 10 (decimal n)) ∷ ts) next.kinds_of;
          };
    })

-- ## Strings

-- a string before anything, by what stands at its head
pub string_before : (text : List ℕ) (bytes rest : List ℕ) {tokens : List Token} → ((alone : Bool) → head_of alone (text ++ rest) ≡ Lexeme (Quoted bytes) rest) → ReadsAs rest tokens → ReadsAs (text ++ rest) (Quoted bytes ∷ tokens)
string_before text bytes rest {tokens = tokens} head more = record {
  from = λ line alone.
      let next : PlacedAs line false rest tokens = more.from line false in
      record {
        placed = record { token = Quoted bytes; line = line } ∷ next.placed;
        are = one_more line alone (text ++ rest) (Quoted bytes) rest next.placed (head alone) next.are;
        kinds_of = ap (λ ts. Quoted bytes ∷ ts) next.kinds_of;
      };
}
