-- The strings among the tokens of a text are of bytes (C89, 3.1.4).
use Rattle.std.specs.Prelude.{◌≡◌, ℕ, zero, suc, ◌+◌, ◌*◌, ◌-◌, ◌<◌, Bool, true, false, ◌&&◌, ◌||◌, if◌then◌else◌, nat_eq, List, [], ◌∷◌, take, Option, Some, None}
use Rattle.std.specs.Str.Parse.{digits_value}
use Rattle.std.proofs.Common.{refl, ap, sym, ◌∙◌}
use Rattle.std.proofs.lemmas.Bool.Decides.{nat_tests}
use native.Mathlib.Omega.{arith}
use Rattle.c_laws.specs.c_tree.Tokens.{Token, Word, Digits, Quoted, Bad, Cut, longer_if, is_letter, is_word_byte, is_space, is_number, is_plain, is_digit_below, Awaited, Plain, Escape, Octal, string_from, Head, Lexeme, run, word_or_number, string_head, include_head, include_at, begins_comment, comment_head, comment_at, is_sign, head_of, Placed, AreTokens, no_more, behind_a_gap, one_more}
use Rattle.c_laws.specs.c_tree.CText.{kinds}
use Rattle.c_laws.proofs.TokenSpellings.{head_by, sign_by, comment_by}
use Rattle.c_spelling.specs.Spelled.{is_byte, of_bytes}

-- ## A string

abbrev cut_fits : Option Cut → Bool
cut_fits None = true
cut_fits (Some cut) = of_bytes cut.front

longer_fits : (byte : ℕ) (found : Option Cut) → is_byte byte ≡ true → cut_fits found ≡ true → cut_fits (longer_if byte found) ≡ true
longer_fits byte None small fits = refl
longer_fits byte (Some cut) small fits = ap (λ z. z && of_bytes cut.front) small ∙ fits

plain_small : (byte : ℕ) → is_plain byte ≡ true → is_byte byte ≡ true
plain_small byte h = grind (arith, nat_tests)

mark_small : (byte : ℕ) → (nat_eq byte 34 || nat_eq byte 92) ≡ true → is_byte byte ≡ true
mark_small byte h = grind (arith, nat_tests)

digit_of : (bound byte : ℕ) → is_digit_below bound byte ≡ true → byte - 48 < bound
digit_of bound byte h = grind (arith, nat_tests)

below : (byte : ℕ) → byte < 256 → is_byte byte ≡ true
below byte h = grind (arith, nat_tests)

-- the digits so far are those of a byte
abbrev Awaits : Awaited → Type 0
Awaits Plain = Unit {0}
Awaits Escape = Unit {0}
Awaits (Octal zero value) = value < 32
Awaits (Octal (suc zero) value) = value < 4
Awaits (Octal (suc (suc more)) value) = ⊥

abbrev plain_by : Bool → Bool → Bool → ℕ → List ℕ → Option Cut
plain_by quote backslash plain byte later =
    elim quote [
      | true ↦ Some (record { front = []; rest = later })
      | false ↦ elim backslash [
        | true ↦ string_from Escape later
        | false ↦ elim plain [ true ↦ longer_if byte (string_from Plain later) | false ↦ None ]
      ]
    ]

abbrev escape_by : Bool → Bool → ℕ → List ℕ → Option Cut
escape_by itself digit byte later =
    elim itself [
      | true ↦ longer_if byte (string_from Plain later)
      | false ↦ elim digit [ true ↦ string_from (Octal 1 (byte - 48)) later | false ↦ None ]
    ]

abbrev if_digit : Bool → Option Cut → Option Cut
if_digit digit found = elim digit [ true ↦ found | false ↦ None ]

string_fits : (awaited : Awaited) (text : List ℕ) → Awaits awaited → cut_fits (string_from awaited text) ≡ true
string_fits awaited [] w = refl
string_fits Plain (byte ∷ later) w = by (nat_eq byte 34) (nat_eq byte 92) (is_plain byte) refl (string_fits Escape later tt) (string_fits Plain later tt)
  where
    by : (q b p : Bool) → is_plain byte ≡ p → cut_fits (string_from Escape later) ≡ true → cut_fits (string_from Plain later) ≡ true → cut_fits (plain_by q b p byte later) ≡ true
    by true b p h escape plain = refl
    by false true p h escape plain = escape
    by false false true h escape plain = longer_fits byte (string_from Plain later) (plain_small byte h) plain
    by false false false h escape plain = refl
string_fits Escape (byte ∷ later) w =
    by (nat_eq byte 34 || nat_eq byte 92) (is_digit_below 4 byte) refl refl (string_fits Plain later tt) (λ small. string_fits (Octal 1 (byte - 48)) later small)
  where
    by : (m d : Bool) → (nat_eq byte 34 || nat_eq byte 92) ≡ m → is_digit_below 4 byte ≡ d → cut_fits (string_from Plain later) ≡ true
        → (byte - 48 < 4 → cut_fits (string_from (Octal 1 (byte - 48)) later) ≡ true) → cut_fits (escape_by m d byte later) ≡ true
    by true d h k plain octal = longer_fits byte (string_from Plain later) (mark_small byte h) plain
    by false true h k plain octal = octal (digit_of 4 byte k)
    by false false h k plain octal = refl
string_fits (Octal zero value) (byte ∷ later) w = by (is_digit_below 8 byte) refl (string_fits Plain later tt)
  where
    by : (d : Bool) → is_digit_below 8 byte ≡ d → cut_fits (string_from Plain later) ≡ true → cut_fits (if_digit d (longer_if (8 * value + (byte - 48)) (string_from Plain later))) ≡ true
    by true k plain = let small : byte - 48 < 8 = digit_of 8 byte k in longer_fits (8 * value + (byte - 48)) (string_from Plain later) (below (8 * value + (byte - 48)) (omega (arith, small, w))) plain
    by false k plain = refl
string_fits (Octal (suc zero) value) (byte ∷ later) w = by (is_digit_below 8 byte) refl (λ small. string_fits (Octal zero (8 * value + (byte - 48))) later small)
  where
    by : (d : Bool) → is_digit_below 8 byte ≡ d → (8 * value + (byte - 48) < 32 → cut_fits (string_from (Octal zero (8 * value + (byte - 48))) later) ≡ true)
        → cut_fits (if_digit d (string_from (Octal zero (8 * value + (byte - 48))) later)) ≡ true
    by true k octal = let small : byte - 48 < 8 = digit_of 8 byte k in octal (omega (arith, small, w))
    by false k octal = refl
string_fits (Octal (suc (suc more)) value) (byte ∷ later) w = absurd w

-- ## Any token

abbrev pub token_fits : Token → Bool
token_fits (Quoted bytes) = of_bytes bytes
token_fits other = true

abbrev head_fits : Head → Bool
head_fits (Lexeme token rest) = token_fits token
head_fits other = true

word_fits : (first : ℕ) (text rest : List ℕ) → head_fits (Lexeme (word_or_number first text) rest) ≡ true
word_fits first text rest = by (is_letter first) (is_number text)
  where
    by : (a b : Bool) → token_fits (if a then Word text else (if b then Digits (digits_value 10 text) else Bad)) ≡ true
    by true b = refl
    by false true = refl
    by false false = refl

quote_fits : (later : List ℕ) (found : Option Cut) → cut_fits found ≡ true → head_fits (string_head later found) ≡ true
quote_fits later None fits = refl
quote_fits later (Some cut) fits = fits

line_fits : (later : List ℕ) (found : Option (List ℕ)) → head_fits (include_head later found) ≡ true
line_fits later None = refl
line_fits later (Some rest) = refl

gap_fits : (later : List ℕ) (found : Option Cut) → head_fits (comment_head later found) ≡ true
gap_fits later None = refl
gap_fits later (Some cut) = refl

sign_fits : (two one : Bool) (text : List ℕ) → head_fits (sign_by two one text) ≡ true
sign_fits true one text = refl
sign_fits false true text = refl
sign_fits false false text = refl

comment_fits : (comment : Bool) (first : ℕ) (later : List ℕ) → head_fits (comment_by comment first later) ≡ true
comment_fits true first later = gap_fits later (comment_at (first ∷ later))
comment_fits false first later = sign_fits (is_sign (take 2 (first ∷ later))) (is_sign (take 1 (first ∷ later))) (first ∷ later)

by_byte : (space word quote hash : Bool) (first : ℕ) (later : List ℕ) → head_fits (head_by space word quote hash first later) ≡ true
by_byte true word quote hash first later = refl
by_byte false true quote hash first later = word_fits first (run is_word_byte (first ∷ later)).front (run is_word_byte (first ∷ later)).rest
by_byte false false true hash first later = quote_fits later (string_from Plain later) (string_fits Plain later tt)
by_byte false false false true first later = line_fits later (include_at (first ∷ later))
by_byte false false false false first later = comment_fits (begins_comment (first ∷ later)) first later

each_head : (alone : Bool) (text : List ℕ) → head_fits (head_of alone text) ≡ true
each_head alone [] = refl
each_head alone (first ∷ later) = by_byte (is_space first) (is_word_byte first) (nat_eq first 34) (alone && nat_eq first 35) first later

-- whether the strings among tokens are of bytes
abbrev pub tokens_fit : List Token → Bool
tokens_fit [] = true
tokens_fit (token ∷ later) = token_fits token && tokens_fit later

-- of each text
pub text_fits : {line : ℕ} {alone : Bool} {text : List ℕ} {placed : List Placed} → AreTokens line alone text placed → tokens_fit (kinds placed) ≡ true
text_fits (no_more line alone text h) = refl
text_fits (behind_a_gap line alone text gap rest tokens h more) = text_fits more
text_fits (one_more line alone text token rest tokens h more) =
    ap (λ z. z && tokens_fit (kinds tokens)) (sym (ap head_fits h) ∙ each_head alone text) ∙ text_fits more
