-- The tokens of a C text with their lines (C89, 2.1.1.2 and 3.1): the longest token is taken, and white space and
-- comments separate tokens. The include line counts as a token.
use Rattle.std.specs.Prelude.{◌≡◌, ℕ, zero, suc, ◌+◌, ◌*◌, ◌-◌, nat_eq, nat_le, nat_lt, Bool, true, false, not, ◌&&◌, ◌||◌, if◌then◌else◌, List, [], ◌∷◌, length, take, drop, codes, bytes_eq, Option, Some, None}
use Rattle.std.specs.Char.{is_ascii_digit}
use Rattle.std.specs.List.{list_all, list_any}
use Rattle.std.specs.Str.Parse.{digits_value}

pub data Token : Type 0 where
  -- the include line
  Including : Token
  -- a name, or a word of the subset
  Word : List ℕ → Token
  -- a number
  Digits : ℕ → Token
  -- a string, by its bytes
  Quoted : List ℕ → Token
  Sign : List ℕ → Token
  -- what no file has
  Bad : Token

-- a front of a text, and what stands behind it
pub record Cut : Type 0 where
  pub front : List ℕ
  pub rest : List ℕ

abbrev pub longer : ℕ → Cut → Cut
longer byte cut = record { front = byte ∷ cut.front; rest = cut.rest }

abbrev pub longer_if : ℕ → Option Cut → Option Cut
longer_if byte None = None
longer_if byte (Some cut) = Some (longer byte cut)

abbrev pub begins_with : (ℕ → Bool) → List ℕ → Bool
begins_with test [] = false
begins_with test (first ∷ later) = test first

-- the longest front of bytes that pass a test
abbrev pub run : (ℕ → Bool) → List ℕ → Cut
run test [] = record { front = []; rest = [] }
run test (first ∷ later) =
    elim (test first) [ true ↦ longer first (run test later) | false ↦ record { front = []; rest = first ∷ later } ]

-- a letter or an underscore
abbrev pub is_letter : ℕ → Bool
is_letter byte = (nat_le 97 byte && nat_le byte 122) || ((nat_le 65 byte && nat_le byte 90) || nat_eq byte 95)

abbrev pub is_word_byte : ℕ → Bool
is_word_byte byte = is_letter byte || is_ascii_digit byte

-- white space: a blank, and the bytes from the horizontal tab to the carriage return
abbrev pub is_space : ℕ → Bool
is_space byte = nat_eq byte 32 || (nat_le 9 byte && nat_le byte 13)

abbrev pub is_line_feed : ℕ → Bool
is_line_feed byte = nat_eq byte 10

-- white space within a line
abbrev pub is_blank : ℕ → Bool
is_blank byte = is_space byte && not (is_line_feed byte)

-- up to the first end of a comment, with what follows it (C89, 3.1.9)
abbrev pub to_comment_end : List ℕ → Option Cut
to_comment_end [] = None
to_comment_end (first ∷ later) =
    elim (nat_eq first 42 && begins_with (nat_eq 47) later) [
      | true ↦ Some (record { front = codes "*/"; rest = drop 1 later })
      | false ↦ longer_if first (to_comment_end later)
    ]

-- whether a comment begins at the head of a text
abbrev pub begins_comment : List ℕ → Bool
begins_comment text = bytes_eq (take 2 text) (codes "/*")

-- that comment; one without an end is none
abbrev pub comment_at : List ℕ → Option Cut
comment_at text = longer_if 47 (longer_if 42 (to_comment_end (drop 2 text)))

-- no zero stands needlessly before the digits
abbrev pub is_short : List ℕ → Bool
is_short text = nat_le (length text) 1 || not (begins_with (nat_eq 48) text)

-- a number of the subset (C89, 3.1.3.2)
abbrev pub is_number : List ℕ → Bool
is_number text = list_all is_ascii_digit text && (is_short text && nat_le (digits_value 10 text) 2147483647)

-- the signs of the grammar (C89, 3.1.5 and 3.1.6)
abbrev pub signs : List (List ℕ)
signs =
    codes "(" ∷ codes ")" ∷ codes "[" ∷ codes "]" ∷ codes "{" ∷ codes "}" ∷ codes "," ∷ codes ";" ∷ codes ":" ∷ codes "?" ∷ codes "."
    ∷ codes "=" ∷ codes "+=" ∷ codes "++" ∷ codes "--" ∷ codes "+" ∷ codes "-" ∷ codes "*" ∷ codes "/" ∷ codes "%"
    ∷ codes "&" ∷ codes "!" ∷ codes "||" ∷ codes "&&" ∷ codes "==" ∷ codes "!=" ∷ codes "<" ∷ codes "<=" ∷ codes ">" ∷ codes ">="
    ∷ []

abbrev pub is_sign : List ℕ → Bool
is_sign text = list_any (bytes_eq text) signs

-- a byte that begins neither white space nor a word, a number, a string or the include line
abbrev pub begins_sign : ℕ → Bool
begins_sign byte = not (is_space byte) && (not (is_word_byte byte) && (not (nat_eq byte 34) && not (nat_eq byte 35)))

-- the bytes that stand for themselves in a string
abbrev pub is_plain : ℕ → Bool
is_plain byte = (nat_le 32 byte && nat_le byte 126) && (not (nat_eq byte 34) && not (nat_eq byte 92))

-- a digit below a bound
abbrev pub is_digit_below : ℕ → ℕ → Bool
is_digit_below bound byte = nat_le 48 byte && nat_lt byte (48 + bound)

-- what is awaited in a string: a byte, what follows a backslash, or further octal digits of a value
pub data Awaited : Type 0 where
  Plain : Awaited
  Escape : Awaited
  Octal : ℕ → ℕ → Awaited

-- the bytes of a string from here to its quote, with what follows the quote (C89, 3.1.4): the bytes 32 to 126 other
-- than `"` and `\`, the pairs `\"` and `\\`, and `\` with three octal digits from 000 to 377
abbrev pub string_from : Awaited → List ℕ → Option Cut
string_from awaited [] = None
string_from Plain (byte ∷ later) =
    elim (nat_eq byte 34) [
      | true ↦ Some (record { front = []; rest = later })
      | false ↦ elim (nat_eq byte 92) [
        | true ↦ string_from Escape later
        | false ↦ elim (is_plain byte) [ true ↦ longer_if byte (string_from Plain later) | false ↦ None ]
      ]
    ]
string_from Escape (byte ∷ later) =
    elim (nat_eq byte 34 || nat_eq byte 92) [
      | true ↦ longer_if byte (string_from Plain later)
      | false ↦ elim (is_digit_below 4 byte) [ true ↦ string_from (Octal 1 (byte - 48)) later | false ↦ None ]
    ]
string_from (Octal (suc more) value) (byte ∷ later) =
    elim (is_digit_below 8 byte) [ true ↦ string_from (Octal more (8 * value + (byte - 48))) later | false ↦ None ]
string_from (Octal zero value) (byte ∷ later) =
    elim (is_digit_below 8 byte) [ true ↦ longer_if (8 * value + (byte - 48)) (string_from Plain later) | false ↦ None ]

-- the line that is built in
abbrev pub include_line : List ℕ
include_line = codes "#include \"f2c.h\""

-- nothing, or the end of a line
abbrev pub ends_line : List ℕ → Bool
ends_line [] = true
ends_line (first ∷ later) = is_line_feed first

-- the include line at the head of a text, alone up to the end of its line (C89, 3.8.2)
abbrev pub include_at : List ℕ → Option (List ℕ)
include_at text =
    elim (bytes_eq (take (length include_line) text) include_line) [
      | true ↦ (
          let behind = (run is_blank (drop (length include_line) text)).rest in
          if ends_line behind then Some behind else None)
      | false ↦ None
    ]

-- what stands at the head of a text
pub data Head : Type 0 where
  AtEnd : Head
  -- white space or a comment, and what follows
  Gap : List ℕ → List ℕ → Head
  -- a token, and what follows
  Lexeme : Token → List ℕ → Head

-- a run of letters, digits and underscores is one token: a word, a number, or none that a file has
abbrev pub word_or_number : ℕ → List ℕ → Token
word_or_number first text = if is_letter first then Word text else (if is_number text then Digits (digits_value 10 text) else Bad)

-- the longest sign at the head of a text, or a byte that begins no token
abbrev pub sign_head : List ℕ → Head
sign_head text =
    elim (is_sign (take 2 text)) [
      | true ↦ Lexeme (Sign (take 2 text)) (drop 2 text)
      | false ↦ elim (is_sign (take 1 text)) [
        | true ↦ Lexeme (Sign (take 1 text)) (drop 1 text)
        | false ↦ Lexeme Bad (drop 1 text)
      ]
    ]

abbrev pub string_head : List ℕ → Option Cut → Head
string_head later None = Lexeme Bad later
string_head later (Some cut) = Lexeme (Quoted cut.front) cut.rest

abbrev pub include_head : List ℕ → Option (List ℕ) → Head
include_head later None = Lexeme Bad later
include_head later (Some rest) = Lexeme Including rest

abbrev pub comment_head : List ℕ → Option Cut → Head
comment_head later None = Lexeme Bad later
comment_head later (Some cut) = Gap cut.front cut.rest

-- what stands at the head of a text, given whether only blanks stand before it on its line
abbrev pub head_of : Bool → List ℕ → Head
head_of alone [] = AtEnd
head_of alone (first ∷ later) =
    elim (is_space first) [
      | true ↦ Gap (first ∷ []) later
      | false ↦ elim (is_word_byte first) [
        | true ↦ (let cut = run is_word_byte (first ∷ later) in Lexeme (word_or_number first cut.front) cut.rest)
        | false ↦ elim (nat_eq first 34) [
          | true ↦ string_head later (string_from Plain later)
          | false ↦ elim (alone && nat_eq first 35) [
            | true ↦ include_head later (include_at (first ∷ later))
            | false ↦ elim (begins_comment (first ∷ later)) [
              | true ↦ comment_head later (comment_at (first ∷ later))
              | false ↦ sign_head (first ∷ later)
            ]
          ]
        ]
      ]
    ]

abbrev pub line_feeds : List ℕ → ℕ
line_feeds [] = 0
line_feeds (first ∷ later) = if is_line_feed first then suc (line_feeds later) else line_feeds later

-- whether only blanks stand on the line behind this gap, given whether only blanks stand before it
abbrev pub still_alone : Bool → List ℕ → Bool
still_alone alone [] = alone
still_alone alone (byte ∷ []) = is_line_feed byte || alone
still_alone alone comment = false

-- a token, and its line: 1 and the line feeds before it
pub record Placed : Type 0 where
  pub token : Token
  pub line : ℕ

-- the tokens of a text from here on, given its line and whether only blanks stand before it there
pub data AreTokens : ℕ → Bool → List ℕ → List Placed → Type 0 where
  no_more : (line : ℕ) (alone : Bool) (text : List ℕ) → head_of alone text ≡ AtEnd → AreTokens line alone text []
  behind_a_gap : (line : ℕ) (alone : Bool) (text gap rest : List ℕ) (tokens : List Placed) → head_of alone text ≡ Gap gap rest
      → AreTokens (line + line_feeds gap) (still_alone alone gap) rest tokens → AreTokens line alone text tokens
  one_more : (line : ℕ) (alone : Bool) (text : List ℕ) (token : Token) (rest : List ℕ) (tokens : List Placed) → head_of alone text ≡ Lexeme token rest
      → AreTokens line false rest tokens → AreTokens line alone text (record { token = token; line = line } ∷ tokens)

-- the tokens of a whole text
abbrev pub AreTokensOf : List ℕ → List Placed → Type 0
AreTokensOf text tokens = AreTokens 1 true text tokens

-- the last line of a text, on which its end stands: a last line feed does not begin another
abbrev pub last_line : List ℕ → ℕ
last_line [] = 1
last_line (byte ∷ []) = 1
last_line (first ∷ second ∷ later) =
    if is_line_feed first then suc (last_line (second ∷ later)) else last_line (second ∷ later)
