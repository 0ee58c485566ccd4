-- A string of bytes in its quotes reads as one token.
use Rattle.std.specs.Prelude.{◌≡◌, ℕ, ◌+◌, ◌*◌, ◌-◌, ◌/◌, ◌%◌, ◌<◌, nat_eq, nat_le, Bool, true, false, ◌&&◌, ◌||◌, if◌then◌else◌, List, [], ◌∷◌, ◌++◌, Option, Some, None}
use Rattle.std.proofs.Common.{refl, ap, ◌∙◌, append_assoc}
use Rattle.std.proofs.lemmas.Bool.Decides.{nat_tests}
use native.Mathlib.Omega.{arith}
use Rattle.c_laws.specs.c_tree.Tokens.{Token, Quoted, Cut, longer_if, is_plain, is_digit_below, Plain, Escape, Octal, string_from, Lexeme, string_head, head_of}
use Rattle.c_text.specs.Strings.{octal, escaped, all_escaped, quoted}
use Rattle.c_laws.proofs.TokenSpellings.{and-first, and-second}
use Rattle.c_spelling.specs.Spelled.{is_byte, of_bytes}
use Rattle.c_spelling.proofs.Tokens.{ReadsAs, string_before}

-- what a byte behind a backslash gives, by whether it stands for itself and whether it is a digit
abbrev escape_by : Bool → Bool → ℕ → List ℕ → Option Cut
escape_by itself digit byte later =
    elim itself [
      | true ↦ longer_if byte (string_from Plain later)
      | false ↦ elim digit [ true ↦ string_from (Octal 1 (byte - 48)) later | false ↦ None ]
    ]

abbrev if_digit : Bool → Option Cut → Option Cut
if_digit digit found = elim digit [ true ↦ found | false ↦ None ]

-- three octal digits behind a backslash are one byte
octal_reads : (a b c : ℕ) (rest : List ℕ) → (nat_eq a 34 || nat_eq a 92) ≡ false → is_digit_below 4 a ≡ true → is_digit_below 8 b ≡ true → is_digit_below 8 c ≡ true
    → string_from Plain (92 ∷ a ∷ b ∷ c ∷ rest) ≡ longer_if (8 * (8 * (a - 48) + (b - 48)) + (c - 48)) (string_from Plain rest)
octal_reads a b c rest plain first second third =
    ap (λ z. escape_by z (is_digit_below 4 a) a (b ∷ c ∷ rest)) plain
    ∙ (ap (λ z. escape_by false z a (b ∷ c ∷ rest)) first
    ∙ (ap (λ z. if_digit z (string_from (Octal 0 (8 * (a - 48) + (b - 48))) (c ∷ rest))) second
    ∙ ap (λ z. if_digit z (longer_if (8 * (8 * (a - 48) + (b - 48)) + (c - 48)) (string_from Plain rest))) third))

no_mark : (m : ℕ) → m < 4 → (nat_eq (48 + m) 34 || nat_eq (48 + m) 92) ≡ false
no_mark m small = grind (arith, nat_tests)

digit_of_four : (m : ℕ) → m < 4 → is_digit_below 4 (48 + m) ≡ true
digit_of_four m small = grind (arith, nat_tests)

digit_of_eight : (m : ℕ) → m < 8 → is_digit_below 8 (48 + m) ≡ true
digit_of_eight m small = grind (arith, nat_tests)

value_of_digits : (byte : ℕ) → 8 * (8 * (48 + byte / 64 - 48) + (48 + byte / 8 % 8 - 48)) + (48 + byte % 8 - 48) ≡ byte
value_of_digits byte = omega arith

byte_in_octal : (byte : ℕ) (rest : List ℕ) → byte < 256 → string_from Plain (92 ∷ (octal byte ++ rest)) ≡ longer_if byte (string_from Plain rest)
byte_in_octal byte rest small =
    octal_reads (48 + byte / 64) (48 + byte / 8 % 8) (48 + byte % 8) rest
    (no_mark (byte / 64) (omega arith)) (digit_of_four (byte / 64) (omega arith)) (digit_of_eight (byte / 8 % 8) (omega arith)) (digit_of_eight (byte % 8) (omega arith))
    ∙ ap (λ z. longer_if z (string_from Plain rest)) (value_of_digits byte)

-- a double quote or a backslash behind a backslash
mark_reads : (byte : ℕ) (rest : List ℕ) → (nat_eq byte 34 || nat_eq byte 92) ≡ true → string_from Plain (92 ∷ byte ∷ rest) ≡ longer_if byte (string_from Plain rest)
mark_reads byte rest mark = ap (λ z. escape_by z (is_digit_below 4 byte) byte rest) mark

-- a byte that stands for itself
abbrev plain_by : Bool → Bool → Bool → ℕ → List ℕ → Option Cut
plain_by quote backslash plain byte later =
    elim quote [
      | true ↦ Some (record { front = []; rest = later })
      | false ↦ elim backslash [
        | true ↦ string_from Escape later
        | false ↦ elim plain [ true ↦ longer_if byte (string_from Plain later) | false ↦ None ]
      ]
    ]

no_first : (a b : Bool) → (a || b) ≡ false → a ≡ false
no_first true b h = h
no_first false b h = refl

no_second : (a b : Bool) → (a || b) ≡ false → b ≡ false
no_second true b h = absurd (cc)
no_second false b h = h

plain_byte : (byte : ℕ) → (nat_eq byte 34 || nat_eq byte 92) ≡ false → (nat_le 32 byte && nat_le byte 126) ≡ true → is_plain byte ≡ true
plain_byte byte mark shown = grind (arith, nat_tests)

plain_reads : (byte : ℕ) (rest : List ℕ) → (nat_eq byte 34 || nat_eq byte 92) ≡ false → (nat_le 32 byte && nat_le byte 126) ≡ true
    → string_from Plain (byte ∷ rest) ≡ longer_if byte (string_from Plain rest)
plain_reads byte rest mark shown =
    ap (λ z. plain_by z (nat_eq byte 92) (is_plain byte) byte rest) (no_first (nat_eq byte 34) (nat_eq byte 92) mark)
    ∙ (ap (λ z. plain_by false z (is_plain byte) byte rest) (no_second (nat_eq byte 34) (nat_eq byte 92) mark)
    ∙ ap (λ z. plain_by false false z byte rest) (plain_byte byte mark shown))

-- how a byte is written, by the three choices
abbrev escaped_by : Bool → Bool → Bool → ℕ → List ℕ
escaped_by questions mark shown byte =
    if questions then 92 ∷ octal byte
    else if mark then 92 ∷ byte ∷ []
    else (if shown then byte ∷ [] else 92 ∷ octal byte)

escaped_reads_by : (questions mark shown : Bool) (byte : ℕ) (rest : List ℕ) → byte < 256 → (nat_eq byte 34 || nat_eq byte 92) ≡ mark → (nat_le 32 byte && nat_le byte 126) ≡ shown
    → string_from Plain (escaped_by questions mark shown byte ++ rest) ≡ longer_if byte (string_from Plain rest)
escaped_reads_by true mark shown byte rest small m s = byte_in_octal byte rest small
escaped_reads_by false true shown byte rest small m s = mark_reads byte rest m
escaped_reads_by false false true byte rest small m s = plain_reads byte rest m s
escaped_reads_by false false false byte rest small m s = byte_in_octal byte rest small

escaped_reads : (before byte : ℕ) (rest : List ℕ) → byte < 256 → string_from Plain (escaped before byte ++ rest) ≡ longer_if byte (string_from Plain rest)
escaped_reads before byte rest small =
    escaped_reads_by (nat_eq before 63 && nat_eq byte 63) (nat_eq byte 34 || nat_eq byte 92) (nat_le 32 byte && nat_le byte 126) byte rest small refl refl

below_of : (byte : ℕ) → is_byte byte ≡ true → byte < 256
below_of byte h = grind (arith, nat_tests)

-- the bytes up to the quote
escaped_bytes_read : (before : ℕ) (bytes rest : List ℕ) → of_bytes bytes ≡ true → string_from Plain (all_escaped before bytes ++ (34 ∷ rest)) ≡ Some (record { front = bytes; rest = rest })
escaped_bytes_read before [] rest h = refl
escaped_bytes_read before (byte ∷ bytes) rest h =
    ap (string_from Plain) (append_assoc (escaped before byte) (all_escaped byte bytes) (34 ∷ rest))
    ∙ (escaped_reads before byte (all_escaped byte bytes ++ (34 ∷ rest)) (below_of byte (and-first (is_byte byte) (of_bytes bytes) h))
    ∙ ap (longer_if byte) (escaped_bytes_read byte bytes rest (and-second (is_byte byte) (of_bytes bytes) h)))

-- what stands at the head of a string with what follows it
pub quoted_head : (alone : Bool) (bytes rest : List ℕ) → of_bytes bytes ≡ true → head_of alone (quoted bytes ++ rest) ≡ Lexeme (Quoted bytes) rest
quoted_head alone bytes rest h =
    ap (λ z. head_of alone (34 ∷ z)) (append_assoc (all_escaped 0 bytes) (34 ∷ []) rest)
    ∙ ap (string_head (all_escaped 0 bytes ++ (34 ∷ rest))) (escaped_bytes_read 0 bytes rest h)

-- a string is one token before anything
pub quoted_reads : (bytes : List ℕ) {rest : List ℕ} {tokens : List Token} → of_bytes bytes ≡ true → ReadsAs rest tokens → ReadsAs (quoted bytes ++ rest) (Quoted bytes ∷ tokens)
quoted_reads bytes {rest = rest} h more = string_before (quoted bytes) bytes rest (λ alone. quoted_head alone bytes rest h) more
