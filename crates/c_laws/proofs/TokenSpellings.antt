-- How the spelling of a token reads back, given what stands behind it.
use Rattle.std.specs.Prelude.{◌≡◌, ℕ, ◌+◌, Bool, true, false, not, ◌&&◌, ◌||◌, if◌then◌else◌, nat_eq, List, [], ◌∷◌, ◌++◌, take, drop}
use Rattle.std.specs.Char.{is_ascii_digit}
use Rattle.std.specs.List.{list_all}
use Rattle.std.specs.Str.Parse.{digits_value}
use Rattle.std.proofs.Common.{refl, ap, sym, ◌∙◌, subst, true≢false}
use Rattle.std.proofs.lemmas.Bool.Decides.{nat_tests}
use native.Mathlib.Omega.{arith}
use Rattle.c_tree.specs.Tokens.{Word, Digits, Sign, Bad, begins_sign, is_sign, Cut, longer, begins_with, run, is_letter, is_word_byte, is_space, is_number, Head, Gap, Lexeme, word_or_number, string_head, string_from, Plain, include_head, include_at, begins_comment, comment_head, comment_at, sign_head, head_of, line_feeds, still_alone, Placed, AreTokens, behind_a_gap, one_more}
use Rattle.c_laws.proofs.TokenLaws.{run_by}

pub and-first : (a b : Bool) → (a && b) ≡ true → a ≡ true
and-first true b h = refl
and-first false b h = h

pub and-second : (a b : Bool) → (a && b) ≡ true → b ≡ true
and-second true b h = h
and-second false b h = absurd (true≢false (sym h))

-- a run is a front that passes, where what follows does not go on with it
pub run-front : (test : ℕ → Bool) (text rest : List ℕ) → list_all test text ≡ true → begins_with test rest ≡ false
    → run test (text ++ rest) ≡ record { front = text; rest = rest }
run-front test [] [] h k = refl
run-front test [] (byte ∷ rest) h k = ap (λ z. run_by z byte rest (run test rest)) k
run-front test (first ∷ later) rest h k =
    ap (λ z. run_by z first (later ++ rest) (run test (later ++ rest))) (and-first (test first) (list_all test later) h)
    ∙ ap (λ z. longer first z) (run-front test later rest (and-second (test first) (list_all test later) h) k)

-- what stands at the head of a text, by what its first byte is
abbrev pub head_by : Bool → Bool → Bool → Bool → ℕ → List ℕ → Head
head_by space word quote hash first later =
    elim space [
      | true ↦ Gap (first ∷ []) later
      | false ↦ elim word [
        | true ↦ (let cut = run is_word_byte (first ∷ later) in Lexeme (word_or_number first cut.front) cut.rest)
        | false ↦ elim quote [
          | true ↦ string_head later (string_from Plain later)
          | false ↦ elim hash [
            | true ↦ include_head later (include_at (first ∷ later))
            | false ↦ elim (begins_comment (first ∷ later)) [
              | true ↦ comment_head later (comment_at (first ∷ later))
              | false ↦ sign_head (first ∷ later)
            ]
          ]
        ]
      ]
    ]

pub word-byte-no-space : (byte : ℕ) → is_word_byte byte ≡ true → is_space byte ≡ false
word-byte-no-space byte h = grind (arith, nat_tests)

pub head-of-word : (alone : Bool) (first : ℕ) (later rest : List ℕ) → list_all is_word_byte (first ∷ later) ≡ true → begins_with is_word_byte rest ≡ false
    → head_of alone ((first ∷ later) ++ rest) ≡ Lexeme (word_or_number first (first ∷ later)) rest
head-of-word alone first later rest h k =
    ap
    (λ z. head_by z (is_word_byte first) (nat_eq first 34) (alone && nat_eq first 35) first (later ++ rest))
    (word-byte-no-space first (and-first (is_word_byte first) (list_all is_word_byte later) h))
    ∙ (ap
    (λ z. head_by false z (nat_eq first 34) (alone && nat_eq first 35) first (later ++ rest))
    (and-first (is_word_byte first) (list_all is_word_byte later) h)
    ∙ ap (λ (cut : Cut). Lexeme (word_or_number first cut.front) cut.rest) (run-front is_word_byte (first ∷ later) rest h k))

-- a word is one token, where no letter, digit or underscore stands behind it
pub word_reads : (line : ℕ) (alone : Bool) (text rest : List ℕ) (tokens : List Placed) → begins_with is_letter text ≡ true → list_all is_word_byte text ≡ true
    → begins_with is_word_byte rest ≡ false → AreTokens line false rest tokens
    → AreTokens line alone (text ++ rest) (record { token = Word text; line = line } ∷ tokens)
word_reads line alone [] rest tokens g h k more = absurd (true≢false (sym g))
word_reads line alone (first ∷ later) rest tokens g h k more =
    one_more
    line
    alone
    ((first ∷ later) ++ rest)
    (Word (first ∷ later))
    rest
    tokens
    (head-of-word alone first later rest h k
    ∙ ap (λ z. Lexeme (if z then Word (first ∷ later) else (if is_number (first ∷ later) then Digits (digits_value 10 (first ∷ later)) else Bad)) rest) g)
    more

pub digits-word : (text : List ℕ) → list_all is_ascii_digit text ≡ true → list_all is_word_byte text ≡ true
digits-word [] h = refl
digits-word (first ∷ later) h =
    joined
    (is_word_byte first)
    (list_all is_word_byte later)
    (digit-word (is_letter first) (is_ascii_digit first) (and-first (is_ascii_digit first) (list_all is_ascii_digit later) h))
    (digits-word later (and-second (is_ascii_digit first) (list_all is_ascii_digit later) h))
  where
    joined : (a b : Bool) → a ≡ true → b ≡ true → (a && b) ≡ true
    joined a b h k = subst (λ x. (x && b) ≡ true) (sym h) k

    digit-word : (a b : Bool) → b ≡ true → (a || b) ≡ true
    digit-word true b h = refl
    digit-word false b h = h

pub digit-no-letter : (byte : ℕ) → is_ascii_digit byte ≡ true → is_letter byte ≡ false
digit-no-letter byte h = grind (arith, nat_tests)

-- a number is one token, where no letter, digit or underscore stands behind it
pub number_reads : (line : ℕ) (alone : Bool) (text rest : List ℕ) (tokens : List Placed) → begins_with is_ascii_digit text ≡ true → is_number text ≡ true
    → begins_with is_word_byte rest ≡ false → AreTokens line false rest tokens
    → AreTokens line alone (text ++ rest) (record { token = Digits (digits_value 10 text); line = line } ∷ tokens)
number_reads line alone [] rest tokens g h k more = absurd (true≢false (sym g))
number_reads line alone (first ∷ later) rest tokens g h k more =
    one_more
    line
    alone
    ((first ∷ later) ++ rest)
    (Digits (digits_value 10 (first ∷ later)))
    rest
    tokens
    (head-of-word alone first later rest (digits-word (first ∷ later) (and-first (list_all is_ascii_digit (first ∷ later)) _ h)) k
    ∙ (ap
    (λ z. Lexeme (if z then Word (first ∷ later) else (if is_number (first ∷ later) then Digits (digits_value 10 (first ∷ later)) else Bad)) rest)
    (digit-no-letter first g)
    ∙ ap (λ z. Lexeme (if z then Digits (digits_value 10 (first ∷ later)) else Bad) rest) h))
    more

-- white space goes before any token
pub space_reads : (line : ℕ) (alone : Bool) (byte : ℕ) (rest : List ℕ) (tokens : List Placed) → is_space byte ≡ true
    → AreTokens (line + line_feeds (byte ∷ [])) (still_alone alone (byte ∷ [])) rest tokens → AreTokens line alone (byte ∷ rest) tokens
space_reads line alone byte rest tokens h more =
    behind_a_gap
    line
    alone
    (byte ∷ rest)
    (byte ∷ [])
    rest
    tokens
    (ap (λ z. head_by z (is_word_byte byte) (nat_eq byte 34) (alone && nat_eq byte 35) byte rest) h)
    more

-- the longest sign at the head of a text, by whether two bytes and one byte are a sign
abbrev pub sign_by : Bool → Bool → List ℕ → Head
sign_by two one text =
    elim two [
      | true ↦ Lexeme (Sign (take 2 text)) (drop 2 text)
      | false ↦ elim one [ true ↦ Lexeme (Sign (take 1 text)) (drop 1 text) | false ↦ Lexeme Bad (drop 1 text) ]
    ]

pub false-of-not : (a : Bool) → not a ≡ true → a ≡ false
false-of-not true h = sym h
false-of-not false h = refl

abbrev pub comment_by : Bool → ℕ → List ℕ → Head
comment_by comment first later =
    elim comment [ true ↦ comment_head later (comment_at (first ∷ later)) | false ↦ sign_head (first ∷ later) ]

-- where no white space, word, string, include line or comment begins, a sign does or a byte that begins no token
pub head-of-sign : (alone : Bool) (first : ℕ) (later : List ℕ) → begins_sign first ≡ true → begins_comment (first ∷ later) ≡ false
    → head_of alone (first ∷ later) ≡ sign_by (is_sign (take 2 (first ∷ later))) (is_sign (take 1 (first ∷ later))) (first ∷ later)
head-of-sign alone first later h k =
    ap (λ z. head_by z (is_word_byte first) (nat_eq first 34) (alone && nat_eq first 35) first later) no-space
    ∙ (ap (λ z. head_by false z (nat_eq first 34) (alone && nat_eq first 35) first later) no-word
    ∙ (ap (λ z. head_by false false z (alone && nat_eq first 35) first later) no-quote
    ∙ (ap (λ z. head_by false false false z first later) (hash alone)
    ∙ ap (λ z. comment_by z first later) k)))
  where
    rest1 : (not (is_word_byte first) && (not (nat_eq first 34) && not (nat_eq first 35))) ≡ true
    rest1 = and-second (not (is_space first)) (not (is_word_byte first) && (not (nat_eq first 34) && not (nat_eq first 35))) h

    rest2 : (not (nat_eq first 34) && not (nat_eq first 35)) ≡ true
    rest2 = and-second (not (is_word_byte first)) (not (nat_eq first 34) && not (nat_eq first 35)) rest1

    no-space : is_space first ≡ false
    no-space = false-of-not (is_space first) (and-first (not (is_space first)) (not (is_word_byte first) && (not (nat_eq first 34) && not (nat_eq first 35))) h)

    no-word : is_word_byte first ≡ false
    no-word = false-of-not (is_word_byte first) (and-first (not (is_word_byte first)) (not (nat_eq first 34) && not (nat_eq first 35)) rest1)

    no-quote : nat_eq first 34 ≡ false
    no-quote = false-of-not (nat_eq first 34) (and-first (not (nat_eq first 34)) (not (nat_eq first 35)) rest2)

    no-hash : nat_eq first 35 ≡ false
    no-hash = false-of-not (nat_eq first 35) (and-second (not (nat_eq first 34)) (not (nat_eq first 35)) rest2)

    hash : (z : Bool) → (z && nat_eq first 35) ≡ false
    hash true = no-hash
    hash false = refl

-- a sign of one byte is one token, where it is no longer sign with the byte behind it
pub sign_reads : (line : ℕ) (alone : Bool) (byte : ℕ) (rest : List ℕ) (tokens : List Placed) → begins_sign byte ≡ true → begins_comment (byte ∷ rest) ≡ false
    → is_sign (byte ∷ []) ≡ true → is_sign (take 2 (byte ∷ rest)) ≡ false → AreTokens line false rest tokens
    → AreTokens line alone (byte ∷ rest) (record { token = Sign (byte ∷ []); line = line } ∷ tokens)
sign_reads line alone byte rest tokens g c one two more =
    one_more
    line
    alone
    (byte ∷ rest)
    (Sign (byte ∷ []))
    rest
    tokens
    (head-of-sign alone byte rest g c
    ∙ (ap (λ z. sign_by z (is_sign (take 1 (byte ∷ rest))) (byte ∷ rest)) two ∙ ap (λ z. sign_by false z (byte ∷ rest)) one))
    more

-- a sign of two bytes is one token
pub long_sign_reads : (line : ℕ) (alone : Bool) (a b : ℕ) (rest : List ℕ) (tokens : List Placed) → begins_sign a ≡ true → begins_comment (a ∷ b ∷ rest) ≡ false
    → is_sign (a ∷ b ∷ []) ≡ true → AreTokens line false rest tokens
    → AreTokens line alone (a ∷ b ∷ rest) (record { token = Sign (a ∷ b ∷ []); line = line } ∷ tokens)
long_sign_reads line alone a b rest tokens g c two more =
    one_more
    line
    alone
    (a ∷ b ∷ rest)
    (Sign (a ∷ b ∷ []))
    rest
    tokens
    (head-of-sign alone a (b ∷ rest) g c ∙ ap (λ z. sign_by z (is_sign (take 1 (a ∷ b ∷ rest))) (a ∷ b ∷ rest)) two)
    more
