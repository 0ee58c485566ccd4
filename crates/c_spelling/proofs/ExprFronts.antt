-- The first byte of the text of an operand, which makes no longer sign with the sign before it.
use Rattle.std.specs.Prelude.{◌≡◌, ℕ, ◌≤◌, Bool, true, false, if◌then◌else◌, ◌&&◌, ◌||◌, nat_eq, nat_le, List, [], ◌∷◌, ◌++◌, decimal}
use Rattle.std.specs.Char.{is_ascii_digit}
use Rattle.std.proofs.Common.{refl, ap, sym, true≢false}
use Rattle.std.proofs.lemmas.Bool.Decides.{nat_tests}
use native.Mathlib.Omega.{arith}
use Rattle.c_laws.specs.c_tree.declared.expression.UnaryOp.{UnaryOp}
use Rattle.c_laws.specs.c_tree.declared.expression.UnaryOp.TheVariants.{Minus, Not, Deref, Address}
use Rattle.c_laws.specs.c_tree.Tokens.{Token, Sign, begins_with, is_sign, is_letter, is_word_byte}
use Rattle.c_laws.specs.c_tree.CWords.{prefix_sign}
use Rattle.c_text.specs.Operators.{rank, prefix_word}
use Rattle.c_text.specs.Expressions.{doubles, in_place}
use Rattle.c_spelling.proofs.Tokens.{ReadsAs, in_words, sign, DigitsOf, decimal_digits}

abbrev pub prefix_byte : UnaryOp → ℕ
prefix_byte Minus = 45
prefix_byte Not = 33
prefix_byte Deref = 42
prefix_byte Address = 38

-- the sign makes no longer sign with the text
pub record Apart (o : UnaryOp) (text : List ℕ) : Type 0 where
  pub first : ℕ
  pub later : List ℕ
  pub is : text ≡ first ∷ later
  pub apart : is_sign (prefix_byte o ∷ first ∷ []) ≡ false

-- a letter, a digit, an underscore, a parenthesis or a quote
abbrev pub plain_front : ℕ → Bool
plain_front first = is_word_byte first || (nat_eq first 40 || nat_eq first 34)

pub record Plain (text : List ℕ) : Type 0 where
  pub first : ℕ
  pub later : List ℕ
  pub is : text ≡ first ∷ later
  pub plain : plain_front first ≡ true

plain_minus : (first : ℕ) → plain_front first ≡ true → nat_eq first 45 ≡ false
plain_minus first h = grind (arith, nat_tests)

plain_equals : (first : ℕ) → plain_front first ≡ true → nat_eq first 61 ≡ false
plain_equals first h = grind (arith, nat_tests)

plain_address : (first : ℕ) → plain_front first ≡ true → nat_eq first 38 ≡ false
plain_address first h = grind (arith, nat_tests)

plain_sign : (o : UnaryOp) (first : ℕ) → plain_front first ≡ true → is_sign (prefix_byte o ∷ first ∷ []) ≡ false
plain_sign Minus first h = ap (λ z. z && true || false) (plain_minus first h)
plain_sign Not first h = ap (λ z. z && true || false) (plain_equals first h)
plain_sign Deref first h = refl
plain_sign Address first h = ap (λ z. z && true || false) (plain_address first h)

pub plain_apart : (o : UnaryOp) (text : List ℕ) → Plain text → Apart o text
plain_apart o text p = record { first = p.first; later = p.later; is = p.is; apart = plain_sign o p.first p.plain }

pub plain_append : (text more : List ℕ) → Plain text → Plain (text ++ more)
plain_append text more p = record { first = p.first; later = p.later ++ more; is = ap (λ z. z ++ more) p.is; plain = p.plain }

pub plain_word : (name : List ℕ) → begins_with is_letter name ≡ true → Plain name
plain_word [] letter = absurd (true≢false (sym letter))
plain_word (first ∷ later) letter = record {
  first = first;
  later = later;
  is = refl;
  plain = ap (λ z. (z || is_ascii_digit first) || (nat_eq first 40 || nat_eq first 34)) letter;
}

digit_plain : (first : ℕ) → is_ascii_digit first ≡ true → plain_front first ≡ true
digit_plain first h = grind (arith, nat_tests)

pub plain_number : (n : ℕ) → n ≤ 2147483647 → Plain (decimal n)
plain_number n small =
    let d : DigitsOf n (decimal n) = decimal_digits n (omega arith) in
    record { first = d.first; later = d.later; is = d.is; plain = digit_plain d.first d.digit }

-- two signs that are no one sign
signs_apart : (o inner : UnaryOp) → doubles o inner ≡ false → is_sign (prefix_byte o ∷ prefix_byte inner ∷ []) ≡ false
signs_apart Minus Minus h = absurd (true≢false h)
signs_apart Minus Not h = refl
signs_apart Minus Deref h = refl
signs_apart Minus Address h = refl
signs_apart Not Minus h = refl
signs_apart Not Not h = refl
signs_apart Not Deref h = refl
signs_apart Not Address h = refl
signs_apart Deref Minus h = refl
signs_apart Deref Not h = refl
signs_apart Deref Deref h = refl
signs_apart Deref Address h = refl
signs_apart Address Minus h = refl
signs_apart Address Not h = refl
signs_apart Address Deref h = refl
signs_apart Address Address h = absurd (true≢false h)

prefix_begins : (o : UnaryOp) → prefix_word o ≡ prefix_byte o ∷ []
prefix_begins Minus = refl
prefix_begins Not = refl
prefix_begins Deref = refl
prefix_begins Address = refl

pub prefixed_apart : (o inner : UnaryOp) (more : List ℕ) → doubles o inner ≡ false → Apart o (prefix_word inner ++ more)
prefixed_apart o inner more clear = record {
  first = prefix_byte inner;
  later = more;
  is = ap (λ z. z ++ more) (prefix_begins inner);
  apart = signs_apart o inner clear;
}

-- a sign before a blank
pub blank_apart : (o : UnaryOp) (text : List ℕ) → Apart o (32 ∷ text)
blank_apart o text = record { first = 32; later = text; is = refl; apart = by o }
  where
    by : (o : UnaryOp) → is_sign (prefix_byte o ∷ 32 ∷ []) ≡ false
    by Minus = refl
    by Not = refl
    by Deref = refl
    by Address = refl

-- a sign before an operand
prefix_before : (o : UnaryOp) (first : ℕ) (rest : List ℕ) {tokens : List Token} → is_sign (prefix_byte o ∷ first ∷ []) ≡ false → ReadsAs (first ∷ rest) tokens
    → ReadsAs (prefix_word o ++ first ∷ rest) (Sign (prefix_sign o) ∷ tokens)
prefix_before Minus first rest h r = sign 45 first refl refl refl h r
prefix_before Not first rest h r = sign 33 first refl refl refl h r
prefix_before Deref first rest h r = sign 42 first refl refl refl h r
prefix_before Address first rest h r = sign 38 first refl refl refl h r

pub prefix_reads : (o : UnaryOp) (text rest : List ℕ) {tokens : List Token} → Apart o text → ReadsAs (text ++ rest) tokens → ReadsAs (prefix_word o ++ (text ++ rest)) (Sign (prefix_sign o) ∷ tokens)
prefix_reads o text rest a r =
    in_words (ap (λ z. prefix_word o ++ (z ++ rest)) a.is) (prefix_before o a.first (a.later ++ rest) a.apart (in_words (ap (λ z. z ++ rest) (sym a.is)) r))

-- ## Places

fits_of : (a b : ℕ) → nat_le a b ≡ true → a ≤ b
fits_of a b h = grind (arith, nat_tests)

-- what holds of a text where it binds closely enough, and in parentheses, holds of it at its place
pub in_place_by : (P : List ℕ → Type 0) (l closeness : _) (text : List ℕ) → (rank l ≤ rank closeness → P text) → P (40 ∷ (text ++ 41 ∷ [])) → P (in_place l closeness text)
in_place_by P l closeness text close other = by (nat_le (rank l) (rank closeness)) refl
  where
    by : (b : Bool) → nat_le (rank l) (rank closeness) ≡ b → P (if b then text else 40 ∷ (text ++ 41 ∷ []))
    by true h = close (fits_of (rank l) (rank closeness) h)
    by false h = other

pub plain_parentheses : (text : List ℕ) → Plain (40 ∷ (text ++ 41 ∷ []))
plain_parentheses text = record { first = 40; later = text ++ 41 ∷ []; is = refl; plain = refl }
