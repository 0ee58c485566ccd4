-- Numbers, by their digits.
use Rattle.std.proofs.Common.{◌≡◌, ℕ, ◌+◌, ◌-◌, ◌*◌, ◌<◌, ◌≤◌, Bool, true, false, List, length, take, get_or, refl, sym, ap, ◌∙◌, Option, Some, None, arith, inl, inr, true≢false}
use Rattle.std.specs.Prelude.{◌⊎◌, ◌&&◌, min, nat_le, if◌then◌else◌}
use Rattle.std.specs.Char.{is_ascii_digit, digit_value}
use Rattle.std.specs.List.{list_all}
use Rattle.std.specs.Str.Parse.{digits_value}
use Rattle.std.proofs.lemmas.Bool.{cases_Bool, and_parts, le-leb, lt-ltb, le-ltb, leb-true}
use Rattle.std.proofs.lemmas.Bool.Decides.{nat_tests}
use Rattle.std.proofs.lemmas.Int.Digits.{digits_value_more}
use Rattle.std.proofs.lemmas.List.Folds.{list_all_at}
use Rattle.c_tree.specs.Tokens.{is_letter, is_short, begins_with, word_or_number, Word, Digits, Bad}
use Rattle.c_tree.specs.Tokens as c
use Rattle.c_lexer.specs.Parts.{as_number}

pub digit_at : (digits : List ℕ) (i : ℕ) → list_all is_ascii_digit digits ≡ true → i < length digits → is_ascii_digit (get_or digits i 0) ≡ true
digit_at digits i all below = by (cases_Bool (is_ascii_digit (get_or digits i 0)))
  where
    by : (is_ascii_digit (get_or digits i 0) ≡ true) ⊎ (is_ascii_digit (get_or digits i 0) ≡ false) → is_ascii_digit (get_or digits i 0) ≡ true
    by (inl is_so) = is_so
    by (inr is_not) = absurd (true≢false (sym all ∙ list_all_at is_ascii_digit digits i 0 below is_not))

pub digit_bounds : (byte : ℕ) → is_ascii_digit byte ≡ true → (48 ≤ byte) × (byte ≤ 57)
digit_bounds byte h = let range = and_parts _ _ h in (leb-true 48 byte range.0, leb-true byte 57 range.1)

digit_of : (byte : ℕ) → is_ascii_digit byte ≡ true → digit_value byte ≡ byte - 48
digit_of byte h =
    let range = digit_bounds byte h in
    rw (le-ltb byte 48 range.0) (rw (lt-ltb byte 58 (omega (arith, range.1))) refl)

pub one_digit_more : (digits : List ℕ) (i after value digit next : ℕ) → list_all is_ascii_digit digits ≡ true → i < length digits → after ≡ i + 1
    → value ≡ min (digits_value 10 (take i digits)) 2147483648 → digit ≡ get_or digits i 0 - 48 → next ≡ min (value * 10 + digit) 2147483648
    → next ≡ min (digits_value 10 (take after digits)) 2147483648
one_digit_more digits i after value digit next all below on so_far is made =
    let whole = digits_value 10 (take i digits) in
    let more : digits_value 10 (take (i + 1) digits) ≡ whole * 10 + digit_value (get_or digits i 0) = digits_value_more 10 digits i below in
    let last : digit_value (get_or digits i 0) ≡ digit = digit_of (get_or digits i 0) (digit_at digits i all below) ∙ sym is in
    let sum : digits_value 10 (take after digits) ≡ whole * 10 + digit = ap (λ n. digits_value 10 (take n digits)) on ∙ more ∙ ap (λ d. whole * 10 + d) last in
    by whole (digits_value 10 (take after digits)) sum so_far
  where
    by : (whole longer : ℕ) → longer ≡ whole * 10 + digit → value ≡ min whole 2147483648 → next ≡ min longer 2147483648
    by whole longer sum far = omega (arith, sum, far, made)

number_by : Bool → Bool → Bool → ℕ → Option ℕ
number_by digits short small value = if digits && (short && small) then Some value else None

pub number_not_digits : (text : List ℕ) → list_all is_ascii_digit text ≡ false → None ≡ as_number text
unfolding number_by
number_not_digits text h = sym (ap (λ z. number_by z (is_short text) (nat_le (digits_value 10 text) 2147483647) (digits_value 10 text)) h)

pub number_not_short : (text : List ℕ) → is_short text ≡ false → None ≡ as_number text
unfolding number_by
number_not_short text h =
    sym (ap (λ z. number_by (list_all is_ascii_digit text) z (nat_le (digits_value 10 text) 2147483647) (digits_value 10 text)) h ∙ by (list_all is_ascii_digit text))
  where
    by : (digits : Bool) → number_by digits false (nat_le (digits_value 10 text) 2147483647) (digits_value 10 text) ≡ None
    by true = refl
    by false = refl

number_of_digits : (text : List ℕ) (small : Bool) → list_all is_ascii_digit text ≡ true → is_short text ≡ true → nat_le (digits_value 10 text) 2147483647 ≡ small
    → as_number text ≡ number_by true true small (digits_value 10 text)
unfolding number_by
number_of_digits text small h k l =
    ap (λ z. number_by z (is_short text) (nat_le (digits_value 10 text) 2147483647) (digits_value 10 text)) h
    ∙ ap (λ z. number_by true z (nat_le (digits_value 10 text) 2147483647) (digits_value 10 text)) k ∙ ap (λ z. number_by true true z (digits_value 10 text)) l

pub number_too_large : (text : List ℕ) (value : ℕ) → list_all is_ascii_digit text ≡ true → is_short text ≡ true → value ≡ min (digits_value 10 text) 2147483648
    → 2147483648 ≤ value → None ≡ as_number text
unfolding number_by
number_too_large text value h k is large = sym (number_of_digits text false h k (over (digits_value 10 text) is))
  where
    over : (whole : ℕ) → value ≡ min whole 2147483648 → nat_le whole 2147483647 ≡ false
    over whole same = let past : 2147483647 < whole = omega (arith, same, large) in grind (arith, nat_tests)

pub number_is : (text : List ℕ) (value : ℕ) → list_all is_ascii_digit text ≡ true → is_short text ≡ true → value ≡ min (digits_value 10 text) 2147483648
    → value < 2147483648 → Some value ≡ as_number text
unfolding number_by
number_is text value h k is small =
    let same : value ≡ digits_value 10 text = equal (digits_value 10 text) is in
    ap (λ n. Some n) same ∙ sym (number_of_digits text true h k (under (digits_value 10 text) is))
  where
    equal : (whole : ℕ) → value ≡ min whole 2147483648 → value ≡ whole
    equal whole is = omega (arith, is, small)

    under : (whole : ℕ) → value ≡ min whole 2147483648 → nat_le whole 2147483647 ≡ true
    under whole is = le-leb whole 2147483647 (omega (arith, is, small))

-- the token of a word or a number
token_by : Bool → Option ℕ → List ℕ → c.Token
token_by letter (Some value) text = if letter then Word text else Digits value
token_by letter None text = if letter then Word text else Bad

pub word_token : (first : ℕ) (text : List ℕ) → is_letter first ≡ true → Word text ≡ word_or_number first text
word_token first text h = sym (ap (λ z. if z then Word text else (if c.is_number text then Digits (digits_value 10 text) else Bad)) h)

number_case : (is : Bool) (value : ℕ) (text : List ℕ) → (if is then Digits value else Bad) ≡ token_by false (if is then Some value else None) text
unfolding token_by
number_case true value text = refl
number_case false value text = refl

number_token : (first : ℕ) (text : List ℕ) (number : Option ℕ) → is_letter first ≡ false → number ≡ as_number text → word_or_number first text ≡ token_by false number text
number_token first text number h is =
    ap (λ z. if z then Word text else (if c.is_number text then Digits (digits_value 10 text) else Bad)) h ∙ number_case (c.is_number text) (digits_value 10 text) text
    ∙ ap (λ n. token_by false n text) (sym is)

pub digits_token : (first value : ℕ) (text : List ℕ) → is_letter first ≡ false → Some value ≡ as_number text → Digits value ≡ word_or_number first text
unfolding token_by
digits_token first value text h is = sym (number_token first text (Some value) h is)

pub bad_token : (first : ℕ) (text : List ℕ) → is_letter first ≡ false → None ≡ as_number text → Bad ≡ word_or_number first text
unfolding token_by
bad_token first text h is = sym (number_token first text None h is)
