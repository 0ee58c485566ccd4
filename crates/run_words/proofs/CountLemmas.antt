-- The limit of steps, by its digits.
use Rattle.std.proofs.Common.{◌≡◌, ℕ, ◌+◌, ◌-◌, ◌*◌, ◌<◌, ◌≤◌, Bool, true, false, List, length, take, get_or, refl, sym, ap, ◌∙◌, Option, Some, None, arith, inl, inr, true≢false}
use Rattle.std.specs.Prelude.{◌⊎◌, ◌&&◌, min, nat_le, nat_lt, if◌then◌else◌}
use Rattle.std.specs.Char.{is_ascii_digit, digit_value}
use Rattle.std.specs.List.{list_all}
use Rattle.std.specs.Str.Parse.{digits_value}
use Rattle.std.proofs.lemmas.Bool.{cases_Bool, and_parts, le-leb, lt-ltb, le-ltb, leb-true}
use Rattle.std.proofs.lemmas.Bool.Decides.{nat_tests}
use Rattle.std.proofs.lemmas.Int.Digits.{digits_value_more}
use Rattle.std.proofs.lemmas.List.Folds.{list_all_at}
use Rattle.run_words.specs.RunWords.{limit_within, step_limit}

pub digit_at : (digits : List ℕ) (i : ℕ) → list_all is_ascii_digit digits ≡ true → i < length digits → is_ascii_digit (get_or digits i 0) ≡ true
digit_at digits i all below = by (cases_Bool (is_ascii_digit (get_or digits i 0)))
  where
    by : (is_ascii_digit (get_or digits i 0) ≡ true) ⊎ (is_ascii_digit (get_or digits i 0) ≡ false) → is_ascii_digit (get_or digits i 0) ≡ true
    by (inl is_so) = is_so
    by (inr is_not) = absurd (true≢false (sym all ∙ list_all_at is_ascii_digit digits i 0 below is_not))

pub digit_bounds : (byte : ℕ) → is_ascii_digit byte ≡ true → (48 ≤ byte) × (byte ≤ 57)
digit_bounds byte h = let range = and_parts _ _ h in (leb-true 48 byte range.0, leb-true byte 57 range.1)

digit_of : (byte : ℕ) → is_ascii_digit byte ≡ true → digit_value byte ≡ byte - 48
digit_of byte h =
    let range = digit_bounds byte h in
    rw (le-ltb byte 48 range.0) (rw (lt-ltb byte 58 (omega (arith, range.1))) refl)

pub one_digit_more : (digits : List ℕ) (i after value digit next : ℕ) → list_all is_ascii_digit digits ≡ true → i < length digits → after ≡ i + 1
    → value ≡ min (digits_value 10 (take i digits)) 1000000000001 → digit ≡ get_or digits i 0 - 48 → next ≡ min (value * 10 + digit) 1000000000001
    → next ≡ min (digits_value 10 (take after digits)) 1000000000001
one_digit_more digits i after value digit next all below on so_far is made =
    let whole = digits_value 10 (take i digits) in
    let more : digits_value 10 (take (i + 1) digits) ≡ whole * 10 + digit_value (get_or digits i 0) = digits_value_more 10 digits i below in
    let last : digit_value (get_or digits i 0) ≡ digit = digit_of (get_or digits i 0) (digit_at digits i all below) ∙ sym is in
    let sum : digits_value 10 (take after digits) ≡ whole * 10 + digit = ap (λ n. digits_value 10 (take n digits)) on ∙ more ∙ ap (λ d. whole * 10 + d) last in
    by whole (digits_value 10 (take after digits)) sum so_far
  where
    by : (whole longer : ℕ) → longer ≡ whole * 10 + digit → value ≡ min whole 1000000000001 → next ≡ min longer 1000000000001
    by whole longer sum far = omega (arith, sum, far, made)

limit_by : Bool → Bool → Bool → List ℕ → Option ℕ
limit_by some short digits word = if some && (short && digits) then limit_within (digits_value 10 word) else None

-- no word that is none
not_by : (some short digits : Bool) (word : List ℕ) → some && (short && digits) ≡ false → limit_by some short digits word ≡ None
unfolding limit_by
not_by some short digits word is = ap (λ t. if t then limit_within (digits_value 10 word) else None) is

pub no_digits : (word : List ℕ) → length word ≡ 0 → None ≡ step_limit word
unfolding limit_by
no_digits word none = sym (ap (λ n. limit_by (nat_lt 0 n) (nat_le (length word) 13) (list_all is_ascii_digit word) word) none)

pub too_long : (word : List ℕ) → 13 < length word → None ≡ step_limit word
unfolding limit_by
too_long word long = sym (not_by (nat_lt 0 (length word)) (nat_le (length word) 13) (list_all is_ascii_digit word) word (by (nat_lt 0 (length word)) over))
  where
    over : nat_le (length word) 13 ≡ false
    over = grind (arith, nat_tests)

    by : (some : Bool) → nat_le (length word) 13 ≡ false → some && (nat_le (length word) 13 && list_all is_ascii_digit word) ≡ false
    by true is = ap (λ t. t && list_all is_ascii_digit word) is
    by false is = refl

pub not_digits : (word : List ℕ) → list_all is_ascii_digit word ≡ false → None ≡ step_limit word
unfolding limit_by
not_digits word not = sym (not_by (nat_lt 0 (length word)) (nat_le (length word) 13) (list_all is_ascii_digit word) word (by (nat_lt 0 (length word)) (nat_le (length word) 13)))
  where
    by : (some short : Bool) → some && (short && list_all is_ascii_digit word) ≡ false
    by true true = not
    by true false = refl
    by false short = refl

-- a word of so many digits
limit_of : (word : List ℕ) → 0 < length word → length word ≤ 13 → list_all is_ascii_digit word ≡ true → step_limit word ≡ limit_within (digits_value 10 word)
unfolding limit_by
limit_of word some short all =
    ap (λ t. limit_by t (nat_le (length word) 13) (list_all is_ascii_digit word) word) (lt-ltb 0 (length word) some)
    ∙ ap (λ t. limit_by true t (list_all is_ascii_digit word) word) (le-leb (length word) 13 short)
    ∙ ap (λ t. limit_by true true t word) all

within_by : (value : ℕ) (more fits : Bool) → nat_lt 0 value ≡ more → nat_le value 1000000000000 ≡ fits → limit_within value ≡ (if more && fits then Some value else None)
within_by value more fits is fit = ap (λ t. if t && nat_le value 1000000000000 then Some value else None) is ∙ ap (λ t. if more && t then Some value else None) fit

pub no_limit : (word : List ℕ) (value : ℕ) → (length word ≡ 0 → ⊥) → length word ≤ 13 → list_all is_ascii_digit word ≡ true → value ≡ min (digits_value 10 word) 1000000000001 →
    (0 < value → value < 1000000000001 → ⊥) → None ≡ step_limit word
no_limit word value some short all is not = sym (limit_of word (omega (arith, some)) short all ∙ by (digits_value 10 word) is)
  where
    by : (whole : ℕ) → value ≡ min whole 1000000000001 → limit_within whole ≡ None
    by whole same = from (nat_lt 0 whole) (nat_le whole 1000000000000) refl refl
      where
        from : (more fits : Bool) → nat_lt 0 whole ≡ more → nat_le whole 1000000000000 ≡ fits → limit_within whole ≡ None
        from true true m f = absurd (not (omega (arith, same, positive m, leb-true whole 1000000000000 f)) (omega (arith, same, leb-true whole 1000000000000 f)))
          where
            positive : nat_lt 0 whole ≡ true → 0 < whole
            positive h = grind (arith, nat_tests, h)
        from true false m f = within_by whole true false m f
        from false fits m f = within_by whole false fits m f

pub limit_is : (word : List ℕ) (value : ℕ) → (length word ≡ 0 → ⊥) → length word ≤ 13 → list_all is_ascii_digit word ≡ true → value ≡ min (digits_value 10 word) 1000000000001 →
    0 < value → value < 1000000000001 → Some value ≡ step_limit word
limit_is word value some short all is more small =
    let same : value ≡ digits_value 10 word = equal (digits_value 10 word) is in
    sym (limit_of word (omega (arith, some)) short all
    ∙ (within_by (digits_value 10 word) true true (lt-ltb 0 (digits_value 10 word) (omega (arith, same, more))) (le-leb (digits_value 10 word) 1000000000000 (omega (arith, same, small)))
    ∙ ap (λ n. Some n) (sym same)))
  where
    equal : (whole : ℕ) → value ≡ min whole 1000000000001 → value ≡ whole
    equal whole is = omega (arith, is, small)
