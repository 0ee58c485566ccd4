-- Labels, digit by digit.
use Rattle.std.proofs.Common.{◌≡◌, ℕ, zero, suc, ◌+◌, ◌-◌, ◌*◌, ◌^◌, ◌<◌, ◌≤◌, true, false, List, [], ◌∷◌, length, drop, get_or, refl, sym, ap, ◌∙◌, add-one, arith, Option, Some, None}
use Rattle.std.specs.Prelude.{◌==◌, ◌&&◌, not, filter, nat_lt, nat_le, if◌then◌else◌}
use Rattle.std.specs.Char.{is_ascii_digit, digit_value}
use Rattle.std.specs.Int.{IsInRange}
use Rattle.std.specs.List.{list_all}
use Rattle.std.specs.Str.Parse.{digits_value_after}
use Rattle.std.proofs.Math.Nat.{pow-succ'}
use Rattle.std.proofs.lemmas.Bool.{and_parts, eq-eqb, ne_eqb, leb-true, lt-ltb}
use Rattle.std.proofs.lemmas.List.{drop_more}
use Rattle.std.proofs.lemmas.Str.{digit_value_digit}
use Rattle.fortran_text.specs.CharactersOfText.{is_blank}
use Rattle.fortran_text.specs.KindsOfCards.{label_of, label_of_digits}

-- the label that digits in front and a field make
label_by : ℕ → List ℕ → Option ℕ
label_by value digits = if list_all is_ascii_digit digits && nat_lt 0 (digits_value_after 10 value digits) then Some (digits_value_after 10 value digits) else None

pub label_from : ℕ → List ℕ → Option ℕ
label_from value field = label_by value (filter (λ c. not (is_blank c)) field)

label_begins : (field : List ℕ) → label_of field ≡ label_from 0 field
unfolding label_of label_of_digits label_from label_by
label_begins field = refl

label_blank : (value b : ℕ) (rest : List ℕ) → b == 32 ≡ true → label_from value (b ∷ rest) ≡ label_from value rest
unfolding label_from
label_blank value b rest h = rw h

label_digit : (value b : ℕ) (rest : List ℕ) → b == 32 ≡ false → is_ascii_digit b ≡ true → label_from value (b ∷ rest) ≡ label_from (value * 10 + digit_value b) rest
unfolding label_from label_by
label_digit value b rest h k = rw (h, k)

label_other : (value b : ℕ) (rest : List ℕ) → b == 32 ≡ false → is_ascii_digit b ≡ false → label_from value (b ∷ rest) ≡ None
unfolding label_from label_by
label_other value b rest h k = rw (h, k)

label_zero : label_from 0 [] ≡ None
unfolding label_from label_by
label_zero = refl

label_some : (value : ℕ) → nat_lt 0 value ≡ true → label_from value [] ≡ Some value
unfolding label_from label_by
label_some value h = rw h

none_left : (n : ℕ) (xs : List ℕ) → length xs ≤ n → drop n xs ≡ []
none_left zero [] low = refl
none_left zero (x ∷ xs) low = absurd (omega arith)
none_left (suc n) [] low = refl
none_left (suc n) (x ∷ xs) low = none_left n xs (omega arith)

-- What is known when a number of columns have been read.
pub record Labelling (field : List ℕ) (i value : ℕ) : Type 0 where
  pub start : label_of field ≡ label_from value (drop i field)
  pub low : value < 10 ^ i

pub label_start : (field : List ℕ) → Labelling field 0 0
label_start field = record { start = label_begins field; low = omega arith }

power_suc : (i : ℕ) → 10 ^ (suc i) ≡ 10 * 10 ^ i
power_suc i = pow-succ' 10 i

power_low : (i : ℕ) → i < 5 → 10 ^ i ≤ 10000
power_low zero h = omega arith
power_low (suc zero) h = omega arith
power_low (suc (suc zero)) h = omega arith
power_low (suc (suc (suc zero))) h = omega arith
power_low (suc (suc (suc (suc zero)))) h = omega arith
power_low (suc (suc (suc (suc (suc i))))) h = absurd (omega arith)

digit_range : (b : ℕ) → is_ascii_digit b ≡ true → IsInRange 48 57 b
digit_range b h =
    let parts = and_parts (nat_le 48 b) (nat_le b 57) h in
    (leb-true 48 b parts.0, leb-true b 57 parts.1)

-- one more column
module _ (field : List ℕ) (i value : ℕ) (h : Labelling field i value) (low : i < length field) where
  here : label_of field ≡ label_from value (get_or field i 0 ∷ drop (i + 1) field)
  here = h.start ∙ ap (label_from value) (drop_more field i 0 low)

  more : value * 10 + 9 < 10 ^ (i + 1)
  more = omega (arith, h.low, ap (λ n. 10 ^ n) (add-one i), power_suc i)

  pub label_step_blank : get_or field i 0 ≡ 32 → Labelling field (i + 1) value
  label_step_blank is = record {
    start = here ∙ label_blank value (get_or field i 0) (drop (i + 1) field) (eq-eqb (get_or field i 0) 32 is);
    low = omega (arith, more);
  }

  pub label_step_digit : (get_or field i 0 ≡ 32 → ⊥) → is_ascii_digit (get_or field i 0) ≡ true → (next : ℕ) → next ≡ value * 10 + (get_or field i 0 - 48)
      → Labelling field (i + 1) next
  label_step_digit other digit next is =
      let b = get_or field i 0 in
      let range = digit_range b digit in
      let d : digit_value b ≡ b - 48 = omega (arith, digit_value_digit b range) in
      let small : b - 48 ≤ 9 = omega (arith, range.0, range.1) in
      record {
        start = here ∙ label_digit value b (drop (i + 1) field) (ne_eqb b 32 other) digit ∙ ap (λ v. label_from v (drop (i + 1) field)) (ap (λ n. value * 10 + n) d
            ∙ sym is);
        low = omega (arith, more);
      }

  pub label_step_other : (get_or field i 0 ≡ 32 → ⊥) → is_ascii_digit (get_or field i 0) ≡ false → None ≡ label_of field
  label_step_other other digit = sym (here ∙ label_other value (get_or field i 0) (drop (i + 1) field) (ne_eqb (get_or field i 0) 32 other) digit)

-- behind the last column
pub label_none : (field : List ℕ) (i value : ℕ) → Labelling field i value → length field ≤ i → value ≡ 0 → None ≡ label_of field
label_none field i value h end is = sym (h.start ∙ ap (label_from value) (none_left i field end) ∙ ap (λ v. label_from v []) is ∙ label_zero)

pub label_found : (field : List ℕ) (i value : ℕ) → Labelling field i value → length field ≤ i → (value ≡ 0 → ⊥) → Some value ≡ label_of field
label_found field i value h end is = sym (h.start ∙ ap (label_from value) (none_left i field end) ∙ label_some value (lt-ltb 0 value (omega arith)))
