-- Words, counts and their characters.
use Rattle.std.proofs.Common.{◌≡◌, ◌⊎◌, inl, inr, Some, None, one-add, ℕ, ◌+◌, ◌-◌, ◌^◌, ◌<◌, ◌≤◌, ◌==◌, nat_lt, nat_le, Bool, true, false, not, ◌||◌, ◌&&◌, if◌then◌else◌, min, fold, IsTrue, List, [], ◌∷◌, take, refl, sym, ap, ◌∙◌, arith}
use Rattle.std.proofs.lemmas.Bool.{and_parts, cases_lt, lt-leb}
use Rattle.std.specs.List.{list_all}
use Rattle.std.specs.Char.{is_ascii_digit}
use Rattle.std.specs.Str.{all_ascii_digits}
use Rattle.std.specs.Str.Parse.{digits_value}
use Rattle.edit_rules.specs.ListPlaces.{int_word_of_blanks}
use Rattle.edit_rules.proofs.TakeSteps.{size_from}
use Rattle.std.proofs.lemmas.Bool.Decides.{nat_tests}
use Rattle.edit_meaning.specs.TakenFields.{with_blanks_as, int_of, next_size}
use Rattle.edit_meaning.specs.ListInput.{word_length, digit_count, int_word, count_of}

as_they_are_by : (b : Bool) (c : ℕ) (cs : List ℕ) → not b ≡ true → with_blanks_as false cs ≡ cs
    → (if b then with_blanks_as false cs else c ∷ with_blanks_as false cs) ≡ c ∷ cs
as_they_are_by false c cs h e = ap (λ z. c ∷ z) e
as_they_are_by true c cs h e = absurd (cc)

-- characters without blanks
pub as_they_are : (text : List ℕ) → IsTrue (list_all (λ c. not (c == 32)) text) → with_blanks_as false text ≡ text
as_they_are [] h = refl
as_they_are (c ∷ cs) h = let parts = and_parts _ _ h in as_they_are_by (c == 32) c cs parts.0 (as_they_are cs parts.1)

word_by : (c : ℕ) (cs : List ℕ) (blank other : Bool) (n : ℕ) → (c == 32) ≡ blank → IsTrue (list_all (λ c. not (c == 32)) (take n cs))
    → IsTrue (list_all (λ c. not (c == 32)) (take (if not (blank || other) then 1 + n else 0) (c ∷ cs)))
word_by c cs true other n e h = refl
word_by c cs false true n e h = refl
word_by c cs false false n e h = rw (one-add, e) h

-- a word has no blank
pub word_characters : (text : List ℕ) → IsTrue (list_all (λ c. not (c == 32)) (take (word_length text) text))
word_characters [] = refl
word_characters (c ∷ cs) = word_by c cs (c == 32) (c == 44 || c == 47) (word_length cs) refl (word_characters cs)

digit_by : (c : ℕ) (cs : List ℕ) (digit : Bool) (n : ℕ) → is_ascii_digit c ≡ digit → IsTrue (all_ascii_digits (take n cs))
    → IsTrue (all_ascii_digits (take (if not (not digit) then 1 + n else 0) (c ∷ cs)))
digit_by c cs false n e h = refl
digit_by c cs true n e h = rw (one-add, e) h

-- the digits in front are digits
pub digit_characters : (text : List ℕ) → IsTrue (all_ascii_digits (take (digit_count text) text))
digit_characters [] = refl
digit_characters (c ∷ cs) = digit_by c cs (is_ascii_digit c) (digit_count cs) refl (digit_characters cs)

digit_no_blank : (c : ℕ) → is_ascii_digit c ≡ true → (c == 32) ≡ false
digit_no_blank c h = grind (arith, nat_tests)

count_by : (most number : ℕ) → 32767 < most → (most < number) ⊎ (number ≤ most) → count_of (min number most) ≡ count_of number
count_by most number h (inl more) =
    let m : min number most ≡ most = omega arith in
    let a : nat_le most 32767 ≡ false = lt-leb most 32767 h in
    let b : nat_le number 32767 ≡ false = lt-leb number 32767 (omega arith) in
    rw m (none_by (nat_lt 0 most) (nat_le most 32767) most a ∙ sym (none_by (nat_lt 0 number) (nat_le number 32767) number b))
  where
    none_by : (x y : Bool) (n : ℕ) → y ≡ false → (if x && y then Some n else None) ≡ None
    none_by true y n e = rw e refl
    none_by false y n e = refl
count_by most number h (inr less) = let m : min number most ≡ number = omega arith in rw m refl

pub digits_as_they_are : (text : List ℕ) → IsTrue (all_ascii_digits text) → with_blanks_as false text ≡ text
digits_as_they_are [] h = refl
digits_as_they_are (c ∷ cs) h =
    let parts = and_parts _ _ h in
    let no_blank : (c == 32) ≡ false = digit_no_blank c parts.0 in
    as_they_are_by (c == 32) c cs (rw no_blank refl) (digits_as_they_are cs parts.1)

-- what the digits come to in 64 bits tells whether they are a count
pub count_is : (digits : List ℕ) → IsTrue (all_ascii_digits digits) → fold (λ size c. next_size false size c) 0 digits ≡ min (digits_value 10 digits) (2 ^ 64 - 1)
count_is digits h =
    let e = digits_as_they_are digits h in
    size_from false 0 digits (rw e h) ∙ ap (λ z. min (digits_value 10 z) (2 ^ 64 - 1)) e

pub count_of_capped : (number : ℕ) → count_of (min number (2 ^ 64 - 1)) ≡ count_of number
count_of_capped number = count_by (2 ^ 64 - 1) number (omega arith) (cases_lt (2 ^ 64 - 1) number)

pub counted : (digits : List ℕ) (size : ℕ) → IsTrue (all_ascii_digits digits) → size ≡ fold (λ size c. next_size false size c) 0 digits
    → count_of size ≡ count_of (digits_value 10 digits)
counted digits size h e = ap count_of (e ∙ count_is digits h) ∙ count_of_capped (digits_value 10 digits)

int_words_by : (minus plus : Bool) (c : ℕ) (cs : List ℕ) → with_blanks_as false cs ≡ cs → with_blanks_as false (c ∷ cs) ≡ c ∷ cs
    → (if minus then int_of true (with_blanks_as false cs) else (if plus then int_of false (with_blanks_as false cs) else int_of false (with_blanks_as false (c ∷ cs))))
    ≡ (if minus then int_of true cs else (if plus then int_of false cs else int_of false (c ∷ cs)))
int_words_by true plus c cs e f = ap (int_of true) e
int_words_by false true c cs e f = ap (int_of false) e
int_words_by false false c cs e f = ap (int_of false) f

pub int_words : (text : List ℕ) → IsTrue (list_all (λ c. not (c == 32)) text) → int_word_of_blanks text ≡ int_word text
int_words [] h = refl
int_words (c ∷ cs) h = int_words_by (c == 45) (c == 43) c cs (as_they_are cs (and_parts _ _ h).1) (as_they_are (c ∷ cs) h)
