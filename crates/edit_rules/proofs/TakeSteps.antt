-- What the characters of a field come to.
use Rattle.std.proofs.Common.{◌≡◌, ℕ, ℤ, pos, neg_ℤ, Result, Ok, Err, ◌⊎◌, inl, inr, ◌+◌, ◌-◌, ◌*◌, ◌^◌, ◌<◌, ◌≤◌, ◌==◌, nat_lt, nat_le, one-add, Bool, true, false, not, ◌||◌, ◌&&◌, if◌then◌else◌, min, fold, IsTrue, List, [], ◌∷◌, length, take, drop, refl, sym, ap, ◌∙◌, arith}
use Rattle.std.specs.List.{list_any, list_all, position_or_len}
use Rattle.std.specs.Char.{is_ascii_digit, digit_value}
use Rattle.std.specs.Str.{all_ascii_digits}
use Rattle.std.specs.Str.Parse.{digits_value, digits_value_after}
use Rattle.std.proofs.lemmas.Bool.{and_parts, cases_lt, lt-leb, le-ltb}
use Rattle.std.proofs.lemmas.List.Sums.{prefix_len-le-length}
use Rattle.std.proofs.lemmas.Bool.Decides.{nat_tests}
use Rattle.std.proofs.lemmas.Grind.{common_steps}
use Rattle.edit_meaning.specs.TakenFields.{behind_blanks, with_blanks_as, is_number, signed_int, next_size}

pub whole_rest : (text : List ℕ) (done : ℕ) → take (length text - done) (drop done text) ≡ drop done text
whole_rest text done = grind (arith, common_steps)

behind_by : (b : Bool) (n : ℕ) (c : ℕ) (cs : List ℕ) → drop n cs ≡ behind_blanks cs
    → drop (if not (not b) then 1 + n else 0) (c ∷ cs) ≡ (if b then behind_blanks cs else c ∷ cs)
behind_by true n c cs h = rw one-add h
behind_by false n c cs h = refl

pub behind_blanks_is : (field : List ℕ) → drop (position_or_len (λ c. not (c == 32)) field) field ≡ behind_blanks field
behind_blanks_is [] = refl
behind_blanks_is (c ∷ cs) = behind_by (c == 32) _ c cs (behind_blanks_is cs)

pub tail_is : (field : List ℕ) (n : ℕ) → n ≡ position_or_len (λ c. not (c == 32)) field → take (length field - n) (drop n field) ≡ behind_blanks field
tail_is field n e = whole_rest field n ∙ ap (λ k. drop k field) e ∙ behind_blanks_is field

pub position_within : (field : List ℕ) → position_or_len (λ c. not (c == 32)) field ≤ length field
position_within field = prefix_len-le-length _ field

abbrev nonempty : List ℕ → Bool
nonempty [] = false
nonempty (c ∷ cs) = true

is_number_parts : (digits : List ℕ) → is_number digits ≡ (nonempty digits && all_ascii_digits digits)
is_number_parts [] = refl
is_number_parts (c ∷ cs) = refl

has_by : (c : ℕ) (cs : List ℕ) (b : Bool) → list_any (λ c. false || not (c == 32)) cs ≡ nonempty (with_blanks_as false cs)
    → ((false || not b) || list_any (λ c. false || not (c == 32)) cs) ≡ nonempty (if b then with_blanks_as false cs else c ∷ with_blanks_as false cs)
has_by c cs true h = h
has_by c cs false h = refl

has_digit_is : (zeros : Bool) (text : List ℕ) → list_any (λ c. zeros || not (c == 32)) text ≡ nonempty (with_blanks_as zeros text)
has_digit_is zeros [] = refl
has_digit_is true (c ∷ cs) = refl
has_digit_is false (c ∷ cs) = has_by c cs (c == 32) (has_digit_is false cs)

digit_by : (b d : Bool) (c : ℕ) (rest : Bool) → (b || is_ascii_digit c) ≡ is_ascii_digit (if b then 48 else c)
digit_by true d c rest = refl
digit_by false d c rest = refl

all_digits_is : (zeros : Bool) (text : List ℕ) → list_all (λ c. c == 32 || is_ascii_digit c) text ≡ all_ascii_digits (with_blanks_as zeros text)
all_digits_is zeros [] = refl
all_digits_is true (c ∷ cs) =
    ap (λ x. x && list_all (λ c. c == 32 || is_ascii_digit c) cs) (digit_by (c == 32) true c true)
    ∙ ap (λ x. is_ascii_digit (if c == 32 then 48 else c) && x) (all_digits_is true cs)
all_digits_is false (c ∷ cs) = by_cons c cs (c == 32) (all_digits_is false cs)
  where
    by_cons : (c : ℕ) (cs : List ℕ) (b : Bool) → list_all (λ c. c == 32 || is_ascii_digit c) cs ≡ all_ascii_digits (with_blanks_as false cs)
        → ((b || is_ascii_digit c) && list_all (λ c. c == 32 || is_ascii_digit c) cs) ≡ all_ascii_digits (if b then with_blanks_as false cs else c ∷ with_blanks_as false cs)
    by_cons c cs true h = h
    by_cons c cs false h = ap (λ x. is_ascii_digit c && x) h

capped_step : (most size d : ℕ) → min (min (min size most * 10) most + d) most ≡ min (size * 10 + d) most
capped_step most size d = omega arith

digit_value_is : (c : ℕ) → is_ascii_digit c ≡ true → digit_value c ≡ c - 48
digit_value_is c h = grind (arith, nat_tests)

-- one step of the size: a digit's value is its distance from 0, and a blank has none
digit_step : (size c : ℕ) → is_ascii_digit c ≡ true → min (min (min size (2 ^ 64 - 1) * 10) (2 ^ 64 - 1) + (c - 48)) (2 ^ 64 - 1) ≡ min (size * 10 + digit_value c) (2 ^ 64 - 1)
digit_step size c h =
    rw (digit_value_is c h) (capped_step (2 ^ 64 - 1) size (c - 48))

zero_by : (size c : ℕ) (b : Bool) → (c == 32) ≡ b → is_ascii_digit (if b then 48 else c) ≡ true
    → (if b && false then min size (2 ^ 64 - 1) else min (min (min size (2 ^ 64 - 1) * 10) (2 ^ 64 - 1) + (c - 48)) (2 ^ 64 - 1))
    ≡ min (size * 10 + digit_value (if b then 48 else c)) (2 ^ 64 - 1)
zero_by size c true e h =
    let z : c - 48 ≡ 0 = grind (arith, nat_tests) in rw z (capped_step (2 ^ 64 - 1) size 0)
zero_by size c false e h = digit_step size c h

zero_step : (size c : ℕ) → is_ascii_digit (if c == 32 then 48 else c) ≡ true
    → next_size true (min size (2 ^ 64 - 1)) c ≡ min (size * 10 + digit_value (if c == 32 then 48 else c)) (2 ^ 64 - 1)
zero_step size c h = zero_by size c (c == 32) refl h

null_step : (size c : ℕ) (cs : List ℕ) (b : Bool) → (c == 32) ≡ b
    → all_ascii_digits (if b then with_blanks_as false cs else c ∷ with_blanks_as false cs) ≡ true
    → ((size' : ℕ) → all_ascii_digits (with_blanks_as false cs) ≡ true
    → fold (next_size false) (min size' (2 ^ 64 - 1)) cs ≡ min (digits_value_after 10 size' (with_blanks_as false cs)) (2 ^ 64 - 1))
    → fold (next_size false) (if b && true then min size (2 ^ 64 - 1) else min (min (min size (2 ^ 64 - 1) * 10) (2 ^ 64 - 1) + (c - 48)) (2 ^ 64 - 1)) cs
    ≡ min (digits_value_after 10 size (if b then with_blanks_as false cs else c ∷ with_blanks_as false cs)) (2 ^ 64 - 1)
null_step size c cs true e h ih = ih size h
null_step size c cs false e h ih =
    let parts = and_parts _ _ h in
    ap (λ n. fold (next_size false) n cs) (digit_step size c parts.0) ∙ ih (size * 10 + digit_value c) parts.1

pub size_from : (zeros : Bool) (size : ℕ) (text : List ℕ) → all_ascii_digits (with_blanks_as zeros text) ≡ true
    → fold (next_size zeros) (min size (2 ^ 64 - 1)) text ≡ min (digits_value_after 10 size (with_blanks_as zeros text)) (2 ^ 64 - 1)
size_from zeros size [] h = refl
size_from true size (c ∷ cs) h =
    let parts = and_parts _ _ h in
    ap (λ n. fold (next_size true) n cs) (zero_step size c parts.0) ∙ size_from true (size * 10 + digit_value (if c == 32 then 48 else c)) cs parts.1
size_from false size (c ∷ cs) h = null_step size c cs (c == 32) refl h (λ size' h'. size_from false size' cs h')

pub size_is : (zeros : Bool) (text : List ℕ) → IsTrue (is_number (with_blanks_as zeros text))
    → fold (next_size zeros) 0 text ≡ min (digits_value 10 (with_blanks_as zeros text)) (2 ^ 64 - 1)
size_is zeros text h = size_from zeros 0 text (and_parts _ _ (sym (is_number_parts (with_blanks_as zeros text)) ∙ h)).1

negative_capped : (limit most size : ℕ) → limit < most → (most < size) ⊎ (size ≤ most)
    → if◌then◌else◌ {A = Result ℤ ℕ} (nat_le (min size most) limit) (Ok (neg_ℤ (pos (min size most)))) (Err 3)
    ≡ if◌then◌else◌ {A = Result ℤ ℕ} (nat_le size limit) (Ok (neg_ℤ (pos size))) (Err 3)
negative_capped limit most size h (inl more) =
    let m : min size most ≡ most = omega arith in
    let a : nat_le most limit ≡ false = lt-leb most limit h in
    let b : nat_le size limit ≡ false = lt-leb size limit (omega arith) in rw (m, a, b) refl
negative_capped limit most size h (inr less) = let m : min size most ≡ size = omega arith in rw m refl

positive_capped : (limit most size : ℕ) → limit < most → (most < size) ⊎ (size ≤ most)
    → if◌then◌else◌ {A = Result ℤ ℕ} (nat_lt (min size most) limit) (Ok (pos (min size most))) (Err 3)
    ≡ if◌then◌else◌ {A = Result ℤ ℕ} (nat_lt size limit) (Ok (pos size)) (Err 3)
positive_capped limit most size h (inl more) =
    let m : min size most ≡ most = omega arith in
    let a : nat_lt most limit ≡ false = le-ltb most limit (omega arith) in
    let b : nat_lt size limit ≡ false = le-ltb size limit (omega arith) in rw (m, a, b) refl
positive_capped limit most size h (inr less) = let m : min size most ≡ size = omega arith in rw m refl

pub signed_int_capped : (negative : Bool) (size : ℕ) → signed_int negative (min size (2 ^ 64 - 1)) ≡ signed_int negative size
signed_int_capped true size = negative_capped (2 ^ 31) (2 ^ 64 - 1) size (omega arith) (cases_lt (2 ^ 64 - 1) size)
signed_int_capped false size = positive_capped (2 ^ 31) (2 ^ 64 - 1) size (omega arith) (cases_lt (2 ^ 64 - 1) size)

pub has_number_is : (zeros : Bool) (text : List ℕ)
    → (list_any (λ c. zeros || not (c == 32)) text && list_all (λ c. c == 32 || is_ascii_digit c) text) ≡ is_number (with_blanks_as zeros text)
has_number_is zeros text =
    ap (λ x. x && list_all (λ c. c == 32 || is_ascii_digit c) text) (has_digit_is zeros text)
    ∙ ap (λ x. nonempty (with_blanks_as zeros text) && x) (all_digits_is zeros text) ∙ sym (is_number_parts (with_blanks_as zeros text))

pub both_then : (zeros : Bool) (text : List ℕ) (some all : Bool) → some ≡ list_any (λ c. zeros || not (c == 32)) text → all ≡ list_all (λ c. c == 32 || is_ascii_digit c) text
    → some ≡ true → all ≡ is_number (with_blanks_as zeros text)
both_then zeros text some all e f t =
    f ∙ ap (λ x. x && list_all (λ c. c == 32 || is_ascii_digit c) text) (sym t ∙ e) ∙ has_number_is zeros text

pub both_else : (zeros : Bool) (text : List ℕ) (some : Bool) → some ≡ list_any (λ c. zeros || not (c == 32)) text
    → some ≡ false → some ≡ is_number (with_blanks_as zeros text)
both_else zeros text some e t =
    t ∙ ap (λ x. x && list_all (λ c. c == 32 || is_ascii_digit c) text) (sym t ∙ e) ∙ has_number_is zeros text
