-- A field that is wide enough is read back.
use Rattle.std.proofs.Common.{◌≡◌, ℕ, ℤ, pos, negsuc, zero, suc, ◌+◌, ◌-◌, ◌^◌, ◌<◌, ◌≤◌, ◌==◌, nat_le, Bool, true, false, ◌&&◌, if◌then◌else◌, Option, unwrap_or, Ok, Err, List, [], ◌∷◌, ◌++◌, length, take, drop, replicate, unsigned_abs, refl, sym, ap, ◌∙◌, arith, append-nil, length-append, IsTrue}
use Rattle.std.specs.Char.{is_ascii_digit}
use Rattle.std.specs.Fmt.{decimal}
use Rattle.std.specs.Str.{all_ascii_digits}
use Rattle.std.specs.Str.Parse.{digits_value}
use Rattle.std.proofs.lemmas.Bool.{and_parts, le-leb, ltb-true, eqb-true}
use Rattle.std.proofs.lemmas.Bool.Decides.{nat_tests}
use Rattle.std.proofs.lemmas.Fmt.{digits_decimal, decimal_is_IsNumeral}
use Rattle.std.proofs.lemmas.List.{length-replicate, drop_at, take_all, length-take-le}
use Rattle.std.proofs.lemmas.Str.Parse.{IsNumeralModel, numerals_by_value, tells_all_ascii_digits}
use Rattle.edit_meaning.specs.EditedFields.{right_in, sign_of, with_zeros, int_text, int_field, logical_field, text_field}
use Rattle.edit_meaning.specs.ReadBack.{has_32_bits}
use Rattle.edit_meaning.specs.TakenFields.{behind_blanks, behind_point, with_blanks_as, signed_int, int_of, int_behind_blanks, truth_of, int_in, logical_in, text_in}

own : IsNumeralModel (λ ds. all_ascii_digits ds ≡ true) (digits_value 10)
own = numerals_by_value _ tells_all_ascii_digits

-- leading blanks are passed
blanks_passed : (n : ℕ) (text : List ℕ) → behind_blanks (replicate n 32 ++ text) ≡ behind_blanks text
blanks_passed zero text = refl
blanks_passed (suc n) text = blanks_passed n text

-- digits hold no blanks
not_blank : (c : ℕ) → is_ascii_digit c ≡ true → (c == 32) ≡ false
not_blank c h = grind (arith, nat_tests)

no_blanks : (zeros : Bool) (digits : List ℕ) → all_ascii_digits digits ≡ true → with_blanks_as zeros digits ≡ digits
no_blanks zeros [] h = refl
no_blanks true (c ∷ cs) h =
    let parts = and_parts _ _ h in
    let b : (c == 32) ≡ false = not_blank c parts.0 in
    ap (λ x. (if x then 48 else c) ∷ with_blanks_as true cs) b ∙ ap (λ z. c ∷ z) (no_blanks true cs parts.1)
no_blanks false (c ∷ cs) h =
    let parts = and_parts _ _ h in
    let b : (c == 32) ≡ false = not_blank c parts.0 in
    ap (λ x. if x then with_blanks_as false cs else c ∷ with_blanks_as false cs) b ∙ ap (λ z. c ∷ z) (no_blanks false cs parts.1)

-- digits, one at least, of a number
record DigitsOf (n : ℕ) (digits : List ℕ) : Type 0 where
  all : all_ascii_digits digits ≡ true
  some : 0 < length digits
  value : digits_value 10 digits ≡ n

decimal_digits_of : (n : ℕ) → n < 2 ^ 64 → DigitsOf n (decimal n)
decimal_digits_of n h = let number = decimal_is_IsNumeral n h in record { all = digits_decimal own n h; some = number.0.0; value = number.1 }

zeros_before : (k n : ℕ) (digits : List ℕ) → DigitsOf n digits → DigitsOf n (replicate k 48 ++ digits)
zeros_before zero n digits d = d
zeros_before (suc k) n digits d =
    let more = zeros_before k n digits d in
    record { all = more.all; some = omega arith; value = more.value }

number_taken : (n : ℕ) (digits : List ℕ) → DigitsOf n digits → (negative : Bool) → int_of negative digits ≡ signed_int negative n
number_taken n [] d negative = absurd (let l : 0 < 0 = d.some in omega arith)
number_taken n (c ∷ cs) d negative =
    ap (λ b. if b then signed_int negative (digits_value 10 (c ∷ cs)) else Err 1) d.all ∙ ap (signed_int negative) d.value

behind_sign : (zeros negative : Bool) (n : ℕ) (digits : List ℕ) → DigitsOf n digits → int_of negative (with_blanks_as zeros digits) ≡ signed_int negative n
behind_sign zeros negative n digits d = ap (int_of negative) (no_blanks zeros digits d.all) ∙ number_taken n digits d negative

no_sign_by : (zeros : Bool) (c : ℕ) (cs : List ℕ) (minus plus : Bool) → (c == 45) ≡ minus → (c == 43) ≡ plus → is_ascii_digit c ≡ true
    → (if minus then int_of true (with_blanks_as zeros cs) else (if plus then int_of false (with_blanks_as zeros cs) else int_of false (with_blanks_as zeros (c ∷ cs))))
    ≡ int_of false (with_blanks_as zeros (c ∷ cs))
no_sign_by zeros c cs true plus e f h = absurd (let t : (c == 45) ≡ false = grind (arith, nat_tests) in cc)
no_sign_by zeros c cs false true e f h = absurd (let t : (c == 43) ≡ false = grind (arith, nat_tests) in cc)
no_sign_by zeros c cs false false e f h = refl

first_by : (zeros : Bool) (c : ℕ) (cs : List ℕ) (blank : Bool) → (c == 32) ≡ blank → is_ascii_digit c ≡ true
    → int_behind_blanks zeros (if blank then behind_blanks cs else c ∷ cs) ≡ int_of false (with_blanks_as zeros (c ∷ cs))
first_by zeros c cs true e h = absurd (let t : (c == 32) ≡ false = grind (arith, nat_tests) in cc)
first_by zeros c cs false e h = no_sign_by zeros c cs (c == 45) (c == 43) refl refl h

unsigned_taken : (zeros : Bool) (n : ℕ) (digits : List ℕ) → DigitsOf n digits → int_behind_blanks zeros (behind_blanks digits) ≡ signed_int false n
unsigned_taken zeros n [] d = absurd (let l : 0 < 0 = d.some in omega arith)
unsigned_taken zeros n (c ∷ cs) d = first_by zeros c cs (c == 32) refl (and_parts _ _ d.all).0 ∙ behind_sign zeros false n (c ∷ cs) d

-- a number with its sign
signed_taken : (z : ℤ) (plus zeros : Bool) (digits : List ℕ) → IsTrue (has_32_bits z) → DigitsOf (unsigned_abs z) digits
    → int_behind_blanks zeros (behind_blanks (sign_of z plus ++ digits)) ≡ Ok z
signed_taken (pos n) true zeros digits h d = behind_sign zeros false n digits d ∙ ap (λ b. if b then Ok (pos n) else Err 3) h
signed_taken (pos n) false zeros digits h d = unsigned_taken zeros n digits d ∙ ap (λ b. if b then Ok (pos n) else Err 3) h
signed_taken (negsuc n) plus zeros digits h d =
    behind_sign zeros true (suc n) digits d
    ∙ ap (λ b. if b then Ok (negsuc n) else Err 3) (le-leb (suc n) (2 ^ 31) (let l : n < 2 ^ 31 = ltb-true n (2 ^ 31) h in omega arith))

abs_small : (z : ℤ) → IsTrue (has_32_bits z) → unsigned_abs z < 2 ^ 64
abs_small (pos n) h = let l : n < 2 ^ 31 = ltb-true n (2 ^ 31) h in omega arith
abs_small (negsuc n) h = let l : n < 2 ^ 31 = ltb-true n (2 ^ 31) h in omega arith

zero_of : (z : ℤ) → (unsigned_abs z == 0) ≡ true → z ≡ pos 0
zero_of (pos zero) h = refl
zero_of (pos (suc n)) h = absurd (let e : suc n ≡ 0 = eqb-true (suc n) 0 h in omega arith)
zero_of (negsuc n) h = absurd (let e : suc n ≡ 0 = eqb-true (suc n) 0 h in omega arith)

text_taken_by : (z : ℤ) (least : ℕ) (plus zeros a b : Bool) → (unsigned_abs z == 0) ≡ a → IsTrue (has_32_bits z)
    → int_behind_blanks zeros (behind_blanks (if a && b then [] else sign_of z plus ++ with_zeros least (decimal (unsigned_abs z)))) ≡ Ok z
text_taken_by z least plus zeros true true e h = ap Ok (sym (zero_of z e))
text_taken_by z least plus zeros true false e h =
    signed_taken z plus zeros _ h (zeros_before (least - length (decimal (unsigned_abs z))) _ _ (decimal_digits_of (unsigned_abs z) (abs_small z h)))
text_taken_by z least plus zeros false b e h =
    signed_taken z plus zeros _ h (zeros_before (least - length (decimal (unsigned_abs z))) _ _ (decimal_digits_of (unsigned_abs z) (abs_small z h)))

-- a field that its text fits is the text behind blanks
pub right_fits : (width : ℕ) (text : List ℕ) → length text ≤ width → right_in width text ≡ replicate (width - length text) 32 ++ text
right_fits width text h = let t : nat_le (length text) width ≡ true = le-leb (length text) width h in rw t refl

pub int_back : (z : ℤ) (width : ℕ) (least : Option ℕ) (plus zeros : Bool) → IsTrue (has_32_bits z) → length (int_text z least plus) ≤ width
    → int_in (int_field z width least plus) zeros ≡ Ok z
unfolding int_in int_field
int_back z width least plus zeros h l =
    ap (λ field. int_behind_blanks zeros (behind_blanks field)) (right_fits width (int_text z least plus) l)
    ∙ ap (int_behind_blanks zeros) (blanks_passed (width - length (int_text z least plus)) (int_text z least plus))
    ∙ text_taken_by z (unwrap_or least 1) plus zeros (unsigned_abs z == 0) (unwrap_or least 1 == 0) refl h

pub int_width : (z : ℤ) (width : ℕ) (least : Option ℕ) (plus : Bool) → length (int_text z least plus) ≤ width → length (int_field z width least plus) ≡ width
unfolding int_field
int_width z width least plus l =
    ap length (right_fits width (int_text z least plus) l)
    ∙ omega (arith, length-append (replicate (width - length (int_text z least plus)) 32) (int_text z least plus), length-replicate {A = ℕ} (width - length (int_text z least plus)) 32)

pub logical_back : (truth : Bool) (width : ℕ) → 0 < width → logical_in (logical_field truth width) ≡ Ok truth
unfolding logical_in logical_field
logical_back true width h = ap (λ rest. truth_of (behind_point rest)) (blanks_passed (width - 1) (84 ∷ []))
logical_back false width h = ap (λ rest. truth_of (behind_point rest)) (blanks_passed (width - 1) (70 ∷ []))

pub logical_width : (truth : Bool) (width : ℕ) → 0 < width → length (logical_field truth width) ≡ width
unfolding logical_field
logical_width truth width h =
    let letter : List ℕ = (if truth then 84 else 70) ∷ [] in
    let one : length letter ≡ 1 = refl in
    omega (arith, length-append (replicate (width - 1) 32) letter, length-replicate {A = ℕ} (width - 1) 32)

pub text_wider : (text : List ℕ) (width : ℕ) → length text ≤ width → text_field text width ≡ replicate (width - length text) 32 ++ text
unfolding text_field
text_wider text width h = ap (λ z. replicate (width - length text) 32 ++ z) (take_all width text h)

pub text_narrower : (text : List ℕ) (width : ℕ) → width ≤ length text → text_field text width ≡ take width text
unfolding text_field
text_narrower text width h = let n : width - length text ≡ 0 = omega arith in rw n refl

pub text_width : (text : List ℕ) (width : ℕ) → length text ≤ width → length (text_field text width) ≡ width
text_width text width h =
    ap length (text_wider text width h) ∙ omega (arith, length-append (replicate (width - length text) 32) text, length-replicate {A = ℕ} (width - length text) 32)

-- the last characters of a field are all of it, or those behind its blanks
pub text_back : (text : List ℕ) (width : ℕ) → length text ≤ width → text_in (text_field text width) (length text) ≡ text
unfolding text_in
text_back text width h =
    let blanks : List ℕ = replicate (width - length text) 32 in
    let k : length blanks ≡ width - length text = length-replicate {A = ℕ} (width - length text) 32 in
    let l : length (blanks ++ text) ≡ length blanks + length text = length-append blanks text in
    let a : length (blanks ++ text) - length text ≡ length blanks = omega arith in
    let b : length text - length (blanks ++ text) ≡ 0 = omega arith in
    ap (λ field. drop (length field - length text) field ++ replicate (length text - length field) 32) (text_wider text width h)
    ∙ ap (λ n. drop n (blanks ++ text) ++ replicate (length text - length (blanks ++ text)) 32) a
    ∙ ap (λ n. drop (length blanks) (blanks ++ text) ++ replicate n 32) b
    ∙ append-nil (drop (length blanks) (blanks ++ text)) ∙ drop_at blanks text (length blanks) refl

pub text_cut : (text : List ℕ) (width : ℕ) → width ≤ length text → text_in (text_field text width) (length text) ≡ take width text ++ replicate (length text - width) 32
unfolding text_in
text_cut text width h =
    let l : length (take width text) ≡ width = length-take-le width text h in
    let a : length (take width text) - length text ≡ 0 = omega arith in
    ap (λ field. drop (length field - length text) field ++ replicate (length text - length field) 32) (text_narrower text width h)
    ∙ ap (λ n. drop n (take width text) ++ replicate (length text - length (take width text)) 32) a
    ∙ ap (λ n. take width text ++ replicate (length text - n) 32) l
