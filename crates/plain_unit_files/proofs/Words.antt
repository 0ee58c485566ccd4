-- The names of functions and of constants are names of C, and are told apart by their ends. ANSI X3.9-1978, section 2.2; C89, 3.1.2.
use Rattle.std.specs.List.{list_all}
use Rattle.std.specs.Prelude.{◌≡◌, ℕ, suc, ◌+◌, ◌<◌, ◌%◌, ◌^◌, nat_eq, nat_le, ℤ, pos, negsuc, nat_abs, Bool, true, false, not, ◌&&◌, List, [], ◌∷◌, ◌++◌, codes, decimal, reverse, if◌then◌else◌}
use Rattle.std.proofs.Common.{refl, sym, ap, ◌∙◌, arith}
use Rattle.std.proofs.lemmas.Bool.Decides.{nat_tests}
use Rattle.std.proofs.lemmas.Fmt.{decimal_by_steps}
use Rattle.std.proofs.lemmas.List.{reverse-append}
use Rattle.fortran_totality.specs.f_tree.CNames as names
use Rattle.fortran_totality.specs.f_tree.CNames.{has_underscore, external_name, constant_name, made_name, ConstantOf}
use Rattle.plain_files.specs.c_tree.Tokens.{begins_with, is_letter, is_word_byte}
use Rattle.plain_files.specs.c_tree.CWords.{words, is_name, is_among}
use Rattle.plain_files.proofs.c_laws.TokenSpellings.{and-first}
use Rattle.plain_files.proofs.main_file_texts.Words.{named_by, passed_by, all_bytes, all_append, begins_append}

-- ## The last byte

unfoldable pub is_underscored : List ℕ → Bool
is_underscored [] = false
is_underscored (byte ∷ later) = nat_eq byte 95

-- an underscore stands last
unfoldable pub closes : List ℕ → Bool
closes name = is_underscored (reverse name)

pub external_closes : (x : List ℕ) → closes (external_name x) ≡ true
unfolding closes is_underscored external_name
external_closes x = by (has_underscore x)
  where
    by : (t : Bool) → is_underscored (reverse (if t then x ++ codes "__" else x ++ codes "_")) ≡ true
    by true = ap is_underscored (reverse-append x (codes "__"))
    by false = ap is_underscored (reverse-append x (codes "_"))

-- a text that ends in a digit
record HasDigit (text : List ℕ) : Type 0 where
  byte : ℕ
  later : List ℕ
  is : reverse text ≡ byte ∷ later
  other : nat_eq byte 95 ≡ false

other_digit : (m : ℕ) → m < 10 → nat_eq (48 + m) 95 ≡ false
other_digit m small = grind (arith, nat_tests)

decimal_digit : (n : ℕ) → n < 2 ^ 64 → HasDigit (decimal n)
decimal_digit n small =
    decimal_by_steps (λ m text. HasDigit text) (λ m below. record { byte = 48 + m; later = []; is = refl; other = other_digit m below })
    (λ m text large before. record { byte = 48 + m % 10; later = reverse text; is = reverse-append text ((48 + m % 10) ∷ []); other = other_digit (m % 10) (omega arith) }) n small

digit_closes : (front text : List ℕ) → HasDigit text → closes (front ++ text) ≡ false
unfolding closes is_underscored
digit_closes front text has = ap is_underscored (reverse-append front text ∙ ap (λ t. t ++ reverse front) has.is) ∙ has.other

pub constant_closes : (z : ℤ) → nat_abs z < 2 ^ 64 → closes (made_name (ConstantOf z)) ≡ false
unfolding made_name constant_name
constant_closes (pos n) small = digit_closes (codes "c__") (decimal n) (decimal_digit n small)
constant_closes (negsuc n) small = digit_closes (codes "c_n") (decimal (suc n)) (decimal_digit (suc n) small)

-- ## Names of functions

begins_low : List ℕ → Bool
begins_low [] = false
begins_low (byte ∷ later) = nat_le 95 byte

-- a word of C is not that of a function
is_free : List ℕ → Bool
is_free word = not (closes word && begins_low word)

words_are_free : list_all is_free words ≡ true
unfolding is_free closes is_underscored begins_low
words_are_free = refl

low_letter : (byte : ℕ) → is_letter byte ≡ true → names.is_name_byte byte ≡ true → nat_le 95 byte ≡ true
unfolding names.is_name_byte
low_letter byte letter is = grind (arith, nat_tests)

low_name : (x : List ℕ) → begins_with is_letter x ≡ true → list_all names.is_name_byte x ≡ true → (more : List ℕ) → begins_low (x ++ more) ≡ true
unfolding begins_low
low_name [] letter all more = absurd (cc)
low_name (byte ∷ x) letter all more = low_letter byte letter (and-first (names.is_name_byte byte) (list_all names.is_name_byte x) all)

no_word : (name : List ℕ) → closes name ≡ true → begins_low name ≡ true → is_among name words ≡ false
unfolding is_free
no_word name one other = by (is_among name words) refl
  where
    by : (t : Bool) → is_among name words ≡ t → is_among name words ≡ false
    by true is = let no : true ≡ false = sym (passed_by is_free words name words_are_free is) ∙ (λ i. not (one i && other i)) in absurd (cc)
    by false is = is

-- the name of a procedure
pub external_word : (x : List ℕ) → begins_with is_letter x ≡ true → names.is_name x ≡ true → is_name (external_name x) ≡ true
unfolding external_name names.is_name
external_word x letter bytes = by (has_underscore x) (external_closes x)
  where
    with_end : (more : List ℕ) → list_all is_word_byte more ≡ true → closes (x ++ more) ≡ true → is_name (x ++ more) ≡ true
    with_end more ends last = named_by (x ++ more) (begins_append x more letter) (all_append is_word_byte x more (all_bytes x bytes) ends) (no_word (x ++ more) last (low_name x letter bytes more))

    by : (t : Bool) → closes (if t then x ++ codes "__" else x ++ codes "_") ≡ true → is_name (if t then x ++ codes "__" else x ++ codes "_") ≡ true
    by true last = with_end (codes "__") refl last
    by false last = with_end (codes "_") refl last

pub main_word : is_name names.main_name ≡ true
unfolding names.main_name
main_word = refl

pub main_closes : closes names.main_name ≡ true
unfolding names.main_name closes is_underscored
main_closes = refl
