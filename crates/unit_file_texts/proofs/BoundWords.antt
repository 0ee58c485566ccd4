-- The names of what is kept of dummy arrays are names of C: each ends in a digit, and no word of C does.
use Rattle.std.specs.List.{list_all}
use Rattle.std.specs.Prelude.{◌≡◌, ℕ, suc, ◌+◌, ◌<◌, ◌%◌, ◌^◌, nat_le, Bool, true, false, not, ◌&&◌, List, [], ◌∷◌, ◌++◌, codes, decimal, reverse}
use Rattle.std.proofs.Common.{refl, sym, ap, ◌∙◌, arith}
use Rattle.std.proofs.lemmas.Bool.Decides.{nat_tests}
use Rattle.std.proofs.lemmas.Fmt.{decimal_by_steps}
use Rattle.std.proofs.lemmas.List.{reverse-append}
use Rattle.main_file_texts.specs.f_tree.CNames as names
use Rattle.main_file_texts.specs.f_tree.CNames.{variable_name, made_name, NumberTemporary}
use Rattle.c_spelling.specs.c_tree.Tokens.{begins_with, is_letter, is_word_byte}
use Rattle.c_spelling.specs.c_tree.CWords.{words, is_name, is_among}
use Rattle.c_spelling.proofs.c_laws.TokenSpellings.{and-first, and-second}
use Rattle.main_file_texts.proofs.Words.{named_by, temporary_word, passed_by, all_append, begins_append, variable_word}
use Rattle.unit_programs.specs.unit_file.UnitFile.{BoundKind, LowerOf, SizeOf, name_of_bound}
use Rattle.unit_file_texts.specs.WellFormedUnits.{BoundsAreNamed}

-- ## The last byte

begins_in_digit : List ℕ → Bool
begins_in_digit [] = false
begins_in_digit (byte ∷ later) = nat_le 48 byte && nat_le byte 57

ends_otherwise : List ℕ → Bool
ends_otherwise name = not (begins_in_digit (reverse name))

words_end : list_all ends_otherwise words ≡ true
unfolding ends_otherwise begins_in_digit
words_end = refl

record EndsInDigit (text : List ℕ) : Type 0 where
  byte : ℕ
  later : List ℕ
  is : reverse text ≡ byte ∷ later
  digit : nat_le 48 byte && nat_le byte 57 ≡ true

is_digit : (m : ℕ) → m < 10 → nat_le 48 (48 + m) && nat_le (48 + m) 57 ≡ true
is_digit m small = grind (arith, nat_tests)

decimal_ends : (n : ℕ) → n < 2 ^ 64 → EndsInDigit (decimal n)
decimal_ends n small =
    decimal_by_steps (λ m text. EndsInDigit text) (λ m below. record { byte = 48 + m; later = []; is = refl; digit = is_digit m below })
    (λ m text large before. record { byte = 48 + m % 10; later = reverse text; is = reverse-append text ((48 + m % 10) ∷ []); digit = is_digit (m % 10) (omega arith) }) n small

ends_in_digit : (front : List ℕ) (k : ℕ) → k < 2 ^ 64 → ends_otherwise (front ++ decimal k) ≡ false
unfolding ends_otherwise begins_in_digit
ends_in_digit front k small =
    let has = decimal_ends k small in ap (λ text. not (begins_in_digit text)) (reverse-append front (decimal k) ∙ ap (λ text. text ++ reverse front) has.is) ∙ ap not has.digit

no_word : (front : List ℕ) (k : ℕ) → k < 2 ^ 64 → is_among (front ++ decimal k) words ≡ false
no_word front k small = by (is_among (front ++ decimal k) words) refl
  where
    by : (t : Bool) → is_among (front ++ decimal k) words ≡ t → is_among (front ++ decimal k) words ≡ false
    by true is = let no : true ≡ false = sym (passed_by ends_otherwise words (front ++ decimal k) words_end is) ∙ ends_in_digit front k small in absurd (cc)
    by false is = is

-- ## Names

digits_are_bytes : (k : ℕ) → k < 2 ^ 64 → list_all is_word_byte (decimal k) ≡ true
unfolding made_name
digits_are_bytes k small =
    let name = made_name (NumberTemporary k) in and-first (list_all is_word_byte name) (not (is_among name words)) (and-second (begins_with is_letter name) (list_all is_word_byte name && not (is_among name words)) (temporary_word k small))

-- a name of C with letters and a number behind it
ended : (name middle : List ℕ) (k : ℕ) → is_name name ≡ true → list_all is_word_byte middle ≡ true → k < 2 ^ 64 → is_name ((name ++ middle) ++ decimal k) ≡ true
ended name middle k word letters small =
    let rest = and-second (begins_with is_letter name) (list_all is_word_byte name && not (is_among name words)) word in
    named_by ((name ++ middle) ++ decimal k) (begins_append (name ++ middle) (decimal k) (begins_append name middle (and-first (begins_with is_letter name) (list_all is_word_byte name && not (is_among name words)) word)))
    (all_append is_word_byte (name ++ middle) (decimal k) (all_append is_word_byte name middle (and-first (list_all is_word_byte name) (not (is_among name words)) rest) letters) (digits_are_bytes k small)) (no_word (name ++ middle) k small)

bound_word : (x : List ℕ) (place : ℕ) (kind : BoundKind) → begins_with is_letter x ≡ true → names.is_name x ≡ true → suc place < 2 ^ 64 → is_name (name_of_bound x place kind) ≡ true
unfolding name_of_bound made_name
bound_word x place LowerOf letter bytes small = ended (variable_name x) (codes "_low") (suc place) (variable_word x letter bytes) refl small
bound_word x place SizeOf letter bytes small = ended (variable_name x) (codes "_dim") (suc place) (variable_word x letter bytes) refl small

pub bounds_are_named : BoundsAreNamed
bounds_are_named one letter bytes small = bound_word one.dummy one.place one.kind letter bytes small
