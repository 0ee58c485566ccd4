-- The names that are made for a main program are names of C.
use Rattle.std.specs.Prelude.{◌≡◌, ℕ, suc, ◌+◌, ◌<◌, ◌≤◌, ◌%◌, ◌^◌, ℤ, pos, negsuc, nat_abs, Bool, true, false, not, ◌&&◌, ◌||◌, List, [], ◌∷◌, ◌++◌, codes, decimal, bytes_eq, if◌then◌else◌}
use Rattle.std.specs.Char.{is_ascii_digit}
use Rattle.std.specs.List.{list_all}
use Rattle.std.specs.Str.Parse.{AllDigits}
use Rattle.std.proofs.Common.{refl, sym, ap, ◌∙◌, subst, true≢false, arith}
use Rattle.std.proofs.lemmas.Bool.Decides.{nat_tests}
use Rattle.std.proofs.lemmas.Fmt.{decimal_by_steps, decimal_is_IsNumeral}
use Rattle.std.proofs.lemmas.Str.Parse.{digit_from_value}
use Rattle.std.proofs.lemmas.Slice.Eq.{bytes_eq-Decides}
use Rattle.main_translation_laws.specs.f_tree.CNames as names
use Rattle.main_translation_laws.specs.f_tree.CNames.{variable_name, constant_name, made_name, is_reserved, takes_underscores, NumberTemporary, ControlList, ConstantOf, StatementLabel, MadeLabel}
use Rattle.main_translation_laws.proofs.fortran_laws.CNameLaws.{variable_name-not_reserved}
use Rattle.main_translation_laws.specs.c_tree.Tokens.{begins_with, is_letter, is_word_byte}
use Rattle.main_translation_laws.specs.c_tree.CWords.{words, is_name, is_among}
use Rattle.main_translation_laws.proofs.c_laws.TokenSpellings.{and-first, and-second, digits-word}
use Rattle.main_translation_laws.proofs.linking_laws.Places.{other_bytes}

-- ## Digits

all_with : (test : ℕ → Bool) (text : List ℕ) (last : ℕ) → list_all test text ≡ true → test last ≡ true → list_all test (text ++ last ∷ []) ≡ true
all_with test [] last all one = ap (λ z. z && true) one
all_with test (byte ∷ text) last all one = by (test byte) all (λ h. all_with test text last h one)
  where
    by : (z : Bool) → (z && list_all test text) ≡ true → (list_all test text ≡ true → list_all test (text ++ last ∷ []) ≡ true) → (z && list_all test (text ++ last ∷ [])) ≡ true
    by true h again = again h
    by false h again = h

is_digit : (m : ℕ) → m < 10 → is_ascii_digit (48 + m) ≡ true
is_digit m small = grind (arith, nat_tests)

one_digit : (m : ℕ) → m < 10 → list_all is_ascii_digit ((48 + m) ∷ []) ≡ true
one_digit m small = ap (λ z. z && true) (is_digit m small)

more_digits : (m : ℕ) (text : List ℕ) → 10 ≤ m → list_all is_ascii_digit text ≡ true → list_all is_ascii_digit (text ++ ((48 + m % 10) ∷ [])) ≡ true
more_digits m text large before = all_with is_ascii_digit text (48 + m % 10) before (is_digit (m % 10) (omega arith))

decimal_word : (n : ℕ) → n < 2 ^ 64 → list_all is_word_byte (decimal n) ≡ true
decimal_word n small = digits-word (decimal n) (decimal_by_steps (λ m text. list_all is_ascii_digit text ≡ true) one_digit more_digits n small)

-- ## Words

three : (a b d : Bool) → a ≡ true → b ≡ true → d ≡ false → (a && (b && not d)) ≡ true
three true true d h k l = ap not l
three true false d h k l = k
three false b d h k l = h

pub named_by : (name : List ℕ) → begins_with is_letter name ≡ true → list_all is_word_byte name ≡ true → is_among name words ≡ false → is_name name ≡ true
named_by name letter bytes other = three (begins_with is_letter name) (list_all is_word_byte name) (is_among name words) letter bytes other

pub temporary_word : (k : ℕ) → k < 2 ^ 64 → is_name (made_name (NumberTemporary k)) ≡ true
unfolding made_name
temporary_word k small = named_by (codes "i__" ++ decimal k) refl (decimal_word k small) refl

pub list_word : (k : ℕ) → k < 2 ^ 64 → is_name (made_name (ControlList k)) ≡ true
unfolding made_name
list_word k small = named_by (codes "io___" ++ decimal k) refl (decimal_word k small) refl

pub constant_word : (z : ℤ) → nat_abs z < 2 ^ 64 → is_name (made_name (ConstantOf z)) ≡ true
unfolding made_name constant_name
constant_word (pos n) small = named_by (codes "c__" ++ decimal n) refl (decimal_word n small) refl
constant_word (negsuc n) small = named_by (codes "c_n" ++ decimal (suc n)) refl (decimal_word (suc n) small) refl

pub made_label_word : (k : ℕ) → k < 2 ^ 64 → is_name (made_name (MadeLabel k)) ≡ true
unfolding made_name
made_label_word k small = named_by (codes "L__" ++ decimal k) refl (decimal_word k small) refl

-- a statement label: one word of C begins with an L, and has no digit behind it
no_type : (l : ℕ) → l < 2 ^ 64 → bytes_eq (codes "L" ++ decimal l) (codes "L_fp") ≡ false
no_type l small = other_bytes (codes "L" ++ decimal l) (codes "L_fp") (λ e. no_digit (same_rest 76 76 (decimal l) (codes "_fp") e))
  where
    same_rest : (a b : ℕ) (x y : List ℕ) → a ∷ x ≡ b ∷ y → x ≡ y
    same_rest a b x y e = cc

    no_digit : decimal l ≡ codes "_fp" → ⊥
    no_digit e = omega (arith, digit_from_value 95 (subst (AllDigits 10) e (decimal_is_IsNumeral l small).0.1).0)

pub statement_label_word : (l : ℕ) → l < 2 ^ 64 → is_name (made_name (StatementLabel l)) ≡ true
unfolding made_name
statement_label_word l small = named_by (codes "L" ++ decimal l) refl (decimal_word l small) (ap (λ b. b || false) (no_type l small))

-- ## Variables

-- a name that fails a test which all words pass is none of them
same_text : (x y : List ℕ) → bytes_eq x y ≡ true → x ≡ y
same_text x y h = (bytes_eq-Decides x y).0 h

pub passed_by : (test : List ℕ → Bool) (list : List (List ℕ)) (name : List ℕ) → list_all test list ≡ true → is_among name list ≡ true → test name ≡ true
passed_by test [] name all is = absurd (true≢false (sym is))
passed_by test (first ∷ later) name all is = by (bytes_eq name first) refl is (passed_by test later name (and-second (test first) (list_all test later) all))
  where
    by : (b : Bool) → bytes_eq name first ≡ b → (b || is_among name later) ≡ true → (is_among name later ≡ true → test name ≡ true) → test name ≡ true
    by true h k again = subst (λ z. test z ≡ true) (sym (same_text name first h)) (and-first (test first) (list_all test later) all)
    by false h k again = again k

words_reserved : list_all is_reserved words ≡ true
unfolding is_reserved names.c_keywords names.built_in_names names.field_names names.single_letters
words_reserved = refl

no_word : (name : List ℕ) → is_reserved name ≡ false → is_among name words ≡ false
no_word name free = by (is_among name words) refl
  where
    by : (b : Bool) → is_among name words ≡ b → is_among name words ≡ false
    by true h = absurd (true≢false (sym (passed_by is_reserved words name words_reserved h) ∙ free))
    by false h = h

is_byte : (byte : ℕ) → names.is_name_byte byte ≡ true → is_word_byte byte ≡ true
unfolding names.is_name_byte
is_byte byte h = grind (arith, nat_tests)

pub all_bytes : (text : List ℕ) → list_all names.is_name_byte text ≡ true → list_all is_word_byte text ≡ true
all_bytes [] all = refl
all_bytes (byte ∷ text) all =
    subst (λ z. (z && list_all is_word_byte text) ≡ true) (sym (is_byte byte (and-first (names.is_name_byte byte) (list_all names.is_name_byte text) all)))
    (all_bytes text (and-second (names.is_name_byte byte) (list_all names.is_name_byte text) all))

pub all_append : (test : ℕ → Bool) (text more : List ℕ) → list_all test text ≡ true → list_all test more ≡ true → list_all test (text ++ more) ≡ true
all_append test [] more one other = other
all_append test (byte ∷ text) more one other =
    subst (λ z. (z && list_all test (text ++ more)) ≡ true) (sym (and-first (test byte) (list_all test text) one))
    (all_append test text more (and-second (test byte) (list_all test text) one) other)

pub begins_append : (text more : List ℕ) → begins_with is_letter text ≡ true → begins_with is_letter (text ++ more) ≡ true
begins_append [] more h = absurd (true≢false (sym h))
begins_append (byte ∷ text) more h = h

variable_letter : (x : List ℕ) → begins_with is_letter x ≡ true → begins_with is_letter (variable_name x) ≡ true
unfolding variable_name
variable_letter x first = by (takes_underscores x)
  where
    by : (b : Bool) → begins_with is_letter (if b then x ++ codes "__" else x) ≡ true
    by true = begins_append x (codes "__") first
    by false = first

variable_bytes : (x : List ℕ) → names.is_name x ≡ true → list_all is_word_byte (variable_name x) ≡ true
unfolding variable_name names.is_name
variable_bytes x named = by (takes_underscores x)
  where
    by : (b : Bool) → list_all is_word_byte (if b then x ++ codes "__" else x) ≡ true
    by true = all_append is_word_byte x (codes "__") (all_bytes x named) refl
    by false = all_bytes x named

pub variable_word : (x : List ℕ) → begins_with is_letter x ≡ true → names.is_name x ≡ true → is_name (variable_name x) ≡ true
variable_word x first named = named_by (variable_name x) (variable_letter x first) (variable_bytes x named) (no_word (variable_name x) (variable_name-not_reserved x))
