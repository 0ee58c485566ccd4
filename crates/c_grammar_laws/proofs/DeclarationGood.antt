-- Declarations are read as they stand, where a name may be declared.
use Rattle.std.proofs.Common.{◌≡◌, refl, sym, ap, ◌∙◌, subst, ℕ, zero, suc, ◌≤◌, nat_le, leb-true, ℤ, Bool, true, false, ◌&&◌, List, [], ◌∷◌, ◌++◌, length, codes, bytes_eq, if◌then◌else◌, Option, Some, None, arith}
use Rattle.std.proofs.lemmas.Bool.Decides.{nat_tests}
use Rattle.c_readers.specs.c_tree.declared.types.NumberType.{NumberType}
use Rattle.c_readers.specs.c_tree.declared.types.NumberType.TheVariants as number
use Rattle.c_readers.specs.c_tree.declared.types.ResultType.{ResultType}
use Rattle.c_readers.specs.c_tree.declared.types.ResultType.TheVariants as result
use Rattle.c_readers.specs.c_tree.declared.types.ListType.{ListType}
use Rattle.c_readers.specs.c_tree.declared.types.ListType.TheVariants as list
use Rattle.c_readers.specs.c_tree.declared.declaration.CField.{CField}
use Rattle.c_readers.specs.c_tree.declared.declaration.CField.TheVariants as field
use Rattle.c_readers.specs.c_tree.declared.declaration.CLocal.{CLocal}
use Rattle.c_readers.specs.c_tree.declared.declaration.CLocal.TheVariants as local
use Rattle.c_readers.specs.c_tree.Tokens.{Word, Digits, Quoted, Sign, Including, Bad}
use Rattle.c_readers.specs.c_tree.CWords.{is_among, Next, AWord, ASign, result_word, number_word, list_word}
use Rattle.c_readers.specs.c_tree.Access.{fields_of}
use Rattle.c_readers.specs.c_tree.CExpressionText.{Scope}
use Rattle.c_readers.specs.c_tree.CDeclarationText as text
use Rattle.c_readers.specs.c_tree.CDeclarationText.{IsLength, ReadsValue, ReadsArray, ReadsNumbers, ReadsText, ReadsTypes, ReadsField, ReadsStatic, ReadsLocal}
use Rattle.c_readers.specs.Readers.{Tokens, found, refused, lookup, ◌>>=◌}
use Rattle.c_readers.specs.ValueReader.{is_within, is_length, value, bounded}
use Rattle.c_readers.specs.TypeReader.{result_words, argument_types}
use Rattle.c_readers.specs.DeclarationReader as reader
use Rattle.c_readers.specs.DeclarationReader.{ArrayEnd, Ends, Starts, array_ends, NumberEnd, Bare, Valued, Many, number_ends, Declared, StaticLead, OfNumbers, OfChars, OfList, static_words, PlainEnd, Alone, Several, plain_ends, LocalLead, External, Lasting, Numbers, Chars, Addresses, local_words}
use Rattle.c_readers.specs.grammar.Exactness.{head, Filled, Judged, Good}
use Rattle.c_readers.proofs.grammar.Judging.{in_turn, refuses, refuses-end, takes-one, good-found, good-as, behind-token, judged-fewer, judged-also, at-the-token}
use Rattle.c_grammar_laws.proofs.TokenGood.{equal-texts, OneSign, good-sign, OneName, good-name}
use Rattle.c_grammar_laws.proofs.ValueGood.{OneNumber, good-number, OneQuoted, good-quoted, RowWord, RowSign, good-word-of, good-sign-of, good-value, is-within}
use Rattle.c_grammar_laws.proofs.BoundedGood.{BoundedBehind, good-bounded}
use Rattle.c_grammar_laws.proofs.TypeGood.{good-argument-types}
use Rattle.c_grammar_laws.proofs.ExpressionTables.{AllRows, row-found}

-- ## Tables of signs and words

-- a row of a table whose texts are told by what stands beside them
row-sign : {A : Type 0} (table : List (List ℕ × A)) (text_of : A → List ℕ) → AllRows (λ word x. word ≡ text_of x) table → (x : A) (p q : Tokens) → RowSign table x p q
    → ASign (text_of x) p q
row-sign table text_of rows x p q r = r.is ∙ ap (λ z. Sign z ∷ q) (row-found (λ word y. word ≡ text_of y) r.sign x table rows r.row)

pub row-word : {A : Type 0} (table : List (List ℕ × A)) (text_of : A → List ℕ) → AllRows (λ word x. word ≡ text_of x) table → (x : A) (p q : Tokens) → RowWord table x p q
    → AWord (text_of x) p q
row-word table text_of rows x p q r = r.is ∙ ap (λ z. Word z ∷ q) (row-found (λ word y. word ≡ text_of y) r.word x table rows r.row)

abbrev array_end : ArrayEnd → List ℕ
array_end Ends = codes ";"
array_end Starts = codes "="

array-sign : (x : ArrayEnd) (p q : Tokens) → RowSign array_ends x p q → ASign (array_end x) p q
array-sign x p q r = row-sign array_ends array_end (refl, (refl, tt)) x p q r

abbrev pub number_end : NumberEnd → List ℕ
number_end Bare = codes ";"
number_end Valued = codes "="
number_end Many = codes "["

pub number-sign : (x : NumberEnd) (p q : Tokens) → RowSign number_ends x p q → ASign (number_end x) p q
number-sign x p q r = row-sign number_ends number_end (refl, (refl, (refl, tt))) x p q r

abbrev pub plain_end : PlainEnd → List ℕ
plain_end Alone = codes ";"
plain_end Several = codes "["

pub plain-sign : (x : PlainEnd) (p q : Tokens) → RowSign plain_ends x p q → ASign (plain_end x) p q
plain-sign x p q r = row-sign plain_ends plain_end (refl, (refl, tt)) x p q r

-- ## Arrays

both-true : (a b : Bool) → (a && b) ≡ true → (a ≡ true) × (b ≡ true)
both-true true b h = (refl, h)
both-true false b h = absurd (let e : false ≡ true = h in cc)

pub a-length : (n : ℕ) → is_length n ≡ true → IsLength n
a-length n h = let k = both-true (nat_le 1 n) (is_within n) h in record { some = leb-true 1 n k.0; fits = is-within n k.1 }

-- the number of elements in brackets
pub record Bracketed (n : ℕ) (p q : Tokens) : Type 0 where
  pub inside : Tokens
  pub behind : Tokens
  pub length : IsLength n
  pub opens : ASign (codes "[") p inside
  pub is : Next (Digits n) inside behind
  pub closes : ASign (codes "]") behind q

pub good-bracketed : {nests : ℕ} → Good nests Bracketed reader.bracketed reader.bracketed
unfolding reader.bracketed
good-bracketed =
    in_turn {First = OneSign (codes "[")} (good-sign (codes "["))
    (λ u. in_turn {First = OneNumber is_length} (good-number is_length 1 refl)
    (λ n. in_turn {First = OneSign (codes "]")} (good-sign (codes "]"))
    (λ v. good-found n (λ q behind closes inside number p opens. record {
      inside = inside;
      behind = behind;
      length = a-length n number.passed;
      opens = opens;
      is = number.is;
      closes = closes;
    }))))

-- a name with its number of elements
pub array-of : (name : List ℕ) (n : ℕ) (p q r : Tokens) → AWord name p q → Bracketed n q r → ReadsArray name n p r
array-of name n p q r named b = text.an_array name n b.length named b.opens b.is b.closes

-- behind an equals sign
abbrev Images : ℕ → Option (List ℤ) → Tokens → Tokens → Type 0
Images n given p q = ReadsNumbers n given (Sign (codes "=") ∷ p) q

good-image : {nests : ℕ} (n : ℕ) → 1 ≤ n → Good nests (Images n) (reader.image n) (reader.image n)
unfolding reader.image
good-image n some =
    in_turn {First = OneSign (codes "{")} (good-sign (codes "{"))
    (λ u. in_turn {First = BoundedBehind ReadsValue (codes "}") n []} (good-bounded ReadsValue (codes "}") n [] value value good-value some)
    (λ values. in_turn {First = OneSign (codes ";")} (good-sign (codes ";"))
    (λ v. good-found (Some values) (λ q behind end inside items p opens.
    subst (λ z. Images n (Some z) p q) (sym items.whole) (text.an_image items.fits refl opens items.spelled end)))))

pub good-numbers : {nests : ℕ} (n : ℕ) → 1 ≤ n → Good nests (ReadsNumbers n) (reader.numbers n) (reader.numbers n)
unfolding reader.numbers reader.numbers_by
good-numbers {nests = nests} n some = in_turn {First = RowSign array_ends} (good-sign-of array_ends (codes ";") Ends refl) by
  where
    by : (end : ArrayEnd) → Good nests (λ given p q. (front : Tokens) → RowSign array_ends end front p → ReadsNumbers n given front q) (λ more. reader.numbers_by n more end) (λ more. reader.numbers_by n more end)
    by Ends = good-found None (λ p front row. text.no_image (array-sign Ends front p row))
    by Starts = good-as (λ given p q spelled front row. subst (λ z. ReadsNumbers n given z q) (sym (array-sign Starts front p row)) spelled) (good-image n some)

abbrev Strings : ℕ → Option (List ℕ) → Tokens → Tokens → Type 0
Strings n given p q = ReadsText n given (Sign (codes "=") ∷ p) q

good-text-image : {nests : ℕ} (n : ℕ) → Good nests (Strings n) (reader.text_image n) (reader.text_image n)
unfolding reader.text_image
good-text-image n =
    in_turn {First = OneQuoted (λ bytes. nat_le (length bytes) n)} (good-quoted (λ bytes. nat_le (length bytes) n) [] (grind (arith, nat_tests)))
    (λ bytes. in_turn {First = OneSign (codes ";")} (good-sign (codes ";"))
    (λ u. good-found (Some bytes) (λ q behind end p quoted. text.a_text bytes (leb-true (length bytes) n quoted.passed) refl quoted.is end)))

pub good-text : {nests : ℕ} (n : ℕ) → Good nests (ReadsText n) (reader.text n) (reader.text n)
unfolding reader.text reader.text_by
good-text {nests = nests} n = in_turn {First = RowSign array_ends} (good-sign-of array_ends (codes ";") Ends refl) by
  where
    by : (end : ArrayEnd) → Good nests (λ given p q. (front : Tokens) → RowSign array_ends end front p → ReadsText n given front q) (λ more. reader.text_by n more end) (λ more. reader.text_by n more end)
    by Ends = good-found None (λ p front row. text.no_text (array-sign Ends front p row))
    by Starts = good-as (λ given p q spelled front row. subst (λ z. ReadsText n given z q) (sym (array-sign Starts front p row)) spelled) (good-text-image n)

-- ## Fields

field-able : (scope : Scope) → Filled (ReadsField scope) []
field-able scope = record { later = Digits 0 ∷ []; tree = field.Number _; spelled = λ behind. text.a_value (text.plain 0 (omega arith) refl) }

good-value-field : {nests : ℕ} (scope : Scope) → Good nests (ReadsField scope) (λ ts. value ts >>= (λ v. found (field.Number v))) (λ ts. value ts >>= (λ v. found (field.Number v)))
good-value-field scope = in_turn {First = ReadsValue} good-value (λ v. good-found (field.Number v) (λ q p reads. text.a_value reads))

field-judged : (nests : ℕ) (scope : Scope) (tokens : Tokens) → Judged nests (ReadsField scope) (reader.a_field scope) tokens (reader.a_field scope tokens)
unfolding reader.a_field
field-judged nests scope [] = refuses-end nests (field-able scope) refl
field-judged nests scope (Word name ∷ more) = by (is_among name (scope.arrays ++ scope.functions)) refl
  where
    by : (does : Bool) → is_among name (scope.arrays ++ scope.functions) ≡ does
        → Judged nests (ReadsField scope) (reader.a_field scope) (Word name ∷ more) (if does then found (field.Name name) more else refused (Word name ∷ more))
    by true h = takes-one nests (field.Name name) (Word name) more (λ p. text.a_start name h refl) (λ p. ap (λ (z : Bool). if z then found (field.Name name) p else refused (Word name ∷ p)) h)
    by false h = refuses nests (Word name) more (field-able scope) (λ p. ap (λ (z : Bool). if z then found (field.Name name) p else refused (Word name ∷ p)) h)
field-judged nests scope (Quoted bytes ∷ more) = takes-one nests (field.Str bytes) (Quoted bytes) more (λ p. text.a_string bytes refl) (λ p. refl)
field-judged nests scope (Digits n ∷ more) =
    judged-also (ReadsField scope) nests (Digits n ∷ more) (at-the-token (λ p. reader.a_field scope p ≡ (value p >>= (λ v. found (field.Number v)))) (Digits n) (λ p. refl))
    (value (Digits n ∷ more) >>= (λ v. found (field.Number v))) ((good-value-field scope).judged (Digits n ∷ more))
field-judged nests scope (Sign sign ∷ more) =
    judged-also (ReadsField scope) nests (Sign sign ∷ more) (at-the-token (λ p. reader.a_field scope p ≡ (value p >>= (λ v. found (field.Number v)))) (Sign sign) (λ p. refl))
    (value (Sign sign ∷ more) >>= (λ v. found (field.Number v))) ((good-value-field scope).judged (Sign sign ∷ more))
field-judged nests scope (Including ∷ more) =
    judged-also (ReadsField scope) nests (Including ∷ more) (at-the-token (λ p. reader.a_field scope p ≡ (value p >>= (λ v. found (field.Number v)))) Including (λ p. refl))
    (value (Including ∷ more) >>= (λ v. found (field.Number v))) ((good-value-field scope).judged (Including ∷ more))
field-judged nests scope (Bad ∷ more) =
    judged-also (ReadsField scope) nests (Bad ∷ more) (at-the-token (λ p. reader.a_field scope p ≡ (value p >>= (λ v. found (field.Number v)))) Bad (λ p. refl))
    (value (Bad ∷ more) >>= (λ v. found (field.Number v))) ((good-value-field scope).judged (Bad ∷ more))

pub good-field : {nests : ℕ} (scope : Scope) → Good nests (ReadsField scope) (reader.a_field scope) (reader.a_field scope)
good-field {nests = nests} scope = record { able = field-able scope; judged = field-judged nests scope }
