-- Declarations that are spelled are read.
use Rattle.std.proofs.Common.{◌≡◌, refl, sym, ap, ◌∙◌, ℕ, ◌+◌, ◌≤◌, nat_le, le-leb, ℤ, Bool, true, false, List, [], ◌∷◌, ◌++◌, length, codes, bytes_eq, if◌then◌else◌, Option, Some, None, arith}
use Rattle.c_readers.specs.c_tree.declared.types.NumberType.{NumberType}
use Rattle.c_readers.specs.c_tree.declared.types.NumberType.TheVariants as number
use Rattle.c_readers.specs.c_tree.declared.types.ResultType.{ResultType}
use Rattle.c_readers.specs.c_tree.declared.types.ResultType.TheVariants as result
use Rattle.c_readers.specs.c_tree.declared.types.ListType.{ListType}
use Rattle.c_readers.specs.c_tree.declared.types.ListType.TheVariants as list
use Rattle.c_readers.specs.c_tree.declared.declaration.CField.{CField}
use Rattle.c_readers.specs.c_tree.declared.declaration.CField.TheVariants as field
use Rattle.c_readers.specs.c_tree.declared.declaration.CLocal.{CLocal}
use Rattle.c_readers.specs.c_tree.declared.declaration.CLocal.TheVariants as local
use Rattle.c_readers.specs.c_tree.Tokens.{Word, Digits, Quoted, Sign, Including, Bad}
use Rattle.c_readers.specs.c_tree.CWords.{is_among, AWord, ASign, result_word, number_word, list_word}
use Rattle.c_readers.specs.c_tree.Access.{fields_of}
use Rattle.c_readers.specs.c_tree.CExpressionText.{Scope}
use Rattle.c_readers.specs.c_tree.CDeclarationText as text
use Rattle.c_readers.specs.c_tree.CDeclarationText.{ReadsValue, ReadsArray, ReadsNumbers, ReadsText, ReadsTypes, ReadsField, ReadsStatic, ReadsLocal}
use Rattle.c_readers.specs.Readers.{Tokens, Reader, found, refused, ◌>>=◌, lookup, a_name}
use Rattle.c_readers.specs.ValueReader.{a_number, is_length, value}
use Rattle.c_readers.specs.TypeReader.{result_words}
use Rattle.c_readers.specs.DeclarationReader as reader
use Rattle.c_readers.specs.DeclarationReader.{Ends, Starts, array_ends, Bare, Valued, Many, number_ends, OfNumbers, OfChars, OfList, static_words, Alone, Several, plain_ends, External, Lasting, Numbers, Chars, Addresses, local_words}
use Rattle.c_readers.specs.grammar.Exactness.{Eventually}
use Rattle.c_grammar_laws.proofs.ValueGood.{number-read, quoted-read}
use Rattle.c_grammar_laws.proofs.ExpressionComplete.{always}
use Rattle.c_grammar_laws.proofs.TokenReads.{sign-read, name-read, row-word-read, row-sign-read, passes-length, value-read, bounded-read, argument-types-read}

-- ## Arrays

image-read : (n : ℕ) (values : List ℤ) (q r s t : Tokens) → length values ≤ n → ASign (codes "{") q r → text.ReadsValues values r s → ASign (codes ";") s t
    → reader.image n q ≡ found (Some values) t
unfolding reader.image
image-read n values q r s t fits opens items ends =
    rw (sign-read (codes "{") q r opens, bounded-read ReadsValue (codes "}") refl value value-read n [] values r s items fits, sign-read (codes ";") s t ends) refl

pub numbers-read : (n : ℕ) (given : Option (List ℤ)) (p q : Tokens) → ReadsNumbers n given p q → reader.numbers n p ≡ found given q
unfolding reader.numbers reader.numbers_by
numbers-read n _ _ _ (text.no_image {p = p} {q = q} ends) = rw (row-sign-read array_ends (codes ";") Ends p q refl ends) refl
numbers-read n _ _ _ (text.an_image {values = values} {p = p} {q = q} {r = r} {s = s} {t = t} fits equals opens items ends) =
    rw (row-sign-read array_ends (codes "=") Starts p q refl equals) (image-read n values q r s t fits opens items ends)

pub text-read : (n : ℕ) (given : Option (List ℕ)) (p q : Tokens) → ReadsText n given p q → reader.text n p ≡ found given q
unfolding reader.text reader.text_by reader.text_image
text-read n _ _ _ (text.no_text {p = p} {q = q} ends) = rw (row-sign-read array_ends (codes ";") Ends p q refl ends) refl
text-read n _ _ _ (text.a_text bytes {p = p} {q = q} {r = r} {s = s} fits equals quoted ends) =
    rw (row-sign-read array_ends (codes "=") Starts p q refl equals, quoted-read (λ b. nat_le (length b) n) bytes q r (le-leb (length bytes) n fits) quoted, sign-read (codes ";") r s ends) refl

-- a name with its number of elements, and what is read behind it
record ArrayRead (new : List ℕ → Bool) (name : List ℕ) (n : ℕ) (p q : Tokens) : Type 0 where
  behind_name : Tokens
  behind_opening : Tokens
  behind_number : Tokens
  named : a_name new p ≡ found name behind_name
  opens : ASign (codes "[") behind_name behind_opening
  is : behind_opening ≡ Digits n ∷ behind_number
  passes : is_length n ≡ true
  number : a_number is_length behind_opening ≡ found n behind_number
  closes : ASign (codes "]") behind_number q

array-read : (new : List ℕ → Bool) (name : List ℕ) (n : ℕ) (p q : Tokens) → new name ≡ true → ReadsArray name n p q → ArrayRead new name n p q
array-read new _ _ _ _ fresh (text.an_array name n {p = p} {q = q} {r = r} {s = s} {t = t} l named opens is closes) = record {
  behind_name = q;
  behind_opening = r;
  behind_number = s;
  named = name-read new name p q fresh named;
  opens = opens;
  is = is;
  passes = passes-length n l;
  number = number-read is_length n r s (passes-length n l) is;
  closes = closes;
}

bracketed-read : (new : List ℕ → Bool) (name : List ℕ) (n : ℕ) (p q : Tokens) (a : ArrayRead new name n p q) → reader.bracketed a.behind_name ≡ found n q
unfolding reader.bracketed
bracketed-read new name n p q a = rw (sign-read (codes "[") a.behind_name a.behind_opening a.opens, a.number, sign-read (codes "]") a.behind_number q a.closes) refl

-- ## Fields

field-by : (scope : Scope) (v : ℤ) (p q : Tokens) → value p ≡ found v q → ReadsValue v p q → reader.a_field scope p ≡ found (field.Number v) q
unfolding reader.a_field
field-by scope _ _ _ h (text.plain n {p = p} {q = q} fits is) = ap (reader.a_field scope) is ∙ rw (ap value (sym is) ∙ h) refl
field-by scope _ _ _ h (text.negative n {p = p} {r = r} fits a is) = ap (reader.a_field scope) a ∙ rw (ap value (sym a) ∙ h) refl
field-by scope _ _ _ h (text.negative_zero {p = p} {r = r} a is) = ap (reader.a_field scope) a ∙ rw (ap value (sym a) ∙ h) refl
field-by scope _ _ _ h (text.least {p = p} o a b c d e) = ap (reader.a_field scope) o ∙ rw (ap value (sym o) ∙ h) refl

pub field-read : (scope : Scope) (one : CField) (p q : Tokens) → ReadsField scope one p q → reader.a_field scope p ≡ found one q
unfolding reader.a_field
field-read scope _ _ _ (text.a_value {value = v} {p = p} {q = q} reads) = field-by scope v p q (value-read v p q reads) reads
field-read scope _ _ _ (text.a_string bytes is) = ap (reader.a_field scope) is
field-read scope _ _ _ (text.a_start name {p = p} {q = q} h is) =
    ap (reader.a_field scope) is ∙ ap (λ (z : Bool). if z then found (field.Name name) q else refused (Word name ∷ q)) h

-- ## Behind `static`

static-number-row : (of : NumberType) → lookup (number_word of) static_words ≡ Some (OfNumbers of)
static-number-row number.Integer = refl
static-number-row number.Logical = refl

static-list-row : (of : ListType) → lookup (list_word of) static_words ≡ Some (OfList of)
static-list-row list.Transfer = refl
static-list-row list.Internal = refl
static-list-row list.Open = refl
static-list-row list.Close = refl
static-list-row list.Position = refl

module _ (scope : Scope) (new : List ℕ → Bool) where
  chars-number-read : (name : List ℕ) (n : ℕ) (p q : Tokens) → is_length n ≡ true → reader.static_chars_behind name (Digits n ∷ p) ≡ reader.static_text name n p
  unfolding reader.static_chars_behind
  chars-number-read name n p q h = ap (λ (z : Bool). if z then reader.static_text name n p else refused (Digits n ∷ p)) h

  own-read : (name bytes : List ℕ) (p q r s : Tokens) → ASign (codes "=") p q → q ≡ Quoted bytes ∷ r → ASign (codes ";") r s
      → reader.static_chars_behind name (Sign (codes "]") ∷ p) ≡ found (local.StaticChars name None (Some bytes), name) s
  unfolding reader.static_chars_behind reader.own_length
  own-read name bytes p q r s equals is ends =
      rw (sign-read (codes "=") p q equals, quoted-read (λ b. true) bytes q r refl is, sign-read (codes ";") r s ends) refl

  pub static-read : (one : CLocal) (name : List ℕ) (p q : Tokens) → new name ≡ true → ReadsStatic scope one name p q → reader.static scope new p ≡ found (one, name) q
  unfolding reader.static reader.static_by reader.static_number reader.static_number_by reader.static_value reader.static_numbers reader.static_chars reader.static_text reader.static_list
  static-read _ _ _ _ fresh (text.a_static of name {p = p} {q = q} {r = r} {s = s} word named ends) =
      rw (
        row-word-read static_words (number_word of) (OfNumbers of) p q (static-number-row of) word,
        name-read new name q r fresh named,
        row-sign-read number_ends (codes ";") Bare r s refl ends,
      ) refl
  static-read _ _ _ _ fresh (text.a_static_value of name {value = v} {p = p} {q = q} {r = r} {s = s} {t = t} {u = u} word named equals reads ends) =
      rw (
        row-word-read static_words (number_word of) (OfNumbers of) p q (static-number-row of) word,
        name-read new name q r fresh named,
        row-sign-read number_ends (codes "=") Valued r s refl equals,
        value-read v s t reads,
        sign-read (codes ";") t u ends,
      ) refl
  static-read _ _ _ _ fresh (text.a_static_array of name n {image = image} {p = p} {q = q} {r = r} {s = s} word array reads) =
      let a = array-read new name n q r fresh array in
      rw (
        row-word-read static_words (number_word of) (OfNumbers of) p q (static-number-row of) word,
        a.named,
        row-sign-read number_ends (codes "[") Many a.behind_name a.behind_opening refl a.opens,
        a.number,
        sign-read (codes "]") a.behind_number r a.closes,
        numbers-read n image r s reads,
      ) refl
  static-read _ _ _ _ fresh (text.a_static_text name n {image = image} {p = p} {q = q} {r = r} {s = s} word array reads) =
      let a = array-read new name n q r fresh array in
      rw (row-word-read static_words (codes "char") OfChars p q refl word, a.named, sign-read (codes "[") a.behind_name a.behind_opening a.opens, a.is)
      (chars-number-read name n a.behind_number r a.passes
      ∙ rw (sign-read (codes "]") a.behind_number r a.closes, text-read n image r s reads) refl)
  static-read _ _ _ _ fresh (text.a_text_of_its_length name bytes {p = p} {q = q} {r = r} {s = s} {t = t} {u = u} {v = v} {w = w} word named opens closes equals is ends) =
      rw (row-word-read static_words (codes "char") OfChars p q refl word, name-read new name q r fresh named, sign-read (codes "[") r s opens, closes) (own-read name bytes t u v w equals is ends)
  static-read _ _ _ _ fresh (text.a_list of name {fields = fields} {p = p} {q = q} {r = r} {s = s} {t = t} {u = u} {v = v} fits word named equals opens items ends) =
      rw (
        row-word-read static_words (list_word of) (OfList of) p q (static-list-row of) word,
        name-read new name q r fresh named,
        sign-read (codes "=") r s equals,
        sign-read (codes "{") s t opens,
        bounded-read (ReadsField scope) (codes "}") refl (reader.a_field scope) (field-read scope) (length (fields_of of)) [] fields t u items fits,
        sign-read (codes ";") u v ends,
      ) refl

  -- ## Other declarations

  result-row : (of : ResultType) → lookup (result_word of) result_words ≡ Some of
  result-row result.Int = refl
  result-row result.Integer = refl
  result-row result.Logical = refl
  result-row result.Void = refl

  number-row : (of : NumberType) → lookup (number_word of) local_words ≡ Some (Numbers of)
  number-row number.Integer = refl
  number-row number.Logical = refl

  plain-array-read : (made : List ℕ → ℕ → CLocal) (name : List ℕ) (n : ℕ) (p q r : Tokens) → new name ≡ true → ReadsArray name n p q → ASign (codes ";") q r
      → reader.an_array new made p ≡ found (made name n, name) r
  unfolding reader.an_array
  plain-array-read made name n p q r fresh array ends =
      let a = array-read new name n p q fresh array in
      rw (a.named, bracketed-read new name n p q a, sign-read (codes ";") q r ends) refl

  abbrev LocalRead : CLocal → List ℕ → Tokens → Tokens → Type 0
  LocalRead one name p q = Eventually (λ count. reader.a_local scope new count p ≡ found (one, name) q)

  -- what stands behind the first word, whatever the number of types may be
  at-once : (one : CLocal) (name : List ℕ) (p q : Tokens) → ((count : ℕ) → reader.a_local scope new count p ≡ found (one, name) q) → LocalRead one name p q
  at-once one name p q all = always all

  pub local-read : (one : CLocal) (name : List ℕ) (p q : Tokens) → new name ≡ true → ReadsLocal scope one name p q → LocalRead one name p q
  unfolding reader.a_local reader.local_by reader.extern reader.plain_number reader.plain_number_by reader.plain_numbers
  local-read _ _ _ _ fresh (text.an_extern of name {types = types} {p = p} {q = q} {r = r} {s = s} {t = t} {u = u} {v = v} word result named opens reads ends) =
      let e = argument-types-read types t u reads in
      record {
        first = e.first;
        holds = λ count h.
            rw (
              row-word-read local_words (codes "extern") External p q refl word,
              row-word-read result_words (result_word of) of q r (result-row of) result,
              name-read new name r s fresh named,
              sign-read (codes "(") s t opens,
              e.holds count h,
              sign-read (codes ";") u v ends,
            ) refl;
      }
  local-read _ _ _ _ fresh (text.static {one = one} {name = name} {p = p} {q = q} {r = r} word reads) =
      at-once one name p r (λ count. rw (row-word-read local_words (codes "static") Lasting p q refl word) (static-read one name q r fresh reads))
  local-read _ _ _ _ fresh (text.a_number of name {p = p} {q = q} {r = r} {s = s} word named ends) =
      at-once (local.Number of name) name p s
      (λ count. rw (row-word-read local_words (number_word of) (Numbers of) p q (number-row of) word, name-read new name q r fresh named, row-sign-read plain_ends (codes ";") Alone r s refl ends) refl)
  local-read _ _ _ _ fresh (text.an_array_of_numbers of name n {p = p} {q = q} {r = r} {s = s} word array ends) =
      let a = array-read new name n q r fresh array in
      at-once (local.Numbers of name n) name p s
      (λ count. rw (
        row-word-read local_words (number_word of) (Numbers of) p q (number-row of) word,
        a.named,
        row-sign-read plain_ends (codes "[") Several a.behind_name a.behind_opening refl a.opens,
        a.number,
        sign-read (codes "]") a.behind_number r a.closes,
        sign-read (codes ";") r s ends,
      ) refl)
  local-read _ _ _ _ fresh (text.an_array_of_chars name n {p = p} {q = q} {r = r} {s = s} word array ends) =
      at-once (local.Chars name n) name p s
      (λ count. rw (row-word-read local_words (codes "char") Chars p q refl word) (plain-array-read local.Chars name n q r s fresh array ends))
  local-read _ _ _ _ fresh (text.an_array_of_addresses name n {p = p} {q = q} {r = r} {s = s} word array ends) =
      at-once (local.Addresses name n) name p s
      (λ count. rw (row-word-read local_words (codes "address") Addresses p q refl word) (plain-array-read local.Addresses name n q r s fresh array ends))
