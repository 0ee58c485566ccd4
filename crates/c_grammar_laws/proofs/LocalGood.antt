-- Declarations at the head of a function are read as they stand, where a name may be declared.
use Rattle.std.proofs.Common.{◌≡◌, refl, sym, ap, ◌∙◌, subst, ℕ, zero, suc, ◌≤◌, ℤ, Bool, true, false, List, [], ◌∷◌, length, codes, bytes_eq, if◌then◌else◌, Option, Some, None, arith}
use Rattle.c_readers.specs.c_tree.declared.types.NumberType.{NumberType}
use Rattle.c_readers.specs.c_tree.declared.types.NumberType.TheVariants as number
use Rattle.c_readers.specs.c_tree.declared.types.ResultType.{ResultType}
use Rattle.c_readers.specs.c_tree.declared.types.ResultType.TheVariants as result
use Rattle.c_readers.specs.c_tree.declared.types.ListType.{ListType}
use Rattle.c_readers.specs.c_tree.declared.types.ListType.TheVariants as list
use Rattle.c_readers.specs.c_tree.declared.declaration.CLocal.{CLocal}
use Rattle.c_readers.specs.c_tree.declared.declaration.CLocal.TheVariants as local
use Rattle.c_readers.specs.c_tree.Tokens.{Word, Digits, Quoted, Sign}
use Rattle.c_readers.specs.c_tree.CWords.{AWord, ASign, result_word, number_word, list_word}
use Rattle.c_readers.specs.c_tree.Access.{fields_of}
use Rattle.c_readers.specs.c_tree.CExpressionText.{Scope}
use Rattle.c_readers.specs.c_tree.CDeclarationText as text
use Rattle.c_readers.specs.c_tree.CDeclarationText.{ReadsValue, ReadsArray, ReadsNumbers, ReadsText, ReadsTypes, ReadsField, ReadsStatic, ReadsLocal}
use Rattle.c_readers.specs.Readers.{Tokens, found, refused}
use Rattle.c_readers.specs.ValueReader.{is_length}
use Rattle.c_readers.specs.TypeReader.{result_words, argument_types}
use Rattle.c_readers.specs.DeclarationReader as reader
use Rattle.c_readers.specs.DeclarationReader.{NumberEnd, Bare, Valued, Many, number_ends, Declared, StaticLead, OfNumbers, OfChars, OfList, static_words, PlainEnd, Alone, Several, plain_ends, LocalLead, External, Lasting, Numbers, Chars, Addresses, local_words}
use Rattle.c_readers.specs.grammar.Exactness.{Filled, Judged, Good}
use Rattle.c_readers.proofs.grammar.Judging.{in_turn, in_turn_of, refuses, refuses-end, good-found, good-as, behind-token, judged-fewer}
use Rattle.c_grammar_laws.proofs.TokenGood.{equal-texts, OneSign, good-sign, OneName, good-name}
use Rattle.c_grammar_laws.proofs.ValueGood.{OneNumber, good-number, OneQuoted, good-quoted, RowWord, RowSign, good-word-of, good-sign-of, good-value}
use Rattle.c_grammar_laws.proofs.BoundedGood.{BoundedBehind, good-bounded}
use Rattle.c_grammar_laws.proofs.TypeGood.{good-argument-types}
use Rattle.c_grammar_laws.proofs.DeclarationGood.{row-word, number-sign, plain-sign, a-length, Bracketed, good-bracketed, array-of, good-numbers, good-text, good-field}

some-fields : (of : ListType) → 1 ≤ length (fields_of of)
some-fields list.Transfer = omega arith
some-fields list.Internal = omega arith
some-fields list.Open = omega arith
some-fields list.Close = omega arith
some-fields list.Position = omega arith

module _ (scope : Scope) (new : List ℕ → Bool) where
  -- ## Behind `static`

  -- a declaration that lasts, of a name that is new
  pub record StaticIs (d : Declared) (p q : Tokens) : Type 0 where
    pub reads : ReadsStatic scope d.0 d.1 p q
    pub fresh : new d.1 ≡ true

  -- the same behind its first word
  abbrev Static : List ℕ → Declared → Tokens → Tokens → Type 0
  Static word d p q = StaticIs d (Word word ∷ p) q

  -- the same behind the name and a sign
  abbrev Named : List ℕ → List ℕ → List ℕ → Declared → Tokens → Tokens → Type 0
  Named word name sign d p q = StaticIs d (Word word ∷ Word name ∷ Sign sign ∷ p) q

  good-static-value : {nests : ℕ} (of : NumberType) (name : List ℕ) → new name ≡ true
      → Good nests (Named (number_word of) name (codes "=")) (reader.static_value of name) (reader.static_value of name)
  unfolding reader.static_value
  good-static-value of name fresh =
      in_turn {First = ReadsValue} good-value
      (λ v. in_turn {First = OneSign (codes ";")} (good-sign (codes ";"))
      (λ u. good-found (local.StaticNumber of name (Some v), name) (λ q behind end p value. record {
        reads = text.a_static_value of name refl refl refl value end;
        fresh = fresh;
      })))

  good-static-numbers : {nests : ℕ} (of : NumberType) (name : List ℕ) → new name ≡ true
      → Good nests (Named (number_word of) name (codes "[")) (reader.static_numbers of name) (reader.static_numbers of name)
  unfolding reader.static_numbers
  good-static-numbers of name fresh =
      in_turn_of {First = OneNumber is_length} (good-number is_length 1 refl)
      (λ n p0 q0 passes. in_turn {First = OneSign (codes "]")} (good-sign (codes "]"))
      (λ u. in_turn {First = ReadsNumbers n} (good-numbers n (a-length n passes.passed).some)
      (λ values. good-found (local.StaticNumbers of name n values, name) (λ q behind reads p closes front number. record {
        reads = text.a_static_array of name n refl (text.an_array name n (a-length n number.passed) refl refl number.is closes) reads;
        fresh = fresh;
      }))))

  static-end : {nests : ℕ} (of : NumberType) (name : List ℕ) → new name ≡ true → (end : NumberEnd)
      → Good nests (λ d p q. (front : Tokens) → RowSign number_ends end front p → Static (number_word of) d (Word name ∷ front) q)
      (λ more. reader.static_number_by of name more end) (λ more. reader.static_number_by of name more end)
  unfolding reader.static_number_by
  static-end of name fresh Bare =
      good-found (local.StaticNumber of name None, name) (λ p front row. record { reads = text.a_static of name refl refl (number-sign Bare front p row); fresh = fresh })
  static-end of name fresh Valued =
      good-as (λ d p q spelled front row. subst (λ z. Static (number_word of) d (Word name ∷ z) q) (sym (number-sign Valued front p row)) spelled) (good-static-value of name fresh)
  static-end of name fresh Many =
      good-as (λ d p q spelled front row. subst (λ z. Static (number_word of) d (Word name ∷ z) q) (sym (number-sign Many front p row)) spelled) (good-static-numbers of name fresh)

  -- behind the bracket of an array of characters
  abbrev CharsBehind : List ℕ → Declared → Tokens → Tokens → Type 0
  CharsBehind name = Named (codes "char") name (codes "[")

  good-static-text : {nests : ℕ} (name : List ℕ) (n : ℕ) → new name ≡ true → is_length n ≡ true
      → Good nests (λ d p q. CharsBehind name d (Digits n ∷ p) q) (reader.static_text name n) (reader.static_text name n)
  unfolding reader.static_text
  good-static-text name n fresh is =
      in_turn {First = OneSign (codes "]")} (good-sign (codes "]"))
      (λ u. in_turn {First = ReadsText n} (good-text n)
      (λ bytes. good-found (local.StaticChars name (Some n) bytes, name) (λ q behind reads p closes. record {
        reads = text.a_static_text name n refl (text.an_array name n (a-length n is) refl refl refl closes) reads;
        fresh = fresh;
      })))

  good-own-length : {nests : ℕ} (name : List ℕ) → new name ≡ true
      → Good nests (λ d p q. CharsBehind name d (Sign (codes "]") ∷ p) q) (reader.own_length name) (reader.own_length name)
  unfolding reader.own_length
  good-own-length name fresh =
      in_turn {First = OneSign (codes "=")} (good-sign (codes "="))
      (λ u. in_turn {First = OneQuoted (λ bytes. true)} (good-quoted (λ bytes. true) [] refl)
      (λ bytes. in_turn {First = OneSign (codes ";")} (good-sign (codes ";"))
      (λ v. good-found (local.StaticChars name None (Some bytes), name) (λ q behind end inside quoted p equals. record {
        reads = text.a_text_of_its_length name bytes refl refl refl refl equals quoted.is end;
        fresh = fresh;
      }))))

  chars-able : (name : List ℕ) → new name ≡ true → Filled (CharsBehind name) []
  chars-able name fresh = record {
    later = Sign (codes "]") ∷ Sign (codes "=") ∷ Quoted [] ∷ Sign (codes ";") ∷ [];
    tree = (local.StaticChars name None (Some []), name);
    spelled = λ behind. record { reads = text.a_text_of_its_length name [] refl refl refl refl refl refl refl; fresh = fresh };
  }

  chars-number : (nests : ℕ) (name : List ℕ) (n : ℕ) (more : Tokens) → new name ≡ true → (does : Bool) → is_length n ≡ does
      → Judged nests (CharsBehind name) (reader.static_chars_behind name) (Digits n ∷ more) (if does then reader.static_text name n more else refused (Digits n ∷ more))
  unfolding reader.static_chars_behind
  chars-number nests name n more fresh true is =
      judged-fewer (CharsBehind name) (reader.static_chars_behind name) nests (suc nests) (Digits n ∷ more) (omega arith) (reader.static_text name n more)
      (behind-token (λ d p q. CharsBehind name d (Digits n ∷ p) q) (CharsBehind name) (reader.static_text name n) (reader.static_chars_behind name) nests (Digits n) more (λ d p q s. s)
      (λ p. ap (λ (z : Bool). if z then reader.static_text name n p else refused (Digits n ∷ p)) is) (reader.static_text name n more) ((good-static-text name n fresh is).judged more))
  chars-number nests name n more fresh false is =
      refuses nests (Digits n) more (chars-able name fresh) (λ p. ap (λ (z : Bool). if z then reader.static_text name n p else refused (Digits n ∷ p)) is)

  chars-sign : (nests : ℕ) (name sign : List ℕ) (more : Tokens) → new name ≡ true → (does : Bool) → bytes_eq sign (codes "]") ≡ does
      → Judged nests (CharsBehind name) (reader.static_chars_behind name) (Sign sign ∷ more) (if does then reader.own_length name more else refused (Sign sign ∷ more))
  unfolding reader.static_chars_behind
  chars-sign nests name sign more fresh true is =
      judged-fewer (CharsBehind name) (reader.static_chars_behind name) nests (suc nests) (Sign sign ∷ more) (omega arith) (reader.own_length name more)
      (behind-token (λ d p q. CharsBehind name d (Sign (codes "]") ∷ p) q) (CharsBehind name) (reader.own_length name) (reader.static_chars_behind name) nests (Sign sign) more
      (λ d p q s. subst (λ z. CharsBehind name d (Sign z ∷ p) q) (sym (equal-texts sign (codes "]") is)) s)
      (λ p. ap (λ (z : Bool). if z then reader.own_length name p else refused (Sign sign ∷ p)) is) (reader.own_length name more) ((good-own-length name fresh).judged more))
  chars-sign nests name sign more fresh false is =
      refuses nests (Sign sign) more (chars-able name fresh) (λ p. ap (λ (z : Bool). if z then reader.own_length name p else refused (Sign sign ∷ p)) is)

  chars-judged : (nests : ℕ) (name : List ℕ) → new name ≡ true → (tokens : Tokens)
      → Judged nests (CharsBehind name) (reader.static_chars_behind name) tokens (reader.static_chars_behind name tokens)
  unfolding reader.static_chars_behind
  chars-judged nests name fresh [] = refuses-end nests (chars-able name fresh) refl
  chars-judged nests name fresh (Digits n ∷ more) = chars-number nests name n more fresh (is_length n) refl
  chars-judged nests name fresh (Sign sign ∷ more) = chars-sign nests name sign more fresh (bytes_eq sign (codes "]")) refl
  chars-judged nests name fresh (token ∷ more) = refuses nests token more (chars-able name fresh) (λ p. refl)

  good-chars-behind : {nests : ℕ} (name : List ℕ) → new name ≡ true → Good nests (CharsBehind name) (reader.static_chars_behind name) (reader.static_chars_behind name)
  good-chars-behind {nests = nests} name fresh = record { able = chars-able name fresh; judged = chars-judged nests name fresh }

  -- what a word begins
  abbrev lead_word : StaticLead → List ℕ
  lead_word (OfNumbers of) = number_word of
  lead_word OfChars = codes "char"
  lead_word (OfList of) = list_word of

  static-word : (lead : StaticLead) (p q : Tokens) → RowWord static_words lead p q → AWord (lead_word lead) p q
  static-word lead p q r = row-word static_words lead_word (refl, (refl, (refl, (refl, (refl, (refl, (refl, (refl, tt)))))))) lead p q r

  module _ (some : List ℕ) (able : new some ≡ true) where
    good-static-number : {nests : ℕ} (of : NumberType) → Good nests (Static (number_word of)) (reader.static_number new of) (reader.static_number new of)
    unfolding reader.static_number
    good-static-number of =
        in_turn_of {First = OneName new} (good-name new some able)
        (λ name p0 q0 is. in_turn {First = RowSign number_ends} (good-sign-of number_ends (codes ";") Bare refl)
        (λ end. good-as (λ d p q spelled front row first named. subst (λ z. Static (number_word of) d z q) (sym named.is) (spelled front row)) (static-end of name is.passed end)))

    good-static-chars : {nests : ℕ} → Good nests (Static (codes "char")) (reader.static_chars new) (reader.static_chars new)
    unfolding reader.static_chars
    good-static-chars =
        in_turn_of {First = OneName new} (good-name new some able)
        (λ name p0 q0 is. in_turn {First = OneSign (codes "[")} (good-sign (codes "["))
        (λ u. good-as (λ d p q spelled front opens first named. subst (λ z. Static (codes "char") d z q) (sym (named.is ∙ ap (λ z. Word name ∷ z) opens)) spelled)
        (good-chars-behind name is.passed)))

    good-static-list : {nests : ℕ} (of : ListType) → Good nests (Static (list_word of)) (reader.static_list scope new of) (reader.static_list scope new of)
    unfolding reader.static_list
    good-static-list of =
        in_turn {First = OneName new} (good-name new some able)
        (λ name. in_turn {First = OneSign (codes "=")} (good-sign (codes "="))
        (λ u. in_turn {First = OneSign (codes "{")} (good-sign (codes "{"))
        (λ v. in_turn {First = BoundedBehind (ReadsField scope) (codes "}") (length (fields_of of)) []}
        (good-bounded (ReadsField scope) (codes "}") (length (fields_of of)) [] (reader.a_field scope) (reader.a_field scope) (good-field scope) (some-fields of))
        (λ fields. in_turn {First = OneSign (codes ";")} (good-sign (codes ";"))
        (λ w. good-found (local.StaticList of name fields, name) (λ q p5 end p4 items p3 opens p2 equals p1 named. record {
          reads = subst (λ z. ReadsStatic scope (local.StaticList of name z) name (Word (list_word of) ∷ p1) q) (sym items.whole)
              (text.a_list of name items.fits refl named.is equals opens items.spelled end);
          fresh = named.passed;
        }))))))

    by-static : {nests : ℕ} (lead : StaticLead)
        → Good nests (λ d p q. (front : Tokens) → RowWord static_words lead front p → StaticIs d front q) (λ more. reader.static_by scope new more lead) (λ more. reader.static_by scope new more lead)
    unfolding reader.static_by
    by-static (OfNumbers of) =
        good-as (λ d p q spelled front row. subst (λ z. StaticIs d z q) (sym (static-word (OfNumbers of) front p row)) spelled) (good-static-number of)
    by-static OfChars = good-as (λ d p q spelled front row. subst (λ z. StaticIs d z q) (sym (static-word OfChars front p row)) spelled) good-static-chars
    by-static (OfList of) = good-as (λ d p q spelled front row. subst (λ z. StaticIs d z q) (sym (static-word (OfList of) front p row)) spelled) (good-static-list of)

    pub good-static : {nests : ℕ} → Good nests StaticIs (reader.static scope new) (reader.static scope new)
    unfolding reader.static
    good-static = in_turn {First = RowWord static_words} (good-word-of static_words (codes "integer") (OfNumbers number.Integer) refl) by-static

  -- ## Other declarations

  -- a declaration of a name that is new
  pub record LocalIs (d : Declared) (p q : Tokens) : Type 0 where
    pub reads : ReadsLocal scope d.0 d.1 p q
    pub fresh : new d.1 ≡ true

  abbrev Led : List ℕ → Declared → Tokens → Tokens → Type 0
  Led word d p q = LocalIs d (Word word ∷ p) q

  result-row : (of : ResultType) (p q : Tokens) → RowWord result_words of p q → AWord (result_word of) p q
  result-row of p q r = row-word result_words result_word (refl, (refl, (refl, (refl, tt)))) of p q r

  good-plain-numbers : {nests : ℕ} (of : NumberType) (name : List ℕ) → new name ≡ true
      → Good nests (λ d p q. Led (number_word of) d (Word name ∷ Sign (codes "[") ∷ p) q) (reader.plain_numbers of name) (reader.plain_numbers of name)
  unfolding reader.plain_numbers
  good-plain-numbers of name fresh =
      in_turn {First = OneNumber is_length} (good-number is_length 1 refl)
      (λ n. in_turn {First = OneSign (codes "]")} (good-sign (codes "]"))
      (λ u. in_turn {First = OneSign (codes ";")} (good-sign (codes ";"))
      (λ v. good-found (local.Numbers of name n, name) (λ q behind end p closes front number. record {
        reads = text.an_array_of_numbers of name n refl (text.an_array name n (a-length n number.passed) refl refl number.is closes) end;
        fresh = fresh;
      }))))

  plain-number-end : {nests : ℕ} (of : NumberType) (name : List ℕ) → new name ≡ true → (end : PlainEnd)
      → Good nests (λ d p q. (front : Tokens) → RowSign plain_ends end front p → Led (number_word of) d (Word name ∷ front) q)
      (λ more. reader.plain_number_by of name more end) (λ more. reader.plain_number_by of name more end)
  unfolding reader.plain_number_by
  plain-number-end of name fresh Alone =
      good-found (local.Number of name, name) (λ p front row. record { reads = text.a_number of name refl refl (plain-sign Alone front p row); fresh = fresh })
  plain-number-end of name fresh Several =
      good-as (λ d p q spelled front row. subst (λ z. Led (number_word of) d (Word name ∷ z) q) (sym (plain-sign Several front p row)) spelled) (good-plain-numbers of name fresh)

  abbrev local_word : LocalLead → List ℕ
  local_word External = codes "extern"
  local_word Lasting = codes "static"
  local_word (Numbers of) = number_word of
  local_word Chars = codes "char"
  local_word Addresses = codes "address"

  local-row : (lead : LocalLead) (p q : Tokens) → RowWord local_words lead p q → AWord (local_word lead) p q
  local-row lead p q r = row-word local_words local_word (refl, (refl, (refl, (refl, (refl, (refl, tt)))))) lead p q r

  module _ (some : List ℕ) (able : new some ≡ true) where
    good-extern : (nests count most : ℕ) → nests ≤ count → count ≤ most → Good nests (Led (codes "extern")) (reader.extern new count) (reader.extern new most)
    unfolding reader.extern
    good-extern nests count most low high =
        in_turn {First = RowWord result_words} (good-word-of result_words (codes "int") result.Int refl)
        (λ of. in_turn {First = OneName new} (good-name new some able)
        (λ name. in_turn {First = OneSign (codes "(")} (good-sign (codes "("))
        (λ u. in_turn {First = ReadsTypes} (good-argument-types nests count most low high)
        (λ types. in_turn {First = OneSign (codes ";")} (good-sign (codes ";"))
        (λ v. good-found (local.Extern of name types, name) (λ q p5 end p4 types_read p3 opens p2 named p1 row. record {
          reads = text.an_extern of name refl (result-row of p1 p2 row) named.is opens types_read end;
          fresh = named.passed;
        }))))))

    good-plain-number : {nests : ℕ} (of : NumberType) → Good nests (Led (number_word of)) (reader.plain_number new of) (reader.plain_number new of)
    unfolding reader.plain_number
    good-plain-number of =
        in_turn_of {First = OneName new} (good-name new some able)
        (λ name p0 q0 is. in_turn {First = RowSign plain_ends} (good-sign-of plain_ends (codes ";") Alone refl)
        (λ end. good-as (λ d p q spelled front row first named. subst (λ z. Led (number_word of) d z q) (sym named.is) (spelled front row)) (plain-number-end of name is.passed end)))

    good-array : {nests : ℕ} (word : List ℕ) (made : List ℕ → ℕ → CLocal)
        → ((name : List ℕ) (n : ℕ) (p q r : Tokens) → ReadsArray name n p q → ASign (codes ";") q r → ReadsLocal scope (made name n) name (Word word ∷ p) r)
        → Good nests (Led word) (reader.an_array new made) (reader.an_array new made)
    unfolding reader.an_array
    good-array word made spells =
        in_turn {First = OneName new} (good-name new some able)
        (λ name. in_turn {First = Bracketed} good-bracketed
        (λ n. in_turn {First = OneSign (codes ";")} (good-sign (codes ";"))
        (λ u. good-found (made name n, name) (λ q behind end p brackets front named. record {
          reads = spells name n front behind q (array-of name n front p behind named.is brackets) end;
          fresh = named.passed;
        }))))

    good-lasting : {nests : ℕ} → Good nests (Led (codes "static")) (reader.static scope new) (reader.static scope new)
    good-lasting = good-as (λ d p q s. record { reads = text.static refl s.reads; fresh = s.fresh }) (good-static some able)

    pub by-local : (nests count most : ℕ) → nests ≤ count → count ≤ most → (lead : LocalLead)
        → Good nests (λ d p q. (front : Tokens) → RowWord local_words lead front p → LocalIs d front q)
        (λ more. reader.local_by scope new count more lead) (λ more. reader.local_by scope new most more lead)
    unfolding reader.local_by
    by-local nests count most low high External =
        good-as (λ d p q spelled front row. subst (λ z. LocalIs d z q) (sym (local-row External front p row)) spelled) (good-extern nests count most low high)
    by-local nests count most low high Lasting = good-as (λ d p q spelled front row. subst (λ z. LocalIs d z q) (sym (local-row Lasting front p row)) spelled) good-lasting
    by-local nests count most low high (Numbers of) =
        good-as (λ d p q spelled front row. subst (λ z. LocalIs d z q) (sym (local-row (Numbers of) front p row)) spelled) (good-plain-number of)
    by-local nests count most low high Chars =
        good-as (λ d p q spelled front row. subst (λ z. LocalIs d z q) (sym (local-row Chars front p row)) spelled)
        (good-array (codes "char") local.Chars (λ name n p q r array end. text.an_array_of_chars name n refl array end))
    by-local nests count most low high Addresses =
        good-as (λ d p q spelled front row. subst (λ z. LocalIs d z q) (sym (local-row Addresses front p row)) spelled)
        (good-array (codes "address") local.Addresses (λ name n p q r array end. text.an_array_of_addresses name n refl array end))

    pub good-local : (nests count most : ℕ) → nests ≤ count → count ≤ most → Good nests LocalIs (reader.a_local scope new count) (reader.a_local scope new most)
    unfolding reader.a_local
    good-local nests count most low high =
        in_turn {First = RowWord local_words} (good-word-of local_words (codes "extern") External refl) (by-local nests count most low high)
