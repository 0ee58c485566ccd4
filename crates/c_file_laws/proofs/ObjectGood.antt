-- External objects and constants are read as they stand.
use Rattle.std.proofs.Common.{refl, sym, ap, ◌∙◌, subst, ℕ, ℤ, List, ◌∷◌, codes}
use Rattle.c_file_readers.specs.c_tree.declared.file.CObject.TheVariants as object
use Rattle.c_file_readers.specs.c_tree.declared.file.CConstant.{CConstant}
use Rattle.c_file_readers.specs.c_tree.Tokens.{Word}
use Rattle.c_file_readers.specs.c_tree.CWords.{AWord}
use Rattle.c_file_readers.specs.c_tree.CDeclarationText as text
use Rattle.c_file_readers.specs.c_tree.CDeclarationText.{ReadsValue, ReadsNumbers, ReadsText, IsNew}
use Rattle.c_file_readers.specs.c_tree.CText as file
use Rattle.c_file_readers.specs.c_readers.Readers.{Tokens}
use Rattle.c_file_readers.specs.c_readers.DeclarationReader.{is_new}
use Rattle.c_file_readers.specs.grammar.Exactness.{Good}
use Rattle.c_file_readers.proofs.grammar.Judging.{in_turn, in_turn_of, good-as, good-found}
use Rattle.c_statement_laws.proofs.c_grammar_laws.TokenGood.{OneSign, good-sign, OneWord, good-word, OneName, good-name}
use Rattle.c_statement_laws.proofs.c_grammar_laws.ValueGood.{RowWord, good-word-of, good-value}
use Rattle.c_statement_laws.proofs.c_grammar_laws.DeclarationGood.{row-word, Bracketed, good-bracketed, array-of, good-numbers, good-text}
use Rattle.c_statement_laws.proofs.c_grammar_laws.FreshNames.{fresh_name, fresh-new, new-name}
use Rattle.c_file_readers.specs.ObjectReader as reader
use Rattle.c_file_readers.specs.ObjectReader.{Named, ObjectLead, OfIntegers, OfCharacters, object_words, an_object, a_constant}
use Rattle.c_file_laws.specs.FileLaws.{ObjectNew, ConstantNew, GoodObjects, GoodConstants}

module _ (here : List (List ℕ)) where
  -- ## External objects

  -- an external object behind its first word and its name
  abbrev pub ObjectBehind : List ℕ → List ℕ → Named → Tokens → Tokens → Type 0
  ObjectBehind word name made p q = ObjectNew here made (Word word ∷ Word name ∷ p) q

  pub good-integers-behind : {nests : ℕ} (name : List ℕ) → IsNew name here
      → Good nests (ObjectBehind (codes "integer") name) (reader.integers_behind name) (reader.integers_behind name)
  unfolding reader.integers_behind
  good-integers-behind name new =
      in_turn_of {First = Bracketed} good-bracketed
      (λ n p0 q0 is. in_turn {First = ReadsNumbers n} (good-numbers n is.length.some)
      (λ values. good-found (object.Integers name n values, name) (λ q p reads front brackets. record {
        reads = text.integers name n refl (array-of name n (Word name ∷ front) front p refl brackets) reads;
        fresh = new;
      })))

  good-characters-behind : {nests : ℕ} (name : List ℕ) → IsNew name here
      → Good nests (ObjectBehind (codes "char") name) (reader.characters_behind name) (reader.characters_behind name)
  unfolding reader.characters_behind
  good-characters-behind name new =
      in_turn {First = Bracketed} good-bracketed
      (λ n. in_turn {First = ReadsText n} (good-text n)
      (λ bytes. good-found (object.Chars name n bytes, name) (λ q p reads front brackets. record {
        reads = text.chars name n refl (array-of name n (Word name ∷ front) front p refl brackets) reads;
        fresh = new;
      })))

  good-integers : {nests : ℕ} → Good nests (λ made p q. ObjectNew here made (Word (codes "integer") ∷ p) q) (reader.integers (is_new here)) (reader.integers (is_new here))
  unfolding reader.integers
  good-integers =
      in_turn_of {First = OneName (is_new here)} (good-name (is_new here) (fresh_name here) (fresh-new here))
      (λ name p0 q0 is. good-as (λ made p q spelled front named. subst (λ z. ObjectNew here made (Word (codes "integer") ∷ z) q) (sym named.is) spelled)
      (good-integers-behind name (new-name here name is.passed)))

  good-characters : {nests : ℕ} → Good nests (λ made p q. ObjectNew here made (Word (codes "char") ∷ p) q) (reader.characters (is_new here)) (reader.characters (is_new here))
  unfolding reader.characters
  good-characters =
      in_turn_of {First = OneName (is_new here)} (good-name (is_new here) (fresh_name here) (fresh-new here))
      (λ name p0 q0 is. good-as (λ made p q spelled front named. subst (λ z. ObjectNew here made (Word (codes "char") ∷ z) q) (sym named.is) spelled)
      (good-characters-behind name (new-name here name is.passed)))

  abbrev object_word : ObjectLead → List ℕ
  object_word OfIntegers = codes "integer"
  object_word OfCharacters = codes "char"

  object-row : (lead : ObjectLead) (p q : Tokens) → RowWord object_words lead p q → AWord (object_word lead) p q
  object-row lead p q r = row-word object_words object_word (refl, (refl, tt)) lead p q r

  by-object : {nests : ℕ} (lead : ObjectLead)
      → Good nests (λ made p q. (front : Tokens) → RowWord object_words lead front p → ObjectNew here made front q)
      (λ more. reader.object_by (is_new here) more lead) (λ more. reader.object_by (is_new here) more lead)
  unfolding reader.object_by
  by-object OfIntegers = good-as (λ made p q spelled front row. subst (λ z. ObjectNew here made z q) (sym (object-row OfIntegers front p row)) spelled) good-integers
  by-object OfCharacters = good-as (λ made p q spelled front row. subst (λ z. ObjectNew here made z q) (sym (object-row OfCharacters front p row)) spelled) good-characters

  pub good-object : {nests : ℕ} → Good nests (ObjectNew here) (an_object (is_new here)) (an_object (is_new here))
  unfolding an_object
  good-object = in_turn {First = RowWord object_words} (good-word-of object_words (codes "integer") OfIntegers refl) by-object

  -- ## Constants

  abbrev constant_of : List ℕ → ℤ → CConstant
  constant_of name given = record { name = name; value = given }

  good-constant-behind : {nests : ℕ} (name : List ℕ) → IsNew name here
      → Good nests (λ one p q. ConstantNew here one (Word (codes "static") ∷ Word (codes "integer") ∷ Word name ∷ p) q) (reader.constant_behind name) (reader.constant_behind name)
  unfolding reader.constant_behind
  good-constant-behind name new =
      in_turn {First = OneSign (codes "=")} (good-sign (codes "="))
      (λ u. in_turn {First = ReadsValue} good-value
      (λ given. in_turn {First = OneSign (codes ";")} (good-sign (codes ";"))
      (λ v. good-found (constant_of name given) (λ q p3 end p2 value p1 equals. record {
        reads = file.a_constant name refl refl refl equals value end;
        fresh = new;
      }))))

  pub good-constant : {nests : ℕ} → Good nests (ConstantNew here) (a_constant (is_new here)) (a_constant (is_new here))
  unfolding a_constant
  good-constant =
      in_turn {First = OneWord (codes "static")} (good-word (codes "static"))
      (λ u. in_turn {First = OneWord (codes "integer")} (good-word (codes "integer"))
      (λ v. in_turn_of {First = OneName (is_new here)} (good-name (is_new here) (fresh_name here) (fresh-new here))
      (λ name p0 q0 is. good-as (λ one p q spelled p3 named p2 second p1 first.
      subst (λ z. ConstantNew here one z q)
      (sym (first ∙ ap (λ z. Word (codes "static") ∷ z) (second ∙ ap (λ z. Word (codes "integer") ∷ z) named.is))) spelled)
      (good-constant-behind name (new-name here name is.passed)))))

pub good_objects : GoodObjects
good_objects here nests = good-object here

pub good_constants : GoodConstants
good_constants here nests = good-constant here
