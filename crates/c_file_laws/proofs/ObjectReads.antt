-- External objects and constants that are spelled are read, and their readers are exact.
use Rattle.std.proofs.Common.{◌≡◌, refl, ℕ, Bool, true, List, codes}
use Rattle.c_file_readers.specs.c_tree.declared.file.CObject.{CObject}
use Rattle.c_file_readers.specs.c_tree.declared.file.CConstant.{CConstant}
use Rattle.c_file_readers.specs.c_tree.CWords.{AWord}
use Rattle.c_file_readers.specs.c_tree.CDeclarationText as text
use Rattle.c_file_readers.specs.c_tree.CDeclarationText.{ReadsArray, ReadsObject}
use Rattle.c_file_readers.specs.c_tree.CText as file
use Rattle.c_file_readers.specs.c_tree.CText.{ReadsConstant}
use Rattle.c_file_readers.specs.c_readers.Readers.{Tokens, found}
use Rattle.c_file_readers.specs.c_readers.ValueReader.{is_length}
use Rattle.c_file_readers.specs.c_readers.DeclarationReader.{is_new, bracketed}
use Rattle.c_statement_laws.specs.c_grammar_laws.ExpressionLaws.{Anything}
use Rattle.c_file_readers.proofs.grammar.GoodExact.{good-exact}
use Rattle.c_statement_laws.proofs.c_grammar_laws.ExpressionComplete.{always}
use Rattle.c_statement_laws.proofs.c_grammar_laws.FreshNames.{passes-new}
use Rattle.c_statement_laws.proofs.c_grammar_laws.ValueGood.{number-read}
use Rattle.c_statement_laws.proofs.c_grammar_laws.TokenReads.{sign-read, word-read, name-read, row-word-read, passes-length, value-read}
use Rattle.c_statement_laws.proofs.c_grammar_laws.LocalReads.{numbers-read, text-read}
use Rattle.c_file_readers.specs.ObjectReader as reader
use Rattle.c_file_readers.specs.ObjectReader.{OfIntegers, OfCharacters, object_words, an_object, a_constant}
use Rattle.c_file_laws.specs.FileLaws.{ObjectNew, ConstantNew, ExactObjects, ExactConstants}
use Rattle.c_file_laws.proofs.ObjectGood.{good_objects, good_constants}

-- a name with its number of elements
record ArrayStands (name : List ℕ) (n : ℕ) (p q : Tokens) : Type 0 where
  behind : Tokens
  named : AWord name p behind
  read : bracketed behind ≡ found n q

array-stands : (name : List ℕ) (n : ℕ) (p q : Tokens) → ReadsArray name n p q → ArrayStands name n p q
unfolding bracketed
array-stands _ _ _ _ (text.an_array name n {p = p} {q = q} {r = r} {s = s} {t = t} l named opens is closes) = record {
  behind = q;
  named = named;
  read = rw (sign-read (codes "[") q r opens, number-read is_length n r s (passes-length n l) is, sign-read (codes "]") s t closes) refl;
}

module _ (new : List ℕ → Bool) where
  pub object-read : (one : CObject) (name : List ℕ) (p q : Tokens) → new name ≡ true → ReadsObject one name p q → an_object new p ≡ found (one, name) q
  unfolding an_object reader.object_by reader.integers reader.integers_behind reader.characters reader.characters_behind
  object-read _ _ _ _ fresh (text.integers name n {image = image} {p = p} {q = q} {r = r} {s = s} word array reads) =
      let a = array-stands name n q r array in
      rw (row-word-read object_words (codes "integer") OfIntegers p q refl word, name-read new name q a.behind fresh a.named, a.read, numbers-read n image r s reads) refl
  object-read _ _ _ _ fresh (text.chars name n {image = image} {p = p} {q = q} {r = r} {s = s} word array reads) =
      let a = array-stands name n q r array in
      rw (row-word-read object_words (codes "char") OfCharacters p q refl word, name-read new name q a.behind fresh a.named, a.read, text-read n image r s reads) refl

  pub constant-read : (one : CConstant) (p q : Tokens) → new one.name ≡ true → ReadsConstant one p q → a_constant new p ≡ found one q
  unfolding a_constant reader.constant_behind
  constant-read _ _ _ fresh (file.a_constant name {value = v} {p = p} {q = q} {r = r} {s = s} {t = t} {u = u} {v = w} first second named equals value ends) =
      rw (
        word-read (codes "static") p q first,
        word-read (codes "integer") q r second,
        name-read new name r s fresh named,
        sign-read (codes "=") s t equals,
        value-read v t u value,
        sign-read (codes ";") u w ends,
      ) refl

pub exact_objects : ExactObjects
exact_objects here =
    good-exact (ObjectNew here) Anything (λ nests. an_object (is_new here)) (λ nests more least. good_objects here nests)
    (λ made p q spelled ends. always (λ n. object-read (is_new here) made.0 made.1 p q (passes-new here made.1 spelled.fresh) spelled.reads)) tt

pub exact_constants : ExactConstants
exact_constants here =
    good-exact (ConstantNew here) Anything (λ nests. a_constant (is_new here)) (λ nests more least. good_constants here nests)
    (λ one p q spelled ends. always (λ n. constant-read (is_new here) one p q (passes-new here one.name spelled.fresh) spelled.reads)) tt
