-- The types of parameters and of arguments are read as they stand.
use Rattle.std.proofs.Common.{◌≡◌, refl, sym, ap, ◌∙◌, subst, ℕ, suc, ◌≤◌, Bool, true, false, List, [], ◌∷◌, ◌++◌, codes, bytes_eq, drop, Some, arith}
use Rattle.c_readers.specs.c_tree.declared.types.ParameterType.{ParameterType}
use Rattle.c_readers.specs.c_tree.declared.types.ParameterType.TheVariants as parameter
use Rattle.c_readers.specs.c_tree.declared.types.ArgumentType.{ArgumentType}
use Rattle.c_readers.specs.c_tree.declared.types.ArgumentType.TheVariants as argument
use Rattle.c_readers.specs.c_tree.Tokens.{Token, Word, Sign}
use Rattle.c_readers.specs.c_tree.CWords.{ASign, Stand, parameter_tokens, argument_tokens}
use Rattle.c_readers.specs.c_tree.CDeclarationText as text
use Rattle.c_readers.specs.c_tree.CDeclarationText.{ReadsType, ReadsTypes}
use Rattle.c_readers.specs.Readers.{Tokens, all_stand}
use Rattle.c_readers.specs.ListReader.{separated}
use Rattle.c_readers.specs.TypeReader as reader
use Rattle.c_readers.specs.TypeReader.{parameter_words, parameter_type, argument_words, argument_type, argument_types}
use Rattle.c_readers.specs.grammar.Exactness.{head, Filled, Judged, Good}
use Rattle.c_readers.proofs.grammar.Judging.{in_turn, good-as, judged-as, judged-also, judged-fewer, behind-token, good-found, at-the-token, at-the-end}
use Rattle.c_grammar_laws.proofs.TokenGood.{equal-texts, OneSign, good-sign, AllStand, plain, good-stand}
use Rattle.c_grammar_laws.proofs.ListGood.{ItemsBehind, good-separated}
use Rattle.c_grammar_laws.proofs.ValueGood.{RowWord, good-word-of}
use Rattle.c_grammar_laws.proofs.ExpressionTables.{AllRows, row-found}

-- a type's tokens begin with this word, and words and signs follow
pub record Begins (tokens : Tokens) (word : List ℕ) : Type 0 where
  pub whole : tokens ≡ Word word ∷ drop 1 tokens
  pub fit : plain (drop 1 tokens)

parameters-begin : AllRows (λ word of. Begins (parameter_tokens of) word) parameter_words
parameters-begin = (
  record { whole = refl; fit = tt },
  (
    record { whole = refl; fit = tt },
    (
      record { whole = refl; fit = tt },
      (
        record { whole = refl; fit = tt },
        (
          record { whole = refl; fit = tt },
          (
            record { whole = refl; fit = tt },
            (
              record { whole = refl; fit = tt },
              (
                record { whole = refl; fit = tt },
                (record { whole = refl; fit = tt }, tt),
              ),
            ),
          ),
        ),
      ),
    ),
  ),
)

arguments-begin : AllRows (λ word of. Begins (argument_tokens of) word) argument_words
arguments-begin = (
  record { whole = refl; fit = tt },
  (
    record { whole = refl; fit = tt },
    (
      record { whole = refl; fit = tt },
      (
        record { whole = refl; fit = tt },
        (
          record { whole = refl; fit = tt },
          (
            record { whole = refl; fit = tt },
            (
              record { whole = refl; fit = tt },
              (
                record { whole = refl; fit = tt },
                (
                  record { whole = refl; fit = tt },
                  (
                    record { whole = refl; fit = tt },
                    (
                      record { whole = refl; fit = tt },
                      (
                        record { whole = refl; fit = tt },
                        (record { whole = refl; fit = tt }, (record { whole = refl; fit = tt }, (record { whole = refl; fit = tt }, tt))),
                      ),
                    ),
                  ),
                ),
              ),
            ),
          ),
        ),
      ),
    ),
  ),
)

-- the first word and the tokens behind it
pub whole-type : (tokens p q r : Tokens) (word : List ℕ) → Begins tokens word → p ≡ Word word ∷ q → Stand (drop 1 tokens) q r → Stand tokens p r
whole-type tokens p q r word begins first rest = first ∙ (ap (λ z. Word word ∷ z) rest ∙ ap (λ z. z ++ r) (sym begins.whole))

abbrev pub ParameterStands : ParameterType → Tokens → Tokens → Type 0
ParameterStands of p q = Stand (parameter_tokens of) p q

-- the tokens behind the first word of a type of the table, and the whole type
behind-parameter : (of : ParameterType) → plain (drop 1 (parameter_tokens of))
behind-parameter parameter.Integers = tt
behind-parameter parameter.Logicals = tt
behind-parameter parameter.Chars = tt
behind-parameter parameter.Length = tt
behind-parameter parameter.Int = tt
behind-parameter (parameter.Function of) = tt

behind-argument : (of : ArgumentType) → plain (drop 1 (argument_tokens of))
behind-argument (argument.Parameter of) = behind-parameter of
behind-argument (argument.List of) = tt
behind-argument argument.Addresses = tt

pub good-parameter-type : {nests : ℕ} → Good nests ParameterStands parameter_type parameter_type
unfolding parameter_type
good-parameter-type =
    in_turn {First = RowWord parameter_words} (good-word-of parameter_words (codes "integer") parameter.Integers refl)
    (λ of. in_turn {First = AllStand (drop 1 (parameter_tokens of))} (good-stand (drop 1 (parameter_tokens of)) (behind-parameter of))
    (λ u. good-found of (λ p q rest front first.
    whole-type (parameter_tokens of) front q p first.word (row-found (λ word of. Begins (parameter_tokens of) word) first.word of parameter_words parameters-begin first.row) first.is rest)))

pub good-argument-type : {nests : ℕ} → Good nests ReadsType argument_type argument_type
unfolding argument_type
good-argument-type =
    in_turn {First = RowWord argument_words} (good-word-of argument_words (codes "integer") (argument.Parameter parameter.Integers) refl)
    (λ of. in_turn {First = AllStand (drop 1 (argument_tokens of))} (good-stand (drop 1 (argument_tokens of)) (behind-argument of))
    (λ u. good-found of (λ p q rest front first.
    whole-type (argument_tokens of) front q p first.word (row-found (λ word of. Begins (argument_tokens of) word) first.word of argument_words arguments-begin first.row) first.is rest)))

-- ## The types of a declared function

types-able : Filled ReadsTypes []
types-able = record { later = Word (codes "void") ∷ Sign (codes ")") ∷ []; tree = []; spelled = λ behind. text.no_type refl refl }

some-types : (types : List ArgumentType) (p q : Tokens) → ItemsBehind ReadsType (codes ")") [] types p q → ReadsTypes types p q
some-types types p q items = subst (λ z. ReadsTypes z p q) (sym items.whole) (text.some_types items.spelled)

abbrev BehindVoid : List ArgumentType → Tokens → Tokens → Type 0
BehindVoid types p q = ReadsTypes types (Word (codes "void") ∷ p) q

good-void : {nests : ℕ} → Good nests BehindVoid (λ more. reader.by_void 0 [] more true) (λ more. reader.by_void 0 [] more true)
unfolding reader.by_void
good-void = in_turn {First = OneSign (codes ")")} (good-sign (codes ")")) (λ u. good-found [] (λ p front closes. text.no_type refl closes))

module _ (nests count most : ℕ) (low : nests ≤ count) (high : count ≤ most) where
  good-some : Good nests (ItemsBehind ReadsType (codes ")") []) (separated argument_type (codes ")") count []) (separated argument_type (codes ")") most [])
  good-some = good-separated ReadsType (codes ")") nests count most [] argument_type argument_type low high good-argument-type

  as-some : (tokens : Tokens) → ((p : Tokens) → head p ≡ head tokens → argument_types most p ≡ separated argument_type (codes ")") most [] p)
      → Judged nests ReadsTypes (argument_types most) tokens (separated argument_type (codes ")") count [] tokens)
  as-some tokens same =
      judged-also ReadsTypes nests tokens same (separated argument_type (codes ")") count [] tokens)
      (judged-as nests (separated argument_type (codes ")") most []) tokens some-types (separated argument_type (codes ")") count [] tokens) (good-some.judged tokens))

  by-void : (word : List ℕ) (behind : Tokens) (is : Bool) → bytes_eq word (codes "void") ≡ is
      → Judged nests ReadsTypes (argument_types most) (Word word ∷ behind) (reader.by_void count word behind is)
  unfolding argument_types reader.by_void
  by-void word behind true h =
      judged-fewer ReadsTypes (argument_types most) nests (suc nests) (Word word ∷ behind) (omega arith) (reader.by_void count word behind true)
      (behind-token BehindVoid ReadsTypes (λ more. reader.by_void 0 [] more true) (argument_types most) nests (Word word) behind
      (λ types p q spelled. subst (λ z. ReadsTypes types (Word z ∷ p) q) (sym (equal-texts word (codes "void") h)) spelled)
      (λ p. ap (λ z. reader.by_void most word p z) h) (reader.by_void 0 [] behind true) (good-void.judged behind))
  by-void word behind false h =
      as-some (Word word ∷ behind)
      (at-the-token (λ p. argument_types most p ≡ separated argument_type (codes ")") most [] p) (Word word) (λ p. ap (λ z. reader.by_void most word p z) h))

  types-judged : (tokens : Tokens) → Judged nests ReadsTypes (argument_types most) tokens (argument_types count tokens)
  unfolding argument_types
  types-judged [] = as-some [] (at-the-end (λ p. argument_types most p ≡ separated argument_type (codes ")") most [] p) refl)
  types-judged (Word word ∷ behind) = by-void word behind (bytes_eq word (codes "void")) refl
  types-judged (token ∷ behind) =
      as-some (token ∷ behind) (at-the-token (λ p. argument_types most p ≡ separated argument_type (codes ")") most [] p) token (λ p. refl))

  pub good-argument-types : Good nests ReadsTypes (argument_types count) (argument_types most)
  good-argument-types = record { able = types-able; judged = types-judged }
