-- Functions are read as they stand, where their bodies are.
use Rattle.std.proofs.Common.{◌≡◌, refl, sym, ap, ◌∙◌, subst, ℕ, ◌≤◌, le_refl, true, List, [], ◌∷◌, codes}
use Rattle.c_file_readers.specs.c_tree.declared.types.ResultType.{ResultType}
use Rattle.c_file_readers.specs.c_tree.declared.types.ResultType.TheVariants as result
use Rattle.c_file_readers.specs.c_tree.declared.types.ParameterType.{ParameterType}
use Rattle.c_file_readers.specs.c_tree.declared.types.ParameterType.TheVariants as parameter
use Rattle.c_file_readers.specs.c_tree.declared.declaration.CParam.{CParam}
use Rattle.c_file_readers.specs.c_tree.declared.declaration.CLocal.{CLocal}
use Rattle.c_file_readers.specs.c_tree.declared.declaration.CLocal.TheVariants as local
use Rattle.c_file_readers.specs.c_tree.declared.file.CFunction.{CFunction}
use Rattle.c_file_readers.specs.c_tree.Tokens.{Word, Sign}
use Rattle.c_file_readers.specs.c_tree.CWords.{AWord, is_name, result_word}
use Rattle.c_file_readers.specs.c_tree.CExpressionText.{Scope}
use Rattle.c_file_readers.specs.c_tree.CDeclarationText as text
use Rattle.c_file_readers.specs.c_tree.CDeclarationText.{ReadsLocals, ReadsParams, IsNew, with_declared, with_parameter, with_function}
use Rattle.c_file_readers.specs.c_tree.CText as file
use Rattle.c_file_readers.specs.c_readers.Readers.{Tokens}
use Rattle.c_file_readers.specs.c_readers.TypeReader.{result_words}
use Rattle.c_file_readers.specs.c_readers.DeclarationReader.{is_new}
use Rattle.c_file_readers.specs.c_readers.HeadReader.{Parameters}
use Rattle.c_file_readers.specs.grammar.Exactness.{Good}
use Rattle.c_statement_laws.specs.c_grammar_laws.DeclarationLaws.{ReadsParameters, ReadsDeclarations}
use Rattle.c_file_readers.proofs.grammar.Judging.{in_turn, in_turn_of, good-as, good-fewer, good-found}
use Rattle.c_statement_laws.proofs.c_grammar_laws.TokenGood.{OneSign, good-sign, OneName, good-name}
use Rattle.c_statement_laws.proofs.c_grammar_laws.ValueGood.{RowWord, good-word-of}
use Rattle.c_statement_laws.proofs.c_grammar_laws.DeclarationGood.{row-word}
use Rattle.c_statement_laws.proofs.c_grammar_laws.HeadGood.{good_parameters, good_heads}
use Rattle.c_statement_laws.proofs.c_grammar_laws.FreshNames.{fresh_name, fresh-new, new-name}
use Rattle.c_statement_laws.specs.StatementLaws.{InOrder, ScopesInOrder, BodyIs, GoodBodies}
use Rattle.c_file_readers.specs.FileReader as reader
use Rattle.c_file_readers.specs.FileReader.{function_of, a_function}
use Rattle.c_file_laws.specs.FileLaws.{FunctionNew, GoodFunctions}

pub result-word : (of : ResultType) (p q : Tokens) → RowWord result_words of p q → AWord (result_word of) p q
result-word of p q r = row-word result_words result_word (refl, (refl, (refl, (refl, tt)))) of p q r

-- ## Scopes behind the head of a function

module _ (scopes : ScopesInOrder) where
  declared-order : (one : CLocal) (name : List ℕ) (scope : Scope) → is_name name ≡ true → InOrder scope → InOrder (with_declared one name scope)
  declared-order (local.Extern of function types) name scope named good = scopes.function name scope named good
  declared-order (local.StaticNumbers of array n image) name scope named good = scopes.array name scope named good
  declared-order (local.StaticChars array n text) name scope named good = scopes.array name scope named good
  declared-order other name scope named good = scopes.object name scope named good

  parameter-order : (of : ParameterType) (name : List ℕ) (scope : Scope) → is_name name ≡ true → InOrder scope → InOrder (with_parameter of name scope)
  parameter-order (parameter.Function type) name scope named good = scopes.pointer name scope named good
  parameter-order other name scope named good = scopes.object name scope named good

  pub locals-order : {scope last : Scope} {here : List (List ℕ)} {all : List CLocal} {p q : Tokens} → ReadsLocals scope here all last p q → InOrder scope → InOrder last
  locals-order (text.no_local scope here) good = good
  locals-order (text.one_local scope last here {one = one} {name = name} reads new more) good = locals-order more (declared-order one name scope new.named good)

  pub params-order : {scope last : Scope} {here names : List (List ℕ)} {all : List CParam} {p q : Tokens} → ReadsParams scope here all last names p q → InOrder scope → InOrder last
  params-order (text.no_parameter scope here void) good = good
  params-order (text.last_parameter scope here of name stands named new) good = parameter-order of name scope new.named good
  params-order (text.one_parameter scope last here names of name stands named new comma more) good = params-order more (parameter-order of name scope new.named good)

-- ## Functions

-- a function behind the word of its result and its name
abbrev pub FunctionBehind : Scope → List (List ℕ) → ResultType → List ℕ → CFunction → Tokens → Tokens → Type 0
FunctionBehind scope here of name one p q = FunctionNew scope here one (Word (result_word of) ∷ Word name ∷ p) q

module _ (scopes : ScopesInOrder) (bodies : GoodBodies) (scope : Scope) (here : List (List ℕ)) (good : InOrder scope) (nests count most : ℕ) (low : nests ≤ count) (high : count ≤ most) where
  -- what stands behind the parameters
  abbrev BehindHead : ResultType → List ℕ → Parameters → CFunction → Tokens → Tokens → Type 0
  BehindHead of name head one p q = (front : Tokens) → ReadsParameters (with_function name scope) [] head front p → FunctionBehind scope here of name one (Sign (codes "(") ∷ front) q

  good-body : (of : ResultType) (name : List ℕ) → IsNew name here → (head : Parameters) → InOrder head.1
      → Good nests (BehindHead of name head) (reader.function_body count of name head) (reader.function_body most of name head)
  unfolding reader.function_body
  good-body of name new head order =
      in_turn {First = OneSign (codes "{")} (good-sign (codes "{"))
      (λ u. in_turn_of {First = ReadsDeclarations head.1 head.2} (good_heads head.1 head.2 nests count most count most low high low high)
      (λ made p0 q0 declares. in_turn {First = BodyIs made.1} (good-fewer nests count low (bodies made.1 count most count most (locals-order scopes declares order) high (le_refl count) high))
      (λ inner. good-found (function_of of name head made inner) (λ q p3 body p2 locals p1 opens front params. record {
        reads = file.a_function of name body.met refl refl refl params.reads params.closes opens locals body.reads;
        fresh = new;
      }))))

  pub good-function-behind : (of : ResultType) (name : List ℕ) → IsNew name here
      → Good nests (FunctionBehind scope here of name) (reader.function_behind count scope of name) (reader.function_behind most scope of name)
  unfolding reader.function_behind
  good-function-behind of name new =
      in_turn {First = OneSign (codes "(")} (good-sign (codes "("))
      (λ u. in_turn_of {First = ReadsParameters (with_function name scope) []} (good_parameters (with_function name scope) [] nests count most low high)
      (λ head p0 q0 params. good-as (λ one p q spelled front declares outer opens. subst (λ z. FunctionBehind scope here of name one z q) (sym opens) (spelled front declares))
      (good-body of name new head (params-order scopes params.reads (scopes.function name scope new.named good)))))

  pub good-function : Good nests (FunctionNew scope here) (a_function count scope (is_new here)) (a_function most scope (is_new here))
  unfolding a_function
  good-function =
      in_turn {First = RowWord result_words} (good-word-of result_words (codes "int") result.Int refl)
      (λ of. in_turn_of {First = OneName (is_new here)} (good-name (is_new here) (fresh_name here) (fresh-new here))
      (λ name p0 q0 is. good-as (λ one p q spelled p2 named p1 row.
      subst (λ z. FunctionNew scope here one z q) (sym (result-word of p1 p2 row ∙ ap (λ z. Word (result_word of) ∷ z) named.is)) spelled)
      (good-function-behind of name (new-name here name is.passed))))

pub good_functions : ScopesInOrder → GoodBodies → GoodFunctions
good_functions scopes bodies scope here nests count most good low high = good-function scopes bodies scope here good nests count most low high
