-- The laws of the readers of declarations.
use Rattle.std.specs.Prelude.{◌≡◌, ◌≤◌, ℕ, Bool, false, List, [], ◌∷◌, codes, is_some}
use Rattle.c_readers.specs.c_tree.Tokens.{Word}
use Rattle.c_readers.specs.c_tree.CWords.{ASign}
use Rattle.c_readers.specs.c_tree.CExpressionText.{Scope}
use Rattle.c_readers.specs.c_tree.CDeclarationText.{ReadsValue, ReadsTypes, ReadsLocal, ReadsLocals, ReadsParams, IsNew}
use Rattle.c_readers.specs.Readers.{Tokens, lookup}
use Rattle.c_readers.specs.ValueReader.{value}
use Rattle.c_readers.specs.TypeReader.{argument_types}
use Rattle.c_readers.specs.DeclarationReader.{is_new, Declared, local_words, a_local}
use Rattle.c_readers.specs.HeadReader.{Parameters, parameter_list, Locals, locals}
use Rattle.c_readers.specs.grammar.Exactness.{Good, Exact}
use Rattle.c_grammar_laws.specs.ExpressionLaws.{Anything}

-- A declaration of a name that is new.
pub record DeclaresNew (scope : Scope) (here : List (List ℕ)) (d : Declared) (p q : Tokens) : Type 0 where
  pub reads : ReadsLocal scope d.0 d.1 p q
  pub fresh : IsNew d.1 here

-- The parameters of a function, up to the closing parenthesis, with the scope and the names behind them.
pub record ReadsParameters (scope : Scope) (here : List (List ℕ)) (made : Parameters) (p q : Tokens) : Type 0 where
  pub middle : Tokens
  pub reads : ReadsParams scope here made.0 made.1 made.2 p middle
  pub closes : ASign (codes ")") middle q

-- The declarations of a function, with the scope behind them.
abbrev pub ReadsDeclarations : Scope → List (List ℕ) → Locals → Tokens → Tokens → Type 0
ReadsDeclarations scope here made p q = ReadsLocals scope here made.0 made.1 p q

-- What stands first begins no declaration.
abbrev pub begins_local : Tokens → Bool
begins_local (Word word ∷ more) = is_some (lookup word local_words)
begins_local other = false

abbrev pub EndsDeclarations : Tokens → Type 0
EndsDeclarations tokens = begins_local tokens ≡ false

-- The readers judge all tokens.
abbrev pub GoodDeclarations : Type 0
GoodDeclarations = (scope : Scope) (here : List (List ℕ)) (nests count most : ℕ) → nests ≤ count → count ≤ most
    → Good nests (DeclaresNew scope here) (a_local scope (is_new here) count) (a_local scope (is_new here) most)

abbrev pub GoodParameters : Type 0
GoodParameters = (scope : Scope) (here : List (List ℕ)) (nests count most : ℕ) → nests ≤ count → count ≤ most
    → Good nests (ReadsParameters scope here) (parameter_list count scope here) (parameter_list most scope here)

abbrev pub GoodHeads : Type 0
GoodHeads = (scope : Scope) (here : List (List ℕ)) (nests most above count more : ℕ) → nests ≤ most → most ≤ above → nests ≤ count → count ≤ more
    → Good nests (ReadsDeclarations scope here) (locals most count scope here []) (locals above more scope here [])

-- They are exact.
abbrev pub ExactValues : Type 0
ExactValues = Exact ReadsValue Anything (λ nests. value)

abbrev pub ExactTypes : Type 0
ExactTypes = Exact ReadsTypes Anything argument_types

abbrev pub ExactDeclarations : Type 0
ExactDeclarations = (scope : Scope) (here : List (List ℕ)) → Exact (DeclaresNew scope here) Anything (λ nests. a_local scope (is_new here) nests)

abbrev pub ExactParameters : Type 0
ExactParameters = (scope : Scope) (here : List (List ℕ)) → Exact (ReadsParameters scope here) Anything (λ nests. parameter_list nests scope here)

abbrev pub ExactHeads : Type 0
ExactHeads = (scope : Scope) (here : List (List ℕ)) → Exact (ReadsDeclarations scope here) EndsDeclarations (λ nests. locals nests nests scope here [])
