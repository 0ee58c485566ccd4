-- The laws of the readers of expressions, of arguments and of calls.
use Rattle.std.specs.Prelude.{◌≡◌, ◌≤◌, ℕ, pred, true, []}
use Rattle.std.specs.List.{list_all}
use Rattle.c_readers.specs.c_tree.CWords.{is_name}
use Rattle.c_readers.specs.c_tree.CExpressionText.{Scope, ReadsExpr, ReadsArguments, ReadsCall}
use Rattle.c_readers.specs.Readers.{Tokens}
use Rattle.c_readers.specs.ExpressionReader.{expression, follow}
use Rattle.c_readers.specs.CallReader.{arguments, call}
use Rattle.c_readers.specs.grammar.Exactness.{Filled, Good, Exact}

-- The names in scope are names.
pub record OfNames (scope : Scope) : Type 0 where
  pub objects : list_all is_name scope.objects ≡ true
  pub functions : list_all is_name scope.functions ≡ true
  pub pointers : list_all is_name scope.pointers ≡ true

-- What is read at a place is not gone on with.
abbrev pub EndsAt : ℕ → Tokens → Type 0
EndsAt place tokens = follow tokens ≤ pred place

-- The readers of expressions judge all tokens, at each place.
abbrev pub GoodExpressions : Type 0
GoodExpressions = (scope : Scope) (nests more place : ℕ) → nests ≤ more → place ≤ 9
    → Good nests (ReadsExpr scope place) (expression scope nests place) (expression scope more place)

-- They are exact, where the names in scope are names.
abbrev pub ExactExpressions : Type 0
ExactExpressions = (scope : Scope) (place : ℕ) → OfNames scope → place ≤ 9 → Exact (ReadsExpr scope place) (EndsAt place) (λ nests. expression scope nests place)

-- The readers of arguments judge all tokens, and those of calls too, where there is something to call.
abbrev pub GoodArguments : Type 0
GoodArguments = (scope : Scope) (nests more count most : ℕ) → nests ≤ more → nests ≤ count → count ≤ most
    → Good nests (ReadsArguments scope) (arguments scope nests count) (arguments scope more most)

abbrev pub GoodCalls : Type 0
GoodCalls = (scope : Scope) (nests more count most : ℕ) → nests ≤ more → nests ≤ count → count ≤ most → Filled (ReadsCall scope) []
    → Good nests (ReadsCall scope) (call scope nests count) (call scope more most)

-- Anything may follow.
abbrev pub Anything : Tokens → Type 0
Anything tokens = Unit {0}

-- They are exact, where the names in scope are names.
abbrev pub ExactArguments : Type 0
ExactArguments = (scope : Scope) → OfNames scope → Exact (ReadsArguments scope) Anything (λ nests. arguments scope nests nests)

abbrev pub ExactCalls : Type 0
ExactCalls = (scope : Scope) → OfNames scope → Filled (ReadsCall scope) [] → Exact (ReadsCall scope) Anything (λ nests. call scope nests nests)
