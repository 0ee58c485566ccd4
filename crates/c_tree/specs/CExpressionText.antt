-- Which expression and which call some tokens spell (C89, 3.3): one case for each production, with the symbols of the
-- production in their order. The letters p, q, r, .. are the tokens from a place on. Parentheses may stand more often
-- than needed.
use Rattle.std.specs.Prelude.{◌≡◌, ℕ, suc, ◌≤◌, pos, true, false, List, [], ◌∷◌, codes}
use Rattle.c_tree.specs.declared.types.CastType.{CastType}
use Rattle.c_tree.specs.declared.expression.UnaryOp.{UnaryOp}
use Rattle.c_tree.specs.declared.expression.BinaryOp.{BinaryOp}
use Rattle.c_tree.specs.declared.expression.Extreme.{Extreme}
use Rattle.c_tree.specs.declared.expression.CExpr.{CExpr}
use Rattle.c_tree.specs.declared.expression.CExpr.TheVariants as expr
use Rattle.c_tree.specs.declared.expression.CCall.{CCall}
use Rattle.c_tree.specs.Tokens.{Token, Digits, Quoted}
use Rattle.c_tree.specs.CWords.{is_among, is_name, Next, AWord, ASign, Stand, Separated, prefix_sign, infix_sign, infix_level, cast_tokens, extreme_word}

-- the names that are declared where a form stands: objects, and the arrays among them that last for the whole run;
-- functions; and parameters that point to functions
pub record Scope : Type 0 where
  pub objects : List (List ℕ)
  pub arrays : List (List ℕ)
  pub functions : List (List ℕ)
  pub pointers : List (List ℕ)

-- a name that is declared
pub data IsDeclared (scope : Scope) (name : List ℕ) : Type 0 where
  an_object : is_among name scope.objects ≡ true → IsDeclared scope name
  a_function : is_among name scope.functions ≡ true → IsDeclared scope name

-- a name that an expression may use: one that is declared, or one of the include line's two
pub data IsKnown (scope : Scope) (name : List ℕ) : Type 0 where
  declared_before : IsDeclared scope name → IsKnown scope name
  a_truth : is_among name (codes "TRUE_" ∷ codes "FALSE_" ∷ []) ≡ true → IsKnown scope name

-- an expression at a place that takes a level and all closer ones
pub data ReadsExpr (scope : Scope) : ℕ → CExpr → List Token → List Token → Type 0 where
  a_number : (place : ℕ) (n : ℕ) {p q : List Token} → n ≤ 2147483647 → Next (Digits n) p q → ReadsExpr scope place (expr.Number (pos n)) p q
  a_string : (place : ℕ) (bytes : List ℕ) {p q : List Token} → Next (Quoted bytes) p q → ReadsExpr scope place (expr.Str bytes) p q
  a_name : (place : ℕ) (name : List ℕ) {p q : List Token} → IsKnown scope name → AWord name p q → ReadsExpr scope place (expr.Name name) p q
  parenthesised : (place : ℕ) {e : CExpr} {p q r s : List Token}
      → ASign (codes "(") p q → ReadsExpr scope 0 e q r → ASign (codes ")") r s → ReadsExpr scope place e p s
  prefixed : (place : ℕ) (o : UnaryOp) {e : CExpr} {p q r : List Token} → place ≤ 7
      → ASign (prefix_sign o) p q → ReadsExpr scope 7 e q r → ReadsExpr scope place (expr.Unary o e) p r
  casted : (place : ℕ) (of : CastType) {e : CExpr} {p q r s t : List Token} → place ≤ 7
      → ASign (codes "(") p q → Stand (cast_tokens of) q r → ASign (codes ")") r s → ReadsExpr scope 7 e s t → ReadsExpr scope place (expr.Cast of e) p t
  between : (place : ℕ) (o : BinaryOp) {a b : CExpr} {p q r s : List Token} → place ≤ infix_level o
      → ReadsExpr scope (infix_level o) a p q → ASign (infix_sign o) q r → ReadsExpr scope (suc (infix_level o)) b r s → ReadsExpr scope place (expr.Binary o a b) p s
  chosen : (place : ℕ) {e a b : CExpr} {p q r s t u : List Token} → place ≤ 0
      → ReadsExpr scope 1 e p q → ASign (codes "?") q r → ReadsExpr scope 0 a r s → ASign (codes ":") s t → ReadsExpr scope 0 b t u
      → ReadsExpr scope place (expr.Choose e a b) p u
  indexed : (place : ℕ) {e i : CExpr} {p q r s t : List Token} → place ≤ 8
      → ReadsExpr scope 8 e p q → ASign (codes "[") q r → ReadsExpr scope 0 i r s → ASign (codes "]") s t → ReadsExpr scope place (expr.Index e i) p t
  a_field : (place : ℕ) {e : CExpr} (name : List ℕ) {p q r s : List Token} → place ≤ 8 → is_name name ≡ true
      → ReadsExpr scope 8 e p q → ASign (codes ".") q r → AWord name r s → ReadsExpr scope place (expr.Field e name) p s
  size : (place : ℕ) {p q r s t : List Token}
      → AWord (codes "sizeof") p q → ASign (codes "(") q r → AWord (codes "integer") r s → ASign (codes ")") s t → ReadsExpr scope place expr.SizeInt p t
  extreme_of : (place : ℕ) (which : Extreme) {a b : CExpr} {p q r s t u v : List Token}
      → AWord (extreme_word which) p q → ASign (codes "(") q r → ReadsExpr scope 0 a r s → ASign (codes ",") s t → ReadsExpr scope 0 b t u → ASign (codes ")") u v
      → ReadsExpr scope place (expr.MaxMin which a b) p v
  magnitude : (place : ℕ) {e : CExpr} {p q r s t : List Token}
      → AWord (codes "abs") p q → ASign (codes "(") q r → ReadsExpr scope 0 e r s → ASign (codes ")") s t → ReadsExpr scope place (expr.Abs e) p t

-- the arguments of a call, up to its closing parenthesis
pub data ReadsArguments (scope : Scope) : List CExpr → List Token → List Token → Type 0 where
  no_argument : {p q : List Token} → ASign (codes ")") p q → ReadsArguments scope [] p q
  some_arguments : {arguments : List CExpr} {p q : List Token} → Separated (ReadsExpr scope 0) (codes ")") arguments p q → ReadsArguments scope arguments p q

-- a call by the name of a function that is declared or defined before, or through a parameter that points to one
pub data ReadsCall (scope : Scope) : CCall → List Token → List Token → Type 0 where
  by_name : (name : List ℕ) {arguments : List CExpr} {p q r s : List Token} → is_among name scope.functions ≡ true
      → AWord name p q → ASign (codes "(") q r → ReadsArguments scope arguments r s
      → ReadsCall scope (record { through = false; name = name; arguments = arguments }) p s
  through_a_parameter : (name : List ℕ) {arguments : List CExpr} {p q r s t u v : List Token} → is_among name scope.pointers ≡ true
      → ASign (codes "(") p q → ASign (codes "*") q r → AWord name r s → ASign (codes ")") s t → ASign (codes "(") t u → ReadsArguments scope arguments u v
      → ReadsCall scope (record { through = true; name = name; arguments = arguments }) p v
