-- The C expression for a linked one: objects and functions by their names. None where there is none: a negative constant, which C writes with a
-- sign, and a name that is not declared. C89, 3.3.
use Rattle.std.specs.Prelude.{ℕ, ℤ, pos, negsuc, nat_le, List, [], ◌∷◌, ◌++◌, Option, Some, None, option_map, if◌then◌else◌}
use Rattle.c_tree.specs.declared.expression.CExpr.{CExpr}
use Rattle.c_tree.specs.declared.expression.CExpr.TheVariants as expr
use Rattle.c_tree.specs.Terms.{Term, Constant, Variable, Array, Routine, Unknown, Prefixed, Cast, Between, Choice, Element, Field, Size, Most, Magnitude}

-- what the objects and the functions are called; a string has no name, but bytes
pub record Names : Type 0 where
  pub object : ℕ → List ℕ
  pub string : ℕ → Option (List ℕ)
  pub routine : ℕ → List ℕ

unfoldable pub with_two : (CExpr → CExpr → CExpr) → Option CExpr → Option CExpr → Option CExpr
with_two form (Some a) (Some b) = Some (form a b)
with_two form _ _ = None

unfoldable pub with_three : (CExpr → CExpr → CExpr → CExpr) → Option CExpr → Option CExpr → Option CExpr → Option CExpr
with_three form (Some a) (Some b) (Some c) = Some (form a b c)
with_three form _ _ _ = None

unfoldable pub number_expr : ℤ → Option CExpr
number_expr (pos n) = if nat_le n 2147483647 then Some (expr.Number (pos n)) else None
number_expr (negsuc n) = None

unfoldable pub array_expr : Option (List ℕ) → List ℕ → CExpr
array_expr (Some bytes) name = expr.Str bytes
array_expr None name = expr.Name name

unfoldable pub expr_for : Names → Term → Option CExpr
expr_for names (Constant z) = number_expr z
expr_for names (Variable k access) = Some (expr.Name (names.object k))
expr_for names (Array k access) = Some (array_expr (names.string k) (names.object k))
expr_for names (Routine k) = Some (expr.Name (names.routine k))
expr_for names Unknown = None
expr_for names (Prefixed op t) = option_map (expr.Unary op) (expr_for names t)
expr_for names (Cast type t) = option_map (expr.Cast type) (expr_for names t)
expr_for names (Between op t u) = with_two (expr.Binary op) (expr_for names t) (expr_for names u)
expr_for names (Choice t u v) = with_three expr.Choose (expr_for names t) (expr_for names u) (expr_for names v)
expr_for names (Element t u) = with_two expr.Index (expr_for names t) (expr_for names u)
expr_for names (Field t name) = option_map (λ e. expr.Field e name) (expr_for names t)
expr_for names Size = Some expr.SizeInt
expr_for names (Most which t u) = with_two (expr.MaxMin which) (expr_for names t) (expr_for names u)
expr_for names (Magnitude t) = option_map expr.Abs (expr_for names t)

unfoldable pub one_more : Option CExpr → Option (List CExpr) → Option (List CExpr)
one_more (Some e) (Some es) = Some (e ∷ es)
one_more _ _ = None

unfoldable pub exprs_for : Names → List Term → Option (List CExpr)
exprs_for names [] = Some []
exprs_for names (t ∷ ts) = one_more (expr_for names t) (exprs_for names ts)

-- the numbers of the strings in a term, from the left
unfoldable pub string_at : Option (List ℕ) → ℕ → List ℕ
string_at (Some bytes) k = k ∷ []
string_at None k = []

unfoldable pub strings_in : Names → Term → List ℕ
strings_in names (Array k access) = string_at (names.string k) k
strings_in names (Prefixed op t) = strings_in names t
strings_in names (Cast type t) = strings_in names t
strings_in names (Between op t u) = strings_in names t ++ strings_in names u
strings_in names (Choice t u v) = strings_in names t ++ (strings_in names u ++ strings_in names v)
strings_in names (Element t u) = strings_in names t ++ strings_in names u
strings_in names (Field t name) = strings_in names t
strings_in names (Most which t u) = strings_in names t ++ strings_in names u
strings_in names (Magnitude t) = strings_in names t
strings_in names t = []

unfoldable pub strings_in_all : Names → List Term → List ℕ
strings_in_all names [] = []
strings_in_all names (t ∷ ts) = strings_in names t ++ strings_in_all names ts

unfoldable pub expressions_opened : Unit {0}
unfolding with_two with_three number_expr array_expr expr_for one_more exprs_for string_at strings_in strings_in_all
expressions_opened = tt
