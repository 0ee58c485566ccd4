-- Tokens with what the readers of expressions and calls give, or with the tokens from the offending one on. The object is x, the function f, and the
-- parameter that points to a function g.
use Rattle.std.specs.Prelude.{◌≡◌, ℕ, pos, false, true, List, [], ◌∷◌, codes, Some, Ok, Err}
use Rattle.c_readers.specs.c_tree.declared.types.CastType.TheVariants as cast
use Rattle.c_readers.specs.c_tree.declared.expression.UnaryOp.TheVariants as prefix
use Rattle.c_readers.specs.c_tree.declared.expression.BinaryOp.TheVariants as op
use Rattle.c_readers.specs.c_tree.declared.expression.CExpr.{CExpr}
use Rattle.c_readers.specs.c_tree.declared.expression.CExpr.TheVariants as expr
use Rattle.c_readers.specs.c_tree.declared.expression.CCall.{CCall}
use Rattle.c_readers.specs.c_tree.Tokens.{Token, Word, Digits, Sign}
use Rattle.c_readers.specs.c_tree.CExpressionText.{Scope}
use Rattle.c_readers.specs.Readers.{Tokens}
use Rattle.c_readers.specs.ExpressionReader.{expression}
use Rattle.c_readers.specs.CallReader.{call}

abbrev row_scope : Scope
row_scope = record {
  objects = codes "g" ∷ codes "x" ∷ [];
  arrays = [];
  functions = codes "f" ∷ [];
  pointers = codes "g" ∷ [];
}

abbrev x : Token
x = Word (codes "x")

abbrev sign : List ℕ → Token
sign text = Sign text

abbrev minus : Token
minus = sign (codes "-")

abbrev var : CExpr
var = expr.Name (codes "x")

abbrev value : ℕ → CExpr
value n = expr.Number (pos n)

-- all tokens are read as an expression, and a `;` stands behind them
abbrev IsRead : ℕ → (Tokens → Tokens) → CExpr → Type 0
IsRead place before e = expression row_scope 9 place (before (sign (codes ";") ∷ [])) ≡ Some (Ok (e, sign (codes ";") ∷ []))

-- tokens are refused at the first of the others
abbrev IsRefused : (Tokens → Tokens) → Tokens → Type 0
IsRefused before rest = expression row_scope 9 0 (before rest) ≡ Some (Err rest)

pub record ExpressionRows : Type 0 where
  pub differences : IsRead 0 (λ r. x ∷ minus ∷ Digits 1 ∷ minus ∷ x ∷ r) (expr.Binary op.Subtract (expr.Binary op.Subtract var (value 1)) var)
  pub sign_before_product : IsRead 0 (λ r. minus ∷ x ∷ sign (codes "*") ∷ Digits 2 ∷ r) (expr.Binary op.Multiply (expr.Unary prefix.Minus var) (value 2))
  pub sum_of_products :
      IsRead 0 (λ r. x ∷ sign (codes "*") ∷ Digits 2 ∷ sign (codes "+") ∷ Digits 3 ∷ sign (codes "%") ∷ x ∷ r)
      (expr.Binary op.Add (expr.Binary op.Multiply var (value 2)) (expr.Binary op.Remainder (value 3) var))
  pub choices :
      IsRead 0 (λ r. x ∷ sign (codes "?") ∷ Digits 1 ∷ sign (codes ":") ∷ x ∷ sign (codes "?") ∷ Digits 2 ∷ sign (codes ":") ∷ Digits 3 ∷ r)
      (expr.Choose var (value 1) (expr.Choose var (value 2) (value 3)))
  pub cast_of_an_element :
      IsRead 0 (λ r. sign (codes "(") ∷ Word (codes "char") ∷ sign (codes "*") ∷ sign (codes ")") ∷ x ∷ sign (codes "[") ∷ Digits 0 ∷ sign (codes "]") ∷ r)
      (expr.Cast cast.Chars (expr.Index var (value 0)))
  pub target : IsRead 7 (λ r. sign (codes "*") ∷ x ∷ r) (expr.Unary prefix.Deref var)
  pub ends_early : IsRefused (λ r. x ∷ minus ∷ r) []
  pub unknown_name : IsRefused (λ r. x ∷ minus ∷ r) (Word (codes "y") ∷ sign (codes ";") ∷ [])
  pub number_too_great : IsRefused (λ r. r) (Digits 2147483648 ∷ [])
  pub size_of_a_name : IsRefused (λ r. Word (codes "sizeof") ∷ sign (codes "(") ∷ r) (x ∷ sign (codes ")") ∷ [])
  pub cast_of_no_pointer : IsRefused (λ r. sign (codes "(") ∷ Word (codes "char") ∷ r) (sign (codes ")") ∷ x ∷ [])
  pub missing_arm : IsRefused (λ r. x ∷ sign (codes "?") ∷ Digits 1 ∷ r) (sign (codes ";") ∷ [])
  pub word_as_field : IsRefused (λ r. x ∷ sign (codes ".") ∷ r) (Word (codes "goto") ∷ [])

-- a call with a `;` behind it
abbrev IsCalled : (Tokens → Tokens) → CCall → Type 0
IsCalled before one = call row_scope 9 9 (before (sign (codes ";") ∷ [])) ≡ Some (Ok (one, sign (codes ";") ∷ []))

abbrev IsNotCalled : (Tokens → Tokens) → Tokens → Type 0
IsNotCalled before rest = call row_scope 9 9 (before rest) ≡ Some (Err rest)

pub record CallRows : Type 0 where
  pub by_name :
      IsCalled (λ r. Word (codes "f") ∷ sign (codes "(") ∷ x ∷ sign (codes ",") ∷ Digits 1 ∷ sign (codes ")") ∷ r)
      (record { through = false; name = codes "f"; arguments = var ∷ value 1 ∷ [] })
  pub without_arguments : IsCalled (λ r. Word (codes "f") ∷ sign (codes "(") ∷ sign (codes ")") ∷ r) (record { through = false; name = codes "f"; arguments = [] })
  pub through_a_parameter :
      IsCalled (λ r. sign (codes "(") ∷ sign (codes "*") ∷ Word (codes "g") ∷ sign (codes ")") ∷ sign (codes "(") ∷ sign (codes ")") ∷ r)
      (record { through = true; name = codes "g"; arguments = [] })
  pub no_function : IsNotCalled (λ r. r) (x ∷ sign (codes "(") ∷ sign (codes ")") ∷ [])
  pub no_pointer : IsNotCalled (λ r. sign (codes "(") ∷ sign (codes "*") ∷ r) (x ∷ sign (codes ")") ∷ [])
  pub comma_at_the_end : IsNotCalled (λ r. Word (codes "f") ∷ sign (codes "(") ∷ x ∷ sign (codes ",") ∷ r) (sign (codes ")") ∷ [])
