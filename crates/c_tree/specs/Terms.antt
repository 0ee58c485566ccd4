-- Expressions once they are linked: names and strings are the numbers of their objects and functions, each
-- with the type by which it is accessed. Nothing behind linking has names but the fields of lists.
use Rattle.std.specs.Prelude.{ℕ, ℤ, List}
use Rattle.c_tree.specs.declared.types.CastType.{CastType}
use Rattle.c_tree.specs.declared.expression.UnaryOp.{UnaryOp}
use Rattle.c_tree.specs.declared.expression.BinaryOp.{BinaryOp}
use Rattle.c_tree.specs.declared.expression.Extreme.{Extreme}
use Rattle.c_tree.specs.Access.{Access}

pub data Term : Type 0 where
  Constant : ℤ → Term
  -- a variable or a parameter, at the start of its object
  Variable : ℕ → Access → Term
  -- an array or a string, whose value points to its start
  Array : ℕ → Access → Term
  Routine : ℕ → Term
  -- a name that is not declared
  Unknown : Term
  Prefixed : UnaryOp → Term → Term
  Cast : CastType → Term → Term
  Between : BinaryOp → Term → Term → Term
  Choice : Term → Term → Term → Term
  Element : Term → Term → Term
  Field : Term → List ℕ → Term
  Size : Term
  Most : Extreme → Term → Term → Term
  Magnitude : Term → Term
