-- The C expressions for the operators of FORTRAN and for those of its functions that are no calls of the library.
-- ANSI X3.9-1978, sections 6.1, 6.3, 6.4 and 15.10; C89, 3.3.
use Rattle.std.specs.Prelude.{ℕ, suc, ℤ, pos, negsuc, nat_eq, List, [], ◌∷◌, Option, Some, None, if◌then◌else◌}
use Rattle.faithful.specs.f_tree.Terms.{Prefix, Negate, Complement, Operator, Add, Subtract, Multiply, Divide, IsLess, IsLessOrEqual, IsEqual, IsNotEqual, IsGreater, IsGreaterOrEqual, Both, Either, Same, Different}
use Rattle.faithful.specs.f_tree.Terms as fortran
use Rattle.faithful.specs.c_tree.declared.expression.UnaryOp.{UnaryOp}
use Rattle.faithful.specs.c_tree.declared.expression.UnaryOp.TheVariants as prefix
use Rattle.faithful.specs.c_tree.declared.expression.BinaryOp.{BinaryOp}
use Rattle.faithful.specs.c_tree.declared.expression.BinaryOp.TheVariants as op
use Rattle.faithful.specs.c_tree.declared.expression.Extreme.{Extreme}
use Rattle.faithful.specs.c_tree.declared.expression.Extreme.TheVariants as extreme
use Rattle.faithful.specs.c_tree.Builtins.{Builtin, i_indx, l_ge, l_gt, l_le, l_lt, pow_ii, i_sign, i_dim, i_or, i_and, i_eor, i_not, i_shft, b_test, b_set, b_clr}
use Rattle.faithful.specs.c_tree.Terms.{Term, Constant, Prefixed, Between, Most, Magnitude}

-- the least number is written as a difference, since its magnitude has no constant
abbrev pub negative_term : ℕ → Term
negative_term less =
    if nat_eq less 2147483647 then Between op.Subtract (Prefixed prefix.Minus (Constant (pos 2147483647))) (Constant (pos 1))
    else Prefixed prefix.Minus (Constant (pos (suc less)))

-- a number
abbrev pub constant_term : ℤ → Term
constant_term (pos n) = Constant (pos n)
constant_term (negsuc less) = negative_term less

abbrev pub prefix_for : Prefix → UnaryOp
prefix_for Negate = prefix.Minus
prefix_for Complement = prefix.Not

-- the operator between two numbers, or between two logicals, which are 0 and 1
abbrev pub operator_for : Operator → BinaryOp
operator_for Add = op.Add
operator_for Subtract = op.Subtract
operator_for Multiply = op.Multiply
operator_for Divide = op.Divide
operator_for IsLess = op.Less
operator_for IsLessOrEqual = op.LessOrEqual
operator_for IsEqual = op.Equal
operator_for IsNotEqual = op.Unequal
operator_for IsGreater = op.Greater
operator_for IsGreaterOrEqual = op.GreaterOrEqual
operator_for Both = op.And
operator_for Either = op.Or
operator_for Same = op.Equal
operator_for Different = op.Unequal

-- the greatest or the least of some numbers, from the left
abbrev pub extreme_term : Extreme → Term → List Term → Term
extreme_term which best [] = best
extreme_term which best (term ∷ later) = extreme_term which (Most which best term) later

-- a function over numbers; none for one that takes a call of the library, or texts
abbrev pub function_term : fortran.Function → List Term → Option Term
function_term fortran.Truncation (a ∷ []) = Some a
function_term fortran.Magnitude (a ∷ []) = Some (Magnitude a)
function_term fortran.Remainder (a ∷ b ∷ []) = Some (Between op.Remainder a b)
function_term fortran.Largest (a ∷ later) = Some (extreme_term extreme.Max a later)
function_term fortran.Smallest (a ∷ later) = Some (extreme_term extreme.Min a later)
function_term _ _ = None

-- the function of the library for one of FORTRAN over numbers or texts, to whose arguments it is given pointers
abbrev pub library_for : fortran.Function → Option Builtin
library_for fortran.Power = Some pow_ii
library_for fortran.SignTransfer = Some i_sign
library_for fortran.PositiveDifference = Some i_dim
library_for fortran.InclusiveOr = Some i_or
library_for fortran.LogicalProduct = Some i_and
library_for fortran.ExclusiveOr = Some i_eor
library_for fortran.BitShift = Some i_shft
library_for fortran.BitTest = Some b_test
library_for fortran.BitSet = Some b_set
library_for fortran.BitClear = Some b_clr
library_for fortran.BitComplement = Some i_not
library_for fortran.IndexOf = Some i_indx
library_for fortran.LexicallyGreaterOrEqual = Some l_ge
library_for fortran.LexicallyGreater = Some l_gt
library_for fortran.LexicallyLessOrEqual = Some l_le
library_for fortran.LexicallyLess = Some l_lt
library_for _ = None
