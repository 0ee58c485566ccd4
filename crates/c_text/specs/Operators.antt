-- Operators of C expressions: their signs, and how closely they bind (C89, 3.3). An operand that
-- binds less closely than its place asks stands in parentheses.
use Rattle.std.specs.Prelude.{ℕ, List, codes}
use Rattle.c_tree.specs.declared.expression.BinaryOp.{BinaryOp}
use Rattle.c_tree.specs.declared.expression.BinaryOp.TheVariants.{Or, And, Equal, Unequal, Less, LessOrEqual, Greater, GreaterOrEqual, Add, Subtract, Multiply, Divide, Remainder}
use Rattle.c_tree.specs.declared.expression.UnaryOp.{UnaryOp}
use Rattle.c_tree.specs.declared.expression.UnaryOp.TheVariants.{Minus, Not, Deref, Address}
use Rattle.c_tree.specs.declared.expression.Extreme.{Extreme}
use Rattle.c_tree.specs.declared.expression.Extreme.TheVariants.{Max, Min}
use Rattle.c_text.specs.declared.level.Level.{Level}
use Rattle.c_text.specs.declared.level.Level.TheVariants as level

-- the number of a level: the greater, the closer it binds
abbrev pub rank : Level → ℕ
rank level.Choice = 0
rank level.Disjunction = 1
rank level.Conjunction = 2
rank level.Equality = 3
rank level.Relation = 4
rank level.Sum = 5
rank level.Term = 6
rank level.Unary = 7
rank level.Postfix = 8
rank level.Primary = 9

unfoldable pub op_word : BinaryOp → List ℕ
op_word Or = codes " || "
op_word And = codes " && "
op_word Equal = codes " == "
op_word Unequal = codes " != "
op_word Less = codes " < "
op_word LessOrEqual = codes " <= "
op_word Greater = codes " > "
op_word GreaterOrEqual = codes " >= "
op_word Add = codes " + "
op_word Subtract = codes " - "
op_word Multiply = codes " * "
op_word Divide = codes " / "
op_word Remainder = codes " % "

-- the level of an operator between operands, which its left operand may have too
unfoldable pub op_level : BinaryOp → Level
op_level Or = level.Disjunction
op_level And = level.Conjunction
op_level Equal = level.Equality
op_level Unequal = level.Equality
op_level Less = level.Relation
op_level LessOrEqual = level.Relation
op_level Greater = level.Relation
op_level GreaterOrEqual = level.Relation
op_level Add = level.Sum
op_level Subtract = level.Sum
op_level Multiply = level.Term
op_level Divide = level.Term
op_level Remainder = level.Term

-- the next closer level, which the right operand of such an operator has at least
unfoldable pub right_level : BinaryOp → Level
right_level Or = level.Conjunction
right_level And = level.Equality
right_level Equal = level.Relation
right_level Unequal = level.Relation
right_level Less = level.Sum
right_level LessOrEqual = level.Sum
right_level Greater = level.Sum
right_level GreaterOrEqual = level.Sum
right_level Add = level.Term
right_level Subtract = level.Term
right_level Multiply = level.Unary
right_level Divide = level.Unary
right_level Remainder = level.Unary

abbrev pub prefix_word : UnaryOp → List ℕ
prefix_word Minus = codes "-"
prefix_word Not = codes "!"
prefix_word Deref = codes "*"
prefix_word Address = codes "&"

abbrev pub extreme_word : Extreme → List ℕ
extreme_word Max = codes "max("
extreme_word Min = codes "min("
