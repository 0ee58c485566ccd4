-- The bounds of dimensions as pure values, by what a table tells of the names in them. ANSI X3.9-1978, sections 5.1.1, 5.1.2, 5.5.1 and 6.1.
use Rattle.std.specs.List.{list_all}
use Rattle.std.specs.Prelude.{nat_eq, Bool, true, false, not, ◌&&◌, ◌||◌, List, [], ◌∷◌, map, length, Option, Some, None, is_some, option_and_then}
use Rattle.f_tree.specs.declared.expressions.BinaryOp.{BinaryOp}
use Rattle.f_tree.specs.declared.expressions.BinaryOp.TheVariants as op
use Rattle.f_tree.specs.declared.expressions.Expr.{Expr}
use Rattle.f_tree.specs.declared.names.Class.{Class}
use Rattle.f_tree.specs.declared.names.Class.TheVariants as class
use Rattle.f_tree.specs.declared.statements.Dimension.{Dimension as WrittenDimension}
use Rattle.f_tree.specs.declared.statements.UpperBound.{UpperBound}
use Rattle.f_tree.specs.declared.statements.UpperBound.TheVariants as upper
use Rattle.f_tree.specs.Values.{Bytes, IsInt}
use Rattle.f_tree.specs.Terms.{Operator, Add, Subtract, Multiply, Divide, IsLess, IsLessOrEqual, IsEqual, IsNotEqual, IsGreater, IsGreaterOrEqual, Both, Either, Same, Different}
use Rattle.f_tree.specs.Facts.{Dimension}
use Rattle.f_tree.specs.Attributes.{lower_read, upper_read, dimension_read}
use Rattle.lowered_tree.specs.l_core.Pures.{Pure, Constant, Load, Name}
use Rattle.name_facts.specs.declared.fact.ConstantValue.{ConstantValue}
use Rattle.name_facts.specs.declared.fact.ConstantValue.TheVariants as value
use Rattle.name_facts.specs.declared.fact.NameFact.{NameFact}
use Rattle.name_facts.specs.declared.table.NameFacts.{NameFacts}
use Rattle.kept_bounds.specs.KeptBounds.{bound_pure, operated_pure, size_pure, dimension_is_pure}
use Rattle.expression_lowering.specs.TableNames.{attribute_in, reading}

-- the pure value of an expression that is a bound, its names being what the table says
unfoldable pub pure_bound : NameFacts → Expr → Option Pure
pure_bound table e = bound_pure (reading table e).value

unfoldable pub is_pure_bound : NameFacts → Expr → Bool
is_pure_bound table e = is_some (pure_bound table e)

-- ## Names and operators

-- a constant, where it is an integer
unfoldable pub value_pure : ConstantValue → Option Pure
value_pure (value.Integer z) = Some (Constant (IsInt z))
value_pure other = None

unfoldable pub constant_pure : Option ConstantValue → Option Pure
constant_pure None = None
constant_pure (Some known) = value_pure known

-- a name alone, by its class: a constant, or a variable
unfoldable pub name_pure : Bytes → Class → Option ConstantValue → Option Pure
name_pure x class.Constant known = constant_pure known
name_pure x class.Stored known = Some (Load (Name x))
name_pure x class.Dummy known = Some (Load (Name x))
name_pure x class.Result known = Some (Load (Name x))
name_pure x class.Unit known = Some (Load (Name x))
name_pure x other known = None

-- an operator of a pure value: no power, and no concatenation
unfoldable pub operator_in : BinaryOp → Option Operator
operator_in op.Power = None
operator_in op.Times = Some Multiply
operator_in op.Divide = Some Divide
operator_in op.Plus = Some Add
operator_in op.Minus = Some Subtract
operator_in op.Concatenate = None
operator_in op.Less = Some IsLess
operator_in op.LessOrEqual = Some IsLessOrEqual
operator_in op.Equal = Some IsEqual
operator_in op.NotEqual = Some IsNotEqual
operator_in op.Greater = Some IsGreater
operator_in op.GreaterOrEqual = Some IsGreaterOrEqual
operator_in op.And = Some Both
operator_in op.Or = Some Either
operator_in op.Equivalent = Some Same
operator_in op.NotEquivalent = Some Different

unfoldable pub binary_pure : Option Operator → Option Pure → Option Pure → Option Pure
binary_pure None p q = None
binary_pure (Some o) p q = operated_pure o p q

-- ## Dimensions

-- the lower bound of a dimension, which is 1 where none is written (5.1.1.2)
unfoldable pub lower_pure : NameFacts → Option Expr → Option Pure
lower_pure table lower = bound_pure (lower_read (attribute_in table) lower)

-- its upper bound, where it is no asterisk
unfoldable pub upper_pure : NameFacts → UpperBound → Option Pure
upper_pure table last = option_and_then bound_pure (upper_read (attribute_in table) last)

-- it is written
unfoldable pub is_written : UpperBound → Bool
is_written (upper.Value e) = true
is_written upper.Star = false

-- no upper bound is an asterisk but that of the last dimension (5.1.2.2)
unfoldable pub only_last_is_star : List WrittenDimension → Bool
only_last_is_star [] = true
only_last_is_star (d ∷ ds) = (is_written d.upper || nat_eq (length ds) 0) && only_last_is_star ds

-- the size by both bounds
unfoldable pub size_by : Option Pure → Option Pure → Option Pure
size_by (Some lower) (Some upper) = Some (size_pure lower upper)
size_by lower upper = None

-- the dimensions of an array, the names in their bounds being what the table says
unfoldable pub dimensions_told : NameFacts → List WrittenDimension → List Dimension
dimensions_told table ds = map (dimension_read (attribute_in table)) ds

-- the table has fewer constant dimensions of a name than there are
unfoldable pub is_adjustable : NameFact → Bool
is_adjustable fact = not (nat_eq (length fact.bounds) fact.rank)

unfoldable pub has_adjustable_bounds : NameFacts → NameFact → List WrittenDimension → Bool
has_adjustable_bounds table fact ds = is_adjustable fact && (list_all (λ d. dimension_is_pure (dimension_read (attribute_in table) d)) ds && only_last_is_star ds)

unfoldable pub bound_values_opened : Unit {0}
unfolding pure_bound is_pure_bound value_pure constant_pure name_pure operator_in binary_pure lower_pure upper_pure is_written only_last_is_star size_by dimensions_told is_adjustable has_adjustable_bounds
bound_values_opened = tt
