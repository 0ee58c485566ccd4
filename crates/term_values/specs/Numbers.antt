-- Operators that take numbers alone (C89, 3.3.5 to 3.3.8), and results of 32 bits.
use Rattle.std.specs.Prelude.{ℤ, ◌*ℤ◌, int_lt, int_le, Option, Some, None, Ok}
use Rattle.c_tree.specs.declared.outcome.CValue.TheVariants.{Number}
use Rattle.c_tree.specs.declared.outcome.CFault.TheVariants.{Overflow, Kind}
use Rattle.c_tree.specs.declared.expression.BinaryOp.{BinaryOp}
use Rattle.c_tree.specs.declared.expression.BinaryOp.TheVariants as op
use Rattle.c_tree.specs.Faults.{Or, failing}
use Rattle.c_tree.specs.Objects.{Typed, plain}
use Rattle.c_tree.specs.Values.{checked, quotient, remainder, truth}

abbrev pub or_overflow : Option ℤ → Or Typed
or_overflow (Some number) = Ok (plain (Number number))
or_overflow None = failing Overflow

abbrev pub of_numbers : BinaryOp → ℤ → ℤ → Or Typed
of_numbers op.Multiply left right = checked (left *ℤ right)
of_numbers op.Divide left right = quotient left right
of_numbers op.Remainder left right = remainder left right
of_numbers op.Less left right = Ok (truth (int_lt left right))
of_numbers op.LessOrEqual left right = Ok (truth (int_le left right))
of_numbers op.Greater left right = Ok (truth (int_lt right left))
of_numbers op.GreaterOrEqual left right = Ok (truth (int_le right left))
of_numbers other left right = failing Kind
