-- The intrinsic functions by their names, as the code has them.
use Rattle.std.specs.Prelude.{Bool, true, false, List, [], ◌∷◌, bytes_eq, Option, Some, None, if◌then◌else◌}
use Rattle.f_tree.specs.Values.{Bytes}
use Rattle.f_tree.specs.Terms as term
use Rattle.f_tree.specs.Terms.{Function}
use Rattle.constant_values.specs.declared.functions.IntrinsicFunction.{IntrinsicFunction}
use Rattle.constant_values.specs.declared.functions.IntrinsicFunction.TheVariants as is
use Rattle.constant_values.specs.declared.functions.NamedFunction.{NamedFunction}

unfoldable pub function_of : IntrinsicFunction → Function
function_of is.Truncation = term.Truncation
function_of is.Magnitude = term.Magnitude
function_of is.Remainder = term.Remainder
function_of is.SignTransfer = term.SignTransfer
function_of is.PositiveDifference = term.PositiveDifference
function_of is.Largest = term.Largest
function_of is.Smallest = term.Smallest
function_of is.CharacterCode = term.CharacterCode
function_of is.CharacterOfCode = term.CharacterOfCode
function_of is.TextLength = term.TextLength
function_of is.IndexOf = term.IndexOf
function_of is.LexicallyGreaterOrEqual = term.LexicallyGreaterOrEqual
function_of is.LexicallyGreater = term.LexicallyGreater
function_of is.LexicallyLessOrEqual = term.LexicallyLessOrEqual
function_of is.LexicallyLess = term.LexicallyLess
function_of is.InclusiveOr = term.InclusiveOr
function_of is.LogicalProduct = term.LogicalProduct
function_of is.ExclusiveOr = term.ExclusiveOr
function_of is.BitComplement = term.BitComplement
function_of is.BitShift = term.BitShift
function_of is.BitTest = term.BitTest
function_of is.BitSet = term.BitSet
function_of is.BitClear = term.BitClear

unfoldable pub is_length : IntrinsicFunction → Bool
is_length is.TextLength = true
is_length _ = false

unfoldable pub named_in : List NamedFunction → Bytes → Option IntrinsicFunction
named_in [] x = None
named_in (i ∷ is) x = if bytes_eq i.name.now x then Some i.function else named_in is x
