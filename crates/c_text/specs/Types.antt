-- The words of the types of a C text, and the values of its images and constants (C89, 3.5.2).
use Rattle.std.specs.Prelude.{ℕ, ℤ, negsuc, List, [], ◌∷◌, ◌++◌, codes, if◌then◌else◌}
use Rattle.std.specs.Ordering.{int_eq}
use Rattle.std.specs.Fmt.{signed_decimal}
use Rattle.c_tree.specs.declared.types.NumberType.{NumberType}
use Rattle.c_tree.specs.declared.types.NumberType.TheVariants as number
use Rattle.c_tree.specs.declared.types.ResultType.{ResultType}
use Rattle.c_tree.specs.declared.types.ResultType.TheVariants as gives
use Rattle.c_tree.specs.declared.types.FunctionType.{FunctionType}
use Rattle.c_tree.specs.declared.types.FunctionType.TheVariants as function
use Rattle.c_tree.specs.declared.types.ListType.{ListType}
use Rattle.c_tree.specs.declared.types.ListType.TheVariants as block
use Rattle.c_tree.specs.declared.types.ParameterType.{ParameterType}
use Rattle.c_tree.specs.declared.types.ParameterType.TheVariants as parameter
use Rattle.c_tree.specs.declared.types.ArgumentType.{ArgumentType}
use Rattle.c_tree.specs.declared.types.ArgumentType.TheVariants as argument
use Rattle.c_tree.specs.declared.types.CastType.{CastType}
use Rattle.c_tree.specs.declared.types.CastType.TheVariants as cast

abbrev pub number_word : NumberType → List ℕ
number_word number.Integer = codes "integer"
number_word number.Logical = codes "logical"

abbrev pub result_word : ResultType → List ℕ
result_word gives.Int = codes "int"
result_word gives.Integer = codes "integer"
result_word gives.Logical = codes "logical"
result_word gives.Void = codes "VOID"

abbrev pub function_word : FunctionType → List ℕ
function_word function.Subroutine = codes "S_fp"
function_word function.Integer = codes "I_fp"
function_word function.Logical = codes "L_fp"
function_word function.Unknown = codes "U_fp"

abbrev pub block_word : ListType → List ℕ
block_word block.Transfer = codes "cilist"
block_word block.Internal = codes "icilist"
block_word block.Open = codes "olist"
block_word block.Close = codes "cllist"
block_word block.Position = codes "alist"

-- a parameter's type, with what stands before its name
abbrev pub parameter_front : ParameterType → List ℕ
parameter_front parameter.Integers = codes "integer *"
parameter_front parameter.Logicals = codes "logical *"
parameter_front parameter.Chars = codes "char *"
parameter_front parameter.Length = codes "ftnlen "
parameter_front parameter.Int = codes "int "
parameter_front (parameter.Function of) = function_word of ++ 32 ∷ []

-- a parameter's type where no name follows
abbrev pub parameter_word : ParameterType → List ℕ
parameter_word parameter.Integers = codes "integer *"
parameter_word parameter.Logicals = codes "logical *"
parameter_word parameter.Chars = codes "char *"
parameter_word parameter.Length = codes "ftnlen"
parameter_word parameter.Int = codes "int"
parameter_word (parameter.Function of) = function_word of

abbrev pub argument_word : ArgumentType → List ℕ
argument_word (argument.Parameter of) = parameter_word of
argument_word (argument.List of) = block_word of ++ codes " *"
argument_word argument.Addresses = codes "address *"

abbrev pub cast_word : CastType → List ℕ
cast_word cast.Chars = codes "char *"
cast_word cast.UnsignedChars = codes "unsigned char *"
cast_word cast.Integers = codes "integer *"
cast_word cast.Logicals = codes "logical *"
cast_word cast.Length = codes "ftnlen"
cast_word cast.Number = codes "ftnint"
cast_word (cast.Function of) = function_word of

-- a value with its sign; the least integer is a difference, since its digits alone are no value
abbrev pub printed_value : ℤ → List ℕ
printed_value value =
    if int_eq value (negsuc 2147483647) then codes "(-2147483647 - 1)" else signed_decimal value
