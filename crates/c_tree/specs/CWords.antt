-- The words and signs in which the forms of a C tree are written (C89, 3.1.1, 3.3 and 3.5), and the tokens of its types.
use Rattle.std.specs.Prelude.{◌≡◌, ℕ, Bool, not, ◌&&◌, List, [], ◌∷◌, ◌++◌, codes, bytes_eq}
use Rattle.std.specs.List.{list_any, list_all}
use Rattle.c_tree.specs.declared.types.CastType.{CastType}
use Rattle.c_tree.specs.declared.types.CastType.TheVariants as cast
use Rattle.c_tree.specs.declared.types.FunctionType.{FunctionType}
use Rattle.c_tree.specs.declared.types.FunctionType.TheVariants as pointer
use Rattle.c_tree.specs.declared.types.NumberType.{NumberType}
use Rattle.c_tree.specs.declared.types.NumberType.TheVariants as number
use Rattle.c_tree.specs.declared.types.ResultType.{ResultType}
use Rattle.c_tree.specs.declared.types.ResultType.TheVariants as result
use Rattle.c_tree.specs.declared.types.ListType.{ListType}
use Rattle.c_tree.specs.declared.types.ListType.TheVariants as list
use Rattle.c_tree.specs.declared.types.ParameterType.{ParameterType}
use Rattle.c_tree.specs.declared.types.ParameterType.TheVariants as parameter
use Rattle.c_tree.specs.declared.types.ArgumentType.{ArgumentType}
use Rattle.c_tree.specs.declared.types.ArgumentType.TheVariants as argument
use Rattle.c_tree.specs.declared.expression.UnaryOp.{UnaryOp}
use Rattle.c_tree.specs.declared.expression.UnaryOp.TheVariants as prefix
use Rattle.c_tree.specs.declared.expression.BinaryOp.{BinaryOp}
use Rattle.c_tree.specs.declared.expression.BinaryOp.TheVariants as op
use Rattle.c_tree.specs.declared.expression.Extreme.{Extreme}
use Rattle.c_tree.specs.declared.expression.Extreme.TheVariants as extreme
use Rattle.c_tree.specs.Tokens.{Token, Word, Sign, begins_with, is_letter, is_word_byte}

-- the words of the grammar and of C89 (3.1.1), which are no names
abbrev pub words : List (List ℕ)
words =
    codes "integer" ∷ codes "logical" ∷ codes "char" ∷ codes "unsigned" ∷ codes "int" ∷ codes "VOID" ∷ codes "void" ∷ codes "static"
    ∷ codes "extern" ∷ codes "ftnlen" ∷ codes "ftnint" ∷ codes "address" ∷ codes "S_fp" ∷ codes "I_fp" ∷ codes "L_fp" ∷ codes "U_fp"
    ∷ codes "cilist" ∷ codes "icilist" ∷ codes "olist" ∷ codes "cllist" ∷ codes "alist" ∷ codes "goto" ∷ codes "return" ∷ codes "if"
    ∷ codes "else" ∷ codes "switch" ∷ codes "case" ∷ codes "for" ∷ codes "do" ∷ codes "while" ∷ codes "sizeof" ∷ codes "max"
    ∷ codes "min" ∷ codes "abs" ∷ codes "TRUE_" ∷ codes "FALSE_" ∷ codes "auto" ∷ codes "break" ∷ codes "const" ∷ codes "continue"
    ∷ codes "default" ∷ codes "double" ∷ codes "enum" ∷ codes "float" ∷ codes "long" ∷ codes "register" ∷ codes "short" ∷ codes "signed"
    ∷ codes "struct" ∷ codes "typedef" ∷ codes "union" ∷ codes "volatile" ∷ []

abbrev pub is_among : List ℕ → List (List ℕ) → Bool
is_among name names = list_any (bytes_eq name) names

-- a name: a letter or an underscore with letters, digits and underscores behind it, and no such word
abbrev pub is_name : List ℕ → Bool
is_name text = begins_with is_letter text && (list_all is_word_byte text && not (is_among text words))

-- this token stands here: the tokens from it on, and those behind it
abbrev pub Next : Token → List Token → List Token → Type 0
Next token here behind = here ≡ token ∷ behind

abbrev pub AWord : List ℕ → List Token → List Token → Type 0
AWord text here behind = Next (Word text) here behind

abbrev pub ASign : List ℕ → List Token → List Token → Type 0
ASign text here behind = Next (Sign text) here behind

-- these tokens stand here
abbrev pub Stand : List Token → List Token → List Token → Type 0
Stand tokens here behind = here ≡ tokens ++ behind

abbrev pub prefix_sign : UnaryOp → List ℕ
prefix_sign prefix.Minus = codes "-"
prefix_sign prefix.Not = codes "!"
prefix_sign prefix.Deref = codes "*"
prefix_sign prefix.Address = codes "&"

abbrev pub infix_sign : BinaryOp → List ℕ
infix_sign op.Or = codes "||"
infix_sign op.And = codes "&&"
infix_sign op.Equal = codes "=="
infix_sign op.Unequal = codes "!="
infix_sign op.Less = codes "<"
infix_sign op.LessOrEqual = codes "<="
infix_sign op.Greater = codes ">"
infix_sign op.GreaterOrEqual = codes ">="
infix_sign op.Add = codes "+"
infix_sign op.Subtract = codes "-"
infix_sign op.Multiply = codes "*"
infix_sign op.Divide = codes "/"
infix_sign op.Remainder = codes "%"

-- levels of the grammar of expressions: 0 a choice, 1 to 6 operators between operands, 7 signs and casts, 8 what
-- stands behind an operand, 9 what stands alone
abbrev pub infix_level : BinaryOp → ℕ
infix_level op.Or = 1
infix_level op.And = 2
infix_level op.Equal = 3
infix_level op.Unequal = 3
infix_level op.Less = 4
infix_level op.LessOrEqual = 4
infix_level op.Greater = 4
infix_level op.GreaterOrEqual = 4
infix_level op.Add = 5
infix_level op.Subtract = 5
infix_level op.Multiply = 6
infix_level op.Divide = 6
infix_level op.Remainder = 6

abbrev pub function_word : FunctionType → List ℕ
function_word pointer.Subroutine = codes "S_fp"
function_word pointer.Integer = codes "I_fp"
function_word pointer.Logical = codes "L_fp"
function_word pointer.Unknown = codes "U_fp"

abbrev pub pointer_to : List ℕ → List Token
pointer_to type = Word type ∷ Sign (codes "*") ∷ []

-- what stands between the parentheses of a cast
abbrev pub cast_tokens : CastType → List Token
cast_tokens cast.Chars = pointer_to (codes "char")
cast_tokens cast.UnsignedChars = Word (codes "unsigned") ∷ pointer_to (codes "char")
cast_tokens cast.Integers = pointer_to (codes "integer")
cast_tokens cast.Logicals = pointer_to (codes "logical")
cast_tokens cast.Length = Word (codes "ftnlen") ∷ []
cast_tokens cast.Number = Word (codes "ftnint") ∷ []
cast_tokens (cast.Function of) = Word (function_word of) ∷ []

abbrev pub extreme_word : Extreme → List ℕ
extreme_word extreme.Max = codes "max"
extreme_word extreme.Min = codes "min"

abbrev pub result_word : ResultType → List ℕ
result_word result.Int = codes "int"
result_word result.Integer = codes "integer"
result_word result.Logical = codes "logical"
result_word result.Void = codes "VOID"

abbrev pub number_word : NumberType → List ℕ
number_word number.Integer = codes "integer"
number_word number.Logical = codes "logical"

abbrev pub list_word : ListType → List ℕ
list_word list.Transfer = codes "cilist"
list_word list.Internal = codes "icilist"
list_word list.Open = codes "olist"
list_word list.Close = codes "cllist"
list_word list.Position = codes "alist"

-- the type of a parameter
abbrev pub parameter_tokens : ParameterType → List Token
parameter_tokens parameter.Integers = pointer_to (codes "integer")
parameter_tokens parameter.Logicals = pointer_to (codes "logical")
parameter_tokens parameter.Chars = pointer_to (codes "char")
parameter_tokens parameter.Length = Word (codes "ftnlen") ∷ []
parameter_tokens parameter.Int = Word (codes "int") ∷ []
parameter_tokens (parameter.Function of) = Word (function_word of) ∷ []

-- the type of an argument of a declared function
abbrev pub argument_tokens : ArgumentType → List Token
argument_tokens (argument.Parameter of) = parameter_tokens of
argument_tokens (argument.List of) = pointer_to (list_word of)
argument_tokens argument.Addresses = pointer_to (codes "address")

-- items with a comma between each two, up to what closes them
pub data Separated {T : Type 0} (Item : T → List Token → List Token → Type 0) (closing : List ℕ) : List T → List Token → List Token → Type 0 where
  last_item : {one : T} {p q r : List Token} → Item one p q → ASign closing q r → Separated Item closing (one ∷ []) p r
  one_item : {one : T} {later : List T} {p q r s : List Token}
      → Item one p q → ASign (codes ",") q r → Separated Item closing later r s → Separated Item closing (one ∷ later) p s
