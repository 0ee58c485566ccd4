-- What an expression is, and which rows of the table of refusals it breaks, judged from its tree and from what the names
-- of the unit are. What it is never depends on what its operands are, so one operand out of place tells nothing of another.
-- ANSI X3.9-1978, sections 5.4 and 5.7 (elements and substrings), 6 (expressions), 15.4 (statement functions), 15.5 (functions) and 15.10.
use Rattle.std.specs.Prelude.{ℕ, suc, nat_eq, Bool, true, false, List, [], ◌∷◌, ◌++◌, length, replicate, Option, Some, None}
use Rattle.fortran_text.specs.f_tree.declared.names.Basic.{Basic}
use Rattle.fortran_text.specs.f_tree.declared.names.Basic.TheVariants.{Integer, Logical, Character, Untyped}
use Rattle.fortran_text.specs.f_tree.declared.names.Class.TheVariants as class
use Rattle.fortran_text.specs.f_tree.declared.refusals.Kind.{Kind}
use Rattle.fortran_text.specs.f_tree.declared.refusals.Kind.TheVariants.{SyntaxError, ConflictingAttributes, OperandTypes, NumberOfSubscripts, BadStatementFunction}
use Rattle.fortran_text.specs.f_tree.declared.expressions.BinaryOp.{BinaryOp}
use Rattle.fortran_text.specs.f_tree.declared.expressions.BinaryOp.TheVariants as op
use Rattle.fortran_text.specs.f_tree.declared.expressions.Expr.{Expr}
use Rattle.fortran_text.specs.f_tree.declared.expressions.Expr.TheOpen as expr
use Rattle.fortran_text.specs.f_tree.Folds.{fold_expr}
use Rattle.fortran_text.specs.f_tree.Values.{Bytes}
use Rattle.fortran_text.specs.f_tree.Terms.{Function, Power, Truncation, Magnitude, Remainder, SignTransfer, PositiveDifference, Largest, Smallest, CharacterCode, CharacterOfCode, TextLength, IndexOf, LexicallyGreaterOrEqual, LexicallyGreater, LexicallyLessOrEqual, LexicallyLess, Front, Fitted, InclusiveOr, LogicalProduct, ExclusiveOr, BitComplement, BitShift, BitTest, BitSet, BitClear}
use Rattle.fortran_text.specs.f_tree.Facts.{Dimension, Attribute}
use Rattle.fortran_text.specs.f_tree.Association.{same_basic}
use Rattle.fortran_text.specs.f_tree.Reading.{function_named}
use Rattle.fortran_text.specs.f_tree.WellTyped.{has_size}

-- what an expression is, whatever its operands are
pub data What : Type 0 where
  AValue : What
  -- a variable, an element or a substring
  APlace : What
  -- a whole array, and whether its size is known (5.1.2)
  AnArray : Bool → What
  -- an external procedure or a dummy procedure by its name alone
  AProcedureName : What
  -- a statement function or an intrinsic function by its name alone
  AFunctionName : What
  -- where an alternate return goes (15.9.3.5)
  AnExit : ℕ → What
  -- no operand at all: a row that it breaks says why
  NoOperand : What

-- an expression with its type and with the rows that it and its parts break
pub record Judged : Type 0 where
  pub what : What
  pub basic : Basic
  pub faults : List Kind

-- what is known of the names where an expression stands
pub record Known : Type 0 where
  pub attribute : Bytes → Attribute
  -- the types of the dummy arguments of a statement function that is defined already (15.4)
  pub dummies : Bytes → Option (List Basic)
  -- is it a dummy argument of the statement function that is being defined
  pub is_bound : Bytes → Bool

unfoldable pub a_value : Basic → List Kind → Judged
a_value basic faults = record { what = AValue; basic = basic; faults = faults }

unfoldable pub a_place : Basic → List Kind → Judged
a_place basic faults = record { what = APlace; basic = basic; faults = faults }

unfoldable pub no_operand : Kind → List Kind → Judged
no_operand kind faults = record { what = NoOperand; basic = Untyped; faults = kind ∷ faults }

-- PLACES IN AN EXPRESSION. One value is wanted: a whole array has more (F32), a procedure, a function or a label has none (F31)
unfoldable pub wants_one : What → List Kind
wants_one AValue = []
wants_one APlace = []
wants_one (AnArray sized) = NumberOfSubscripts ∷ []
wants_one _ = OperandTypes ∷ []

unfoldable pub unless : Bool → Kind → List Kind
unless true kind = []
unless false kind = kind ∷ []

-- one value of a type is wanted
unfoldable pub wants : Basic → Judged → List Kind
wants basic j = wants_one j.what ++ unless (same_basic j.basic basic) OperandTypes

-- two texts or two integers are wanted (6.3)
unfoldable pub are_comparable : Basic → Basic → Bool
are_comparable Integer Integer = true
are_comparable Character Character = true
are_comparable _ _ = false

-- an actual argument of a function: neither a label, nor a function that is no external procedure (15.9.3)
unfoldable pub passed : What → List Kind
passed AFunctionName = OperandTypes ∷ []
passed (AnExit label) = OperandTypes ∷ []
passed _ = []

unfoldable pub all_faults : List Judged → List Kind
all_faults [] = []
all_faults (j ∷ js) = j.faults ++ all_faults js

unfoldable pub all_passed : List Judged → List Kind
all_passed [] = []
all_passed (j ∷ js) = passed j.what ++ all_passed js

-- each of a list is wanted to be a value of its type; too few or too many are operands out of place
unfoldable pub all_wanted : List Basic → List Judged → List Kind
all_wanted [] [] = []
all_wanted (basic ∷ basics) (j ∷ js) = wants basic j ++ all_wanted basics js
all_wanted _ _ = OperandTypes ∷ []

-- NAMES ALONE. A variable, or an array
unfoldable pub variable_judged : Attribute → List Dimension → Judged
variable_judged a [] = a_place a.basic []
variable_judged a (d ∷ ds) = record { what = AnArray (has_size (d ∷ ds)); basic = a.basic; faults = [] }

unfoldable pub function_name : Attribute → Judged
function_name a = record { what = AFunctionName; basic = a.basic; faults = [] }

-- a dummy argument of the definition around it is a value, the function's name alone is none
unfoldable pub bound_judged : Attribute → Bool → Judged
bound_judged a true = a_value a.basic []
bound_judged a false = function_name a

unfoldable pub name_judged : Known → Bytes → Attribute → Judged
name_judged known x a = elim a.class [
  | class.Constant ↦ a_value a.basic []
  | class.Procedure ↦ record { what = AProcedureName; basic = a.basic; faults = [] }
  | class.DummyProcedure ↦ record { what = AProcedureName; basic = a.basic; faults = [] }
  | class.Intrinsic ↦ function_name a
  | class.StatementFunction ↦ bound_judged a (known.is_bound x)
  | class.Unit ↦ no_operand ConflictingAttributes []
  | _ ↦ variable_judged a a.dimensions
]

-- NAMES WITH A LIST. The types that an intrinsic function wants of so many arguments, and the type that it gives (15.10, MIL-STD-1753)
unfoldable pub wanted_by : Function → ℕ → List Basic
wanted_by Power n = Integer ∷ Integer ∷ []
wanted_by Truncation n = Integer ∷ []
wanted_by Magnitude n = Integer ∷ []
wanted_by Remainder n = Integer ∷ Integer ∷ []
wanted_by SignTransfer n = Integer ∷ Integer ∷ []
wanted_by PositiveDifference n = Integer ∷ Integer ∷ []
wanted_by Largest (suc (suc n)) = Integer ∷ Integer ∷ replicate n Integer
wanted_by Largest n = Integer ∷ Integer ∷ []
wanted_by Smallest (suc (suc n)) = Integer ∷ Integer ∷ replicate n Integer
wanted_by Smallest n = Integer ∷ Integer ∷ []
wanted_by CharacterCode n = Character ∷ []
wanted_by CharacterOfCode n = Integer ∷ []
wanted_by TextLength n = Character ∷ []
wanted_by IndexOf n = Character ∷ Character ∷ []
wanted_by LexicallyGreaterOrEqual n = Character ∷ Character ∷ []
wanted_by LexicallyGreater n = Character ∷ Character ∷ []
wanted_by LexicallyLessOrEqual n = Character ∷ Character ∷ []
wanted_by LexicallyLess n = Character ∷ Character ∷ []
wanted_by (Front k) n = Character ∷ []
wanted_by (Fitted k) n = Character ∷ []
wanted_by InclusiveOr n = Integer ∷ Integer ∷ []
wanted_by LogicalProduct n = Integer ∷ Integer ∷ []
wanted_by ExclusiveOr n = Integer ∷ Integer ∷ []
wanted_by BitComplement n = Integer ∷ []
wanted_by BitShift n = Integer ∷ Integer ∷ []
wanted_by BitTest n = Integer ∷ Integer ∷ []
wanted_by BitSet n = Integer ∷ Integer ∷ []
wanted_by BitClear n = Integer ∷ Integer ∷ []

unfoldable pub given_by : Function → Basic
given_by CharacterOfCode = Character
given_by (Front k) = Character
given_by (Fitted k) = Character
given_by LexicallyGreaterOrEqual = Logical
given_by LexicallyGreater = Logical
given_by LexicallyLessOrEqual = Logical
given_by LexicallyLess = Logical
given_by BitTest = Logical
given_by _ = Integer

-- a name that INTRINSIC alone makes one is no function (F22)
unfoldable pub intrinsic_judged : Option Function → List Judged → Judged
intrinsic_judged None js = no_operand ConflictingAttributes (all_faults js)
intrinsic_judged (Some f) js = a_value (given_by f) (all_faults js ++ all_wanted (wanted_by f (length js)) js)

-- a statement function before or in its own definition (F40)
unfoldable pub expanded_judged : Attribute → Option (List Basic) → List Judged → Judged
expanded_judged a None js = no_operand BadStatementFunction (all_faults js)
expanded_judged a (Some basics) js = a_value a.basic (all_faults js ++ all_wanted basics js)

-- a dummy argument of the definition around it is no function (F22)
unfoldable pub defined_judged : Known → Bytes → Attribute → Bool → List Judged → Judged
defined_judged known x a true js = no_operand ConflictingAttributes (all_faults js)
defined_judged known x a false js = expanded_judged a (known.dummies x) js

unfoldable pub reference_judged : Attribute → List Judged → Judged
reference_judged a js = a_value a.basic (all_faults js ++ all_passed js)

-- an element: its subscripts are integers (F31), as many as there are dimensions (F32)
unfoldable pub element_judged : Attribute → List Judged → Judged
element_judged a js =
    a_place a.basic (all_faults js ++ (all_wanted (replicate (length js) Integer) js ++ unless (nat_eq (length js) (length a.dimensions)) NumberOfSubscripts))

unfoldable pub applied_judged : Known → Bytes → Attribute → List Judged → Judged
applied_judged known x a js = elim a.class [
  | class.Constant ↦ no_operand ConflictingAttributes (all_faults js)
  | class.Unit ↦ no_operand ConflictingAttributes (all_faults js)
  | class.Intrinsic ↦ intrinsic_judged (function_named x) js
  | class.StatementFunction ↦ defined_judged known x a (known.is_bound x) js
  | class.Procedure ↦ reference_judged a js
  | class.DummyProcedure ↦ reference_judged a js
  | class.Result ↦ reference_judged a js
  | _ ↦ element_judged a js
]

-- SUBSTRINGS. The base is one variable or element: of a whole array there is none (F32), and of a value there is none (F31)
unfoldable pub wants_place : What → List Kind
wants_place APlace = []
wants_place (AnArray sized) = NumberOfSubscripts ∷ []
wants_place _ = OperandTypes ∷ []

unfoldable pub end_faults : Option Judged → List Kind
end_faults None = []
end_faults (Some j) = j.faults ++ wants Integer j

unfoldable pub part_judged : Judged → Option Judged → Option Judged → Judged
part_judged j from to =
    a_place Character (j.faults ++ (wants_place j.what ++ (unless (same_basic j.basic Character) OperandTypes ++ (end_faults from ++ end_faults to))))

-- OPERATORS
unfoldable pub both_wanted : Basic → Basic → Judged → Judged → Judged
both_wanted basic result a b = a_value result (a.faults ++ (wants basic a ++ (b.faults ++ wants basic b)))

unfoldable pub compared : Judged → Judged → Judged
compared a b =
    a_value Logical (a.faults ++ (wants_one a.what ++ (b.faults ++ (wants_one b.what ++ unless (are_comparable a.basic b.basic) OperandTypes))))

unfoldable pub binary_judged : BinaryOp → Judged → Judged → Judged
binary_judged op.Power a b = both_wanted Integer Integer a b
binary_judged op.Times a b = both_wanted Integer Integer a b
binary_judged op.Divide a b = both_wanted Integer Integer a b
binary_judged op.Plus a b = both_wanted Integer Integer a b
binary_judged op.Minus a b = both_wanted Integer Integer a b
binary_judged op.Concatenate a b = both_wanted Character Character a b
binary_judged op.Less a b = compared a b
binary_judged op.LessOrEqual a b = compared a b
binary_judged op.Equal a b = compared a b
binary_judged op.NotEqual a b = compared a b
binary_judged op.Greater a b = compared a b
binary_judged op.GreaterOrEqual a b = compared a b
binary_judged op.And a b = both_wanted Logical Logical a b
binary_judged op.Or a b = both_wanted Logical Logical a b
binary_judged op.Equivalent a b = both_wanted Logical Logical a b
binary_judged op.NotEquivalent a b = both_wanted Logical Logical a b

-- one layer of an expression, its parts being judged; the last two forms are in no text (F11)
unfoldable pub layer_judged : Known → expr.Expr-F Judged → Judged
layer_judged known (expr.Int z) = a_value Integer []
layer_judged known (expr.Logical b) = a_value Logical []
layer_judged known (expr.Text cs) = a_value Character []
layer_judged known (expr.Name x) = name_judged known x (known.attribute x)
layer_judged known (expr.Apply x js) = applied_judged known x (known.attribute x) js
layer_judged known (expr.Part j from to) = part_judged j from to
layer_judged known (expr.Minus j) = a_value Integer (j.faults ++ wants Integer j)
layer_judged known (expr.Plus j) = a_value Integer (j.faults ++ wants Integer j)
layer_judged known (expr.Not j) = a_value Logical (j.faults ++ wants Logical j)
layer_judged known (expr.Paren j) = a_value j.basic (j.faults ++ wants_one j.what)
layer_judged known (expr.Binary op a b) = binary_judged op a b
layer_judged known (expr.AltReturn label) = record { what = AnExit label; basic = Untyped; faults = [] }
layer_judged known (expr.Bind js j) = no_operand SyntaxError (all_faults js ++ j.faults)
layer_judged known (expr.Bound k) = no_operand SyntaxError []

-- an expression by what it is and by the rows that it breaks
unfoldable pub judge : Known → Expr → Judged
judge known e = fold_expr (layer_judged known) e

unfoldable pub judgement_opened : Unit {0}
unfolding a_value a_place no_operand wants_one unless wants are_comparable passed all_faults all_passed all_wanted variable_judged function_name bound_judged name_judged wanted_by given_by intrinsic_judged expanded_judged defined_judged reference_judged element_judged applied_judged wants_place end_faults part_judged both_wanted compared binary_judged layer_judged judge
judgement_opened = tt
