-- Expressions of the trees as the meaning sees them, given what the names of the unit are.
-- ANSI X3.9-1978, sections 6 (expressions), 5.4 and 5.7 (elements and substrings), 15.10 (intrinsic functions).
use Rattle.std.specs.Prelude.{ℕ, pos, List, [], ◌∷◌, ◌++◌, map, codes, bytes_eq, Option, Some, None, if◌then◌else◌}
use Rattle.f_tree.specs.declared.names.Class.TheVariants as class
use Rattle.f_tree.specs.declared.expressions.BinaryOp.{BinaryOp}
use Rattle.f_tree.specs.declared.expressions.BinaryOp.TheVariants as op
use Rattle.f_tree.specs.declared.expressions.Expr.{Expr}
use Rattle.f_tree.specs.declared.expressions.Expr.TheOpen as expr
use Rattle.f_tree.specs.Folds.{fold_expr}
use Rattle.f_tree.specs.Values.{Bytes, Datum, IsInt, IsLog, IsText, IsLabel, Nothing}
use Rattle.f_tree.specs.Terms.{Negate, Complement, Add, Subtract, Multiply, Divide, IsLess, IsLessOrEqual, IsEqual, IsNotEqual, IsGreater, IsGreaterOrEqual, Both, Either, Same, Different, Function, Power, Truncation, Magnitude, Remainder, SignTransfer, PositiveDifference, Largest, Smallest, CharacterCode, CharacterOfCode, TextLength, IndexOf, LexicallyGreaterOrEqual, LexicallyGreater, LexicallyLessOrEqual, LexicallyLess, InclusiveOr, LogicalProduct, ExclusiveOr, BitComplement, BitShift, BitTest, BitSet, BitClear, AsFunction, Term, Val, Fetch, At, Element, Part, Joined, Before, Between, Intrinsically, Refer, Bind, Bound, NoMore, More, terms}
use Rattle.f_tree.specs.Facts.{Attribute}

-- An expression by what it is worth, by what it is as an actual argument (a place, a procedure or a label where
-- it is one, else its value), and by the pieces of text that it joins.
pub record Read : Type 0 where
  pub value : Term
  pub actual : Term
  pub pieces : List Term
  -- its name, where it is a name alone
  pub named : Option Bytes
  -- the variable or array that it is, or is a part of
  pub base : Option Bytes

unfoldable pub valued_only : Term → Read
valued_only t = record { value = t; actual = t; pieces = t ∷ []; named = None; base = None }

-- a place that may be read
unfoldable pub placed : Term → Read
placed t = record { value = Fetch t; actual = t; pieces = t ∷ []; named = None; base = None }

-- the intrinsic functions by their names
pub record Intrinsic : Type 0 where
  pub name : Bytes
  pub function : Function

unfoldable pub intrinsics : List Intrinsic
intrinsics =
    record { name = codes "int"; function = Truncation } ∷
    record { name = codes "abs"; function = Magnitude } ∷
    record { name = codes "iabs"; function = Magnitude } ∷
    record { name = codes "mod"; function = Remainder } ∷
    record { name = codes "sign"; function = SignTransfer } ∷
    record { name = codes "isign"; function = SignTransfer } ∷
    record { name = codes "dim"; function = PositiveDifference } ∷
    record { name = codes "idim"; function = PositiveDifference } ∷
    record { name = codes "max"; function = Largest } ∷
    record { name = codes "max0"; function = Largest } ∷
    record { name = codes "min"; function = Smallest } ∷
    record { name = codes "min0"; function = Smallest } ∷
    record { name = codes "ichar"; function = CharacterCode } ∷
    record { name = codes "char"; function = CharacterOfCode } ∷
    record { name = codes "len"; function = TextLength } ∷
    record { name = codes "index"; function = IndexOf } ∷
    record { name = codes "lge"; function = LexicallyGreaterOrEqual } ∷
    record { name = codes "lgt"; function = LexicallyGreater } ∷
    record { name = codes "lle"; function = LexicallyLessOrEqual } ∷
    record { name = codes "llt"; function = LexicallyLess } ∷
    record { name = codes "ior"; function = InclusiveOr } ∷
    record { name = codes "iand"; function = LogicalProduct } ∷
    record { name = codes "not"; function = BitComplement } ∷
    record { name = codes "ieor"; function = ExclusiveOr } ∷
    record { name = codes "ishft"; function = BitShift } ∷
    record { name = codes "btest"; function = BitTest } ∷
    record { name = codes "ibset"; function = BitSet } ∷
    record { name = codes "ibclr"; function = BitClear } ∷ []

unfoldable pub function_in : List Intrinsic → Bytes → Option Function
function_in [] x = None
function_in (i ∷ is) x = if bytes_eq i.name x then Some i.function else function_in is x

unfoldable pub function_named : Bytes → Option Function
function_named x = function_in intrinsics x

-- a name alone: a constant is its value, an array or a procedure is itself, a variable is a place
unfoldable pub name_read : Bytes → Attribute → Read
name_read x a = elim a.class [
  | class.Constant ↦ (elim a.constant [ Some d ↦ record (valued_only (Val d)) { named = Some x } | None ↦ record (valued_only (At x)) { named = Some x } ])
  | class.Procedure ↦ record (valued_only (At x)) { named = Some x }
  | class.DummyProcedure ↦ record (valued_only (At x)) { named = Some x }
  | class.Intrinsic ↦ record (valued_only (At x)) { named = Some x }
  | class.StatementFunction ↦ (elim a.expansion [ Some t ↦ valued_only t | None ↦ valued_only (At x) ])
  | _ ↦ record (placed (At x)) { named = Some x; base = Some x }
]

-- LEN asks the pieces of its one argument, and reads nothing (15.10); another number of arguments gives it none
unfoldable pub pieces_asked : List Read → List Term
pieces_asked (r ∷ []) = r.pieces
pieces_asked _ = []

unfoldable pub operands_of : Function → List Read → List Term
operands_of TextLength rs = pieces_asked rs
operands_of _ rs = map (λ r. r.value) rs

unfoldable pub width_or_zero : Option ℕ → ℕ
width_or_zero None = 0
width_or_zero (Some n) = n

unfoldable pub function_read : Bytes → Attribute → List Read → Read
function_read x a rs = valued_only (Refer (record { name = x; want = AsFunction a.basic (width_or_zero a.width) }) (terms (map (λ r. r.actual) rs)))

unfoldable pub intrinsic_read : Bytes → Attribute → List Read → Option Function → Read
intrinsic_read x a rs None = function_read x a rs
intrinsic_read x a rs (Some f) = valued_only (Intrinsically f (terms (operands_of f rs)))

unfoldable pub expanded_read : Bytes → Attribute → List Read → Option Term → Read
expanded_read x a rs None = function_read x a rs
expanded_read x a rs (Some t) = valued_only (Bind (terms (map (λ r. r.value) rs)) t)

-- a name with a list: an intrinsic function, a function, a statement function, or an element
unfoldable pub applied_read : Bytes → Attribute → List Read → Read
applied_read x a rs = elim a.class [
  | class.Intrinsic ↦ intrinsic_read x a rs (function_named x)
  | class.StatementFunction ↦ expanded_read x a rs a.expansion
  | class.Procedure ↦ function_read x a rs
  | class.DummyProcedure ↦ function_read x a rs
  | class.Result ↦ function_read x a rs
  | _ ↦ record (placed (Element x (terms (map (λ r. r.value) rs)))) { base = Some x }
]

unfoldable pub end_read : Option Read → Datum → Term
end_read None d = Val d
end_read (Some r) d = r.value

unfoldable pub name_or_none : Option Bytes → Bytes
name_or_none None = []
name_or_none (Some x) = x

unfoldable pub joined_read : List Term → Read
joined_read ts = record { value = Joined (terms ts); actual = Joined (terms ts); pieces = ts; named = None; base = None }

unfoldable pub binary_read : BinaryOp → Read → Read → Read
binary_read op.Power a b = valued_only (Intrinsically Power (More a.value (More b.value NoMore)))
binary_read op.Times a b = valued_only (Between Multiply a.value b.value)
binary_read op.Divide a b = valued_only (Between Divide a.value b.value)
binary_read op.Plus a b = valued_only (Between Add a.value b.value)
binary_read op.Minus a b = valued_only (Between Subtract a.value b.value)
binary_read op.Concatenate a b = joined_read (a.pieces ++ b.pieces)
binary_read op.Less a b = valued_only (Between IsLess a.value b.value)
binary_read op.LessOrEqual a b = valued_only (Between IsLessOrEqual a.value b.value)
binary_read op.Equal a b = valued_only (Between IsEqual a.value b.value)
binary_read op.NotEqual a b = valued_only (Between IsNotEqual a.value b.value)
binary_read op.Greater a b = valued_only (Between IsGreater a.value b.value)
binary_read op.GreaterOrEqual a b = valued_only (Between IsGreaterOrEqual a.value b.value)
binary_read op.And a b = valued_only (Between Both a.value b.value)
binary_read op.Or a b = valued_only (Between Either a.value b.value)
binary_read op.Equivalent a b = valued_only (Between Same a.value b.value)
binary_read op.NotEquivalent a b = valued_only (Between Different a.value b.value)

-- one layer of an expression, its parts being read
unfoldable pub layer_read : (Bytes → Attribute) → expr.Expr-F Read → Read
layer_read names (expr.Int z) = valued_only (Val (IsInt z))
layer_read names (expr.Logical b) = valued_only (Val (IsLog b))
layer_read names (expr.Text cs) = valued_only (Val (IsText cs))
layer_read names (expr.Name x) = name_read x (names x)
layer_read names (expr.Apply x rs) = applied_read x (names x) rs
layer_read names (expr.Part r from to) = record (placed (Part (name_or_none r.base) r.actual (end_read from (IsInt (pos 1))) (end_read to Nothing))) { base = r.base }
layer_read names (expr.Minus r) = valued_only (Before Negate r.value)
layer_read names (expr.Plus r) = valued_only r.value
layer_read names (expr.Not r) = valued_only (Before Complement r.value)
layer_read names (expr.Paren r) = record (valued_only r.value) { pieces = r.pieces }
layer_read names (expr.Binary op a b) = binary_read op a b
layer_read names (expr.AltReturn label) = valued_only (Val (IsLabel label))
layer_read names (expr.Bind rs r) = valued_only (Bind (terms (map (λ r. r.value) rs)) r.value)
layer_read names (expr.Bound k) = valued_only (Bound k)

unfoldable pub read : (Bytes → Attribute) → Expr → Read
read names e = fold_expr (layer_read names) e

unfoldable pub reading_opened : Unit {0}
unfolding valued_only placed intrinsics function_in function_named name_read pieces_asked operands_of width_or_zero function_read intrinsic_read expanded_read applied_read end_read name_or_none joined_read binary_read layer_read read
reading_opened = tt
