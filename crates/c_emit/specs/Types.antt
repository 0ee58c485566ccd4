-- The type of a lowered value, where it is an integer or a logical. ANSI X3.9-1978, sections 4, 6.1, 6.3, 6.4 and 15.10.
use Rattle.std.specs.Prelude.{ℕ, Option, Some, None}
use Rattle.l_core.specs.f_tree.declared.names.Basic.{Basic}
use Rattle.l_core.specs.f_tree.declared.names.Basic.TheVariants.{Integer, Logical}
use Rattle.l_core.specs.f_tree.Values.{Datum, IsInt, IsLog}
use Rattle.l_core.specs.f_tree.Terms.{Prefix, Negate, Complement, Operator, Add, Subtract, Multiply, Divide}
use Rattle.l_core.specs.f_tree.Terms as fortran
use Rattle.l_core.specs.Pures.{Pure, Constant, Temporary, Load, Name, ElementOf, Prefixed, Operated, Applied}
use Rattle.c_emit.specs.Numbers.{Writing}

-- a datum of a type
abbrev pub HasType : Basic → Datum → Type 0
HasType Integer (IsInt z) = Unit {0}
HasType Logical (IsLog b) = Unit {0}
HasType basic d = ⊥

unfoldable pub type_of_datum : Datum → Option Basic
type_of_datum (IsInt z) = Some Integer
type_of_datum (IsLog b) = Some Logical
type_of_datum d = None

unfoldable pub type_behind : Prefix → Basic
type_behind Negate = Integer
type_behind Complement = Logical

unfoldable pub type_between : Operator → Basic
type_between Add = Integer
type_between Subtract = Integer
type_between Multiply = Integer
type_between Divide = Integer
type_between op = Logical

-- of the functions that are no calls of the library
unfoldable pub type_by : fortran.Function → Option Basic
type_by fortran.Truncation = Some Integer
type_by fortran.Magnitude = Some Integer
type_by fortran.Remainder = Some Integer
type_by fortran.Largest = Some Integer
type_by fortran.Smallest = Some Integer
type_by f = None

unfoldable pub if_numeric : Basic → Option Basic
if_numeric Integer = Some Integer
if_numeric Logical = Some Logical
if_numeric basic = None

unfoldable pub type_at : Writing → Pure → Option Basic
type_at w (Name x) = if_numeric (w.facts.program.attribute x).basic
type_at w (ElementOf x ps) = if_numeric (w.facts.program.attribute x).basic
type_at w p = None

-- the type of a value before a step
unfoldable pub type_of : Writing → ℕ → Pure → Option Basic
type_of w n (Constant d) = type_of_datum d
type_of w n (Temporary k) = w.kind n k
type_of w n (Load p) = type_at w p
type_of w n (Prefixed op p) = Some (type_behind op)
type_of w n (Operated op p q) = Some (type_between op)
type_of w n (Applied f ps) = type_by f
type_of w n p = None

unfoldable pub types_opened : Unit {0}
unfolding type_of_datum type_behind type_between type_by if_numeric type_at type_of
types_opened = tt
