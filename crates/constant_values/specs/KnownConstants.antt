-- The constants that a table has, and when they are those of a list of definitions.
use Rattle.std.specs.Prelude.{◌≡◌, ℤ, List, [], ◌∷◌, bytes_eq, Option, Some, None, option_map, if◌then◌else◌}
use Rattle.std.specs.HashMap.{get_by}
use Rattle.f_tree.specs.declared.expressions.Expr.{Expr}
use Rattle.f_tree.specs.Values.{Bytes, Datum, IsInt}
use Rattle.f_tree.specs.Terms.{Function}
use Rattle.f_tree.specs.Facts.{Attribute}
use Rattle.f_tree.specs.Uses.{is_among}
use Rattle.f_tree.specs.Reading.{function_named, read}
use Rattle.f_tree.specs.Attributes as written
use Rattle.f_tree.specs.Attributes.{Constant, constant_term}
use Rattle.name_facts.specs.declared.fact.ConstantValue.{ConstantValue}
use Rattle.name_facts.specs.GivenFacts.{datum_of}
use Rattle.constant_values.specs.declared.constants.Constants.{Constants}
use Rattle.constant_values.specs.Folded.{KnownNames, IsKnownAs}

-- a name that is defined, with its value if it has one
unfoldable pub entry_in : Constants → Bytes → Option (Option ConstantValue)
entry_in table x = get_by (λ k. bytes_eq x k.now) table.values

unfoldable pub value_or_none : {A : Type 0} → Option (Option A) → Option A
value_or_none None = None
value_or_none (Some v) = v

unfoldable pub constant_in : Constants → Bytes → Option ConstantValue
constant_in table x = value_or_none (entry_in table x)

unfoldable pub first_entry : {A : Type 0} → Option A → A → Option A
first_entry None a = Some a
first_entry (Some b) a = Some b

-- the first definition of a name
unfoldable pub entry_among : Bytes → List Constant → Option (Option Datum)
entry_among x [] = None
entry_among x (c ∷ cs) = if bytes_eq c.name x then Some c.value else entry_among x cs

pub record AreConstants (cs : List Constant) (table : Constants) : Type 0 where
  pub entries : (x : Bytes) → option_map (option_map datum_of) (entry_in table x) ≡ entry_among x cs

-- what the table has, and the intrinsic functions of a list
unfoldable pub function_if : Bytes → List Bytes → Option Function
function_if x xs = if is_among x xs then function_named x else None

unfoldable pub known_by : Constants → List Bytes → KnownNames
known_by table xs = record { value = λ x. option_map datum_of (constant_in table x); function = λ x. function_if x xs }

-- a value is that of a constant expression
pub record IsValueOf (table : Constants) (e : Expr) (v : Option ConstantValue) : Type 0 where
  pub value : (cs : List Constant) → AreConstants cs table → option_map datum_of v ≡ written.constant_value cs e

-- the integer that a value is
unfoldable pub integer_of : Option Datum → Option ℤ
integer_of (Some (IsInt z)) = Some z
integer_of _ = None

-- a number is that of an expression of a dimension, over the attributes of the names in it
pub record IsBoundOf (table : Constants) (functions : List Bytes) (e : Expr) (v : Option ℤ) : Type 0 where
  pub value : (names : Bytes → Attribute) → ((x : Bytes) → IsKnownAs x (names x) (known_by table functions)) → v ≡ constant_term (read names e).value
