-- The C expression for a lowered value that is a number or a truth value. None where the value is a text, or takes a call of the library.
-- ANSI X3.9-1978, sections 5.4, 6 and 15.10; C89, 3.3.
use Rattle.std.specs.Prelude.{ℕ, suc, ℤ, pos, Bool, true, false, not, List, [], ◌∷◌, ◌&&◌, Option, Some, None, option_map, if◌then◌else◌}
use Rattle.l_core.specs.f_tree.declared.names.Basic.{Basic}
use Rattle.l_core.specs.f_tree.declared.names.Basic.TheVariants.{Integer, Logical, Character, Untyped}
use Rattle.l_core.specs.f_tree.declared.names.Class.{Class}
use Rattle.l_core.specs.f_tree.declared.names.Class.TheVariants as class
use Rattle.l_core.specs.f_tree.Values.{Bytes, Datum, IsInt, IsLog, in_range}
use Rattle.l_core.specs.f_tree.Facts.{Dimension, Facts}
use Rattle.l_core.specs.Pures.{Pure, Constant, Temporary, Load, Name, ElementOf, Prefixed, Operated, Applied, Chosen, Pures, NoPure, AndPure}
use Rattle.c_image.specs.c_tree.Access.{ToNumber}
use Rattle.c_image.specs.c_tree.Terms as c
use Rattle.c_image.specs.c_tree.Terms.{Term}
use Rattle.c_image.specs.Addresses.{number_term, element_term}
use Rattle.c_image.specs.Elements.{Step, step_for, index_term}
use Rattle.c_image.specs.Operations.{constant_term, prefix_for, operator_for, function_term}
use Rattle.c_image.specs.Knowing.{Naming}

-- what a function calls of the library, and the objects of its program that it passes there
pub record Library : Type 0 where
  -- how many functions the program has; those of the library have the numbers behind them
  pub own : ℕ
  -- is there an object that holds a constant, and which
  pub has : ℤ → Bool
  pub constant : ℤ → ℕ
  -- the control list of the transfer that begins at a step, and the text that a step passes
  pub list : ℕ → ℕ
  pub text : ℕ → ℕ

-- what is known of a function where its values are written: what stands for the names of its unit, which temporaries hold numbers, of what type
-- what one holds before a step is, and what it calls
pub record Writing : Type 0 where
  pub naming : Naming
  pub facts : Facts
  pub is_number : ℕ → Bool
  pub kind : ℕ → ℕ → Option Basic
  pub library : Library

unfoldable pub is_numeric : Basic → Bool
is_numeric Integer = true
is_numeric Logical = true
is_numeric Character = false
is_numeric Untyped = false

unfoldable pub is_variable : Class → Bool
is_variable class.Stored = true
is_variable class.Dummy = true
is_variable class.Result = true
is_variable _ = false

-- a variable or an array of numbers
unfoldable pub has_number : Writing → Bytes → Bool
has_number w x = is_variable (w.facts.program.attribute x).class && is_numeric (w.facts.program.attribute x).basic

-- an array has dimensions, which a call may fix
unfoldable pub has_shape : List Dimension → Bool
has_shape [] = false
has_shape (d ∷ ds) = true

-- one number by its name, and an array of numbers
unfoldable pub is_scalar : Writing → Bytes → Bool
is_scalar w x = has_number w x && not (has_shape (w.facts.program.attribute x).dimensions)

unfoldable pub is_array : Writing → Bytes → Bool
is_array w x = has_number w x && has_shape (w.facts.program.attribute x).dimensions

-- a constant: `.TRUE.` is 1 and `.FALSE.` is 0
unfoldable pub constant_value : Datum → Option Term
constant_value (IsInt z) = if in_range z then Some (constant_term z) else None
constant_value (IsLog true) = Some (c.Constant (pos 1))
constant_value (IsLog false) = Some (c.Constant (pos 0))
constant_value d = None

unfoldable pub with_two : (Term → Term → Term) → Option Term → Option Term → Option Term
with_two form (Some a) (Some b) = Some (form a b)
with_two form _ _ = None

unfoldable pub with_three : (Term → Term → Term → Term) → Option Term → Option Term → Option Term → Option Term
with_three form (Some a) (Some b) (Some d) = Some (form a b d)
with_three form _ _ _ = None

unfoldable pub one_more : Option Term → Option (List Term) → Option (List Term)
one_more (Some t) (Some ts) = Some (t ∷ ts)
one_more _ _ = None

-- how far each subscript is from its lower bound, and the size of its dimension, from a dimension on
unfoldable pub steps_from : Naming → Bytes → ℕ → List Term → List Step
steps_from naming x k [] = []
steps_from naming x k (t ∷ ts) = step_for (naming.lower x k) (naming.size x k) t ∷ steps_from naming x (suc k) ts

unfoldable pub element_value : Naming → Bytes → Option (List Term) → Option Term
element_value naming x None = None
element_value naming x (Some ts) = Some (element_term (naming.address x) (index_term (steps_from naming x 0 ts)))

unfoldable pub applied_value : (List Term → Option Term) → Option (List Term) → Option Term
applied_value form None = None
applied_value form (Some ts) = form ts

unfoldable pub if_number : Bool → Option Term → Option Term
if_number true term = term
if_number false term = None

-- a value, a place of a number, and values one after the other
unfoldable mutual
  pub value_term : Writing → Pure → Option Term
  value_term w (Constant d) = constant_value d
  value_term w (Temporary k) = if_number (w.is_number k) (Some (c.Variable (w.naming.temporary k) ToNumber))
  value_term w (Load p) = place_term w p
  value_term w (Prefixed op p) = option_map (c.Prefixed (prefix_for op)) (value_term w p)
  value_term w (Operated op p q) = with_two (c.Between (operator_for op)) (value_term w p) (value_term w q)
  value_term w (Applied function ps) = applied_value (function_term function) (value_terms w ps)
  value_term w (Chosen p q r) = with_three c.Choice (value_term w p) (value_term w q) (value_term w r)
  value_term w p = None

  pub place_term : Writing → Pure → Option Term
  place_term w (Name x) = if_number (is_scalar w x) (Some (number_term (w.naming.address x)))
  place_term w (ElementOf x ps) = if_number (is_array w x) (element_value w.naming x (value_terms w ps))
  place_term w p = None

  pub value_terms : Writing → Pures → Option (List Term)
  value_terms w NoPure = Some []
  value_terms w (AndPure p ps) = one_more (value_term w p) (value_terms w ps)

unfoldable pub numbers_opened : Unit {0}
unfolding is_numeric is_variable has_number has_shape is_scalar is_array constant_value with_two with_three one_more steps_from element_value applied_value if_number value_term place_term value_terms
numbers_opened = tt
