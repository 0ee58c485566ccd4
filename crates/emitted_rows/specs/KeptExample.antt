-- A subroutine S(A, L, N) with the array A(L:N), which puts L into A(N), and its C function, which keeps the lower bound and the size of A before that.
-- ANSI X3.9-1978, sections 5.1.1 and 5.5.1.
use Rattle.std.specs.Prelude.{◌≡◌, ℕ, zero, suc, pos, Bool, false, List, [], ◌∷◌, Some, None, bytes_eq, codes, if◌then◌else◌}
use Rattle.procedure_emission.specs.f_tree.declared.names.Class.TheVariants as class
use Rattle.procedure_emission.specs.f_tree.Values.{Bytes, IsInt}
use Rattle.procedure_emission.specs.f_tree.Terms.{Add, Subtract, Fetch, At}
use Rattle.procedure_emission.specs.f_tree.Facts.{Dimension, Attribute, Named, SubroutineUnit, EntryPoint, Facts}
use Rattle.procedure_emission.specs.l_core.Pures.{Constant, Load, Name, ElementOf, Operated, NoPure, AndPure}
use Rattle.procedure_emission.specs.l_core.Steps.{Step, Put, Back, Text}
use Rattle.procedure_emission.specs.c_tree.declared.types.ParameterType.TheVariants as parameter
use Rattle.procedure_emission.specs.c_tree.declared.types.ResultType.TheVariants as result
use Rattle.procedure_emission.specs.c_tree.declared.expression.BinaryOp.TheVariants as op
use Rattle.procedure_emission.specs.c_tree.declared.expression.UnaryOp.TheVariants as prefix
use Rattle.procedure_emission.specs.c_tree.Access.{ToNumber, ToPointer}
use Rattle.procedure_emission.specs.c_tree.Declarations.{unset, unset_values}
use Rattle.procedure_emission.specs.c_tree.Terms as c
use Rattle.procedure_emission.specs.c_tree.Flat.{Flat, Assign, Return}
use Rattle.procedure_emission.specs.c_image.Addresses as address
use Rattle.procedure_emission.specs.c_image.Addresses.{Address}
use Rattle.procedure_emission.specs.c_image.Elements.{Saved}
use Rattle.procedure_emission.specs.bound_items.BoundItems.{Saving}
use Rattle.procedure_emission.specs.emitted_texts.SecondLayer.{Room, Surroundings, Emission}
use Rattle.procedure_emission.specs.EmittedUnits.{IsEmittedUnit, IsCosted}
use Rattle.emitted_rows.specs.Example.{an_integer, unit_facts}

-- ## The subroutine

abbrev pub the_array : Bytes
the_array = 65 ∷ []

abbrev pub the_lower : Bytes
the_lower = 76 ∷ []

abbrev pub the_upper : Bytes
the_upper = 78 ∷ []

abbrev pub its_dimension : Dimension
its_dimension = record { lower = Fetch (At the_lower); upper = Some (Fetch (At the_upper)) }

abbrev pub array_entry : EntryPoint
array_entry = record { name = 83 ∷ []; formals = Named the_array ∷ Named the_lower ∷ Named the_upper ∷ []; start = 0 }

abbrev pub attribute_by : Bool → Attribute
attribute_by is_the_array = if is_the_array then record an_integer { class = class.Dummy; dimensions = its_dimension ∷ [] } else record an_integer { class = class.Dummy }

abbrev pub array_attribute : Bytes → Attribute
array_attribute x = attribute_by (bytes_eq x the_array)

abbrev pub array_steps : List Step
array_steps = Put (ElementOf the_array (AndPure (Load (Name the_upper)) NoPure)) (Load (Name the_lower)) ∷ Back ∷ []

abbrev pub array_facts : Facts
array_facts = unit_facts SubroutineUnit array_entry array_attribute (λ x. None)

abbrev pub array_text : Text
array_text = record { facts = array_facts; steps = array_steps; begins = λ i. i; position = λ label. None; marks = [] }

-- ## Its function

-- what the parameter of a name points to
abbrev pub number_at : ℕ → c.Term
number_at parameter = c.Prefixed prefix.Deref (c.Variable parameter (ToPointer ToNumber))

abbrev pub its_savings : List Saving
its_savings =
    record { object = 3; value = Load (Name the_lower) }
    ∷ record { object = 4; value = Operated Add (Operated Subtract (Load (Name the_upper)) (Load (Name the_lower))) (Constant (IsInt (pos 1))) }
    ∷ []

abbrev pub array_code : List Flat
array_code =
    Assign (c.Variable 3 ToNumber) (number_at 1)
    ∷ Assign (c.Variable 4 ToNumber) (c.Between op.Add (c.Between op.Subtract (number_at 2) (number_at 1)) (c.Constant (pos 1)))
    ∷ Assign (c.Element (c.Variable 0 (ToPointer ToNumber)) (c.Between op.Subtract (number_at 2) (c.Variable 3 ToNumber))) (number_at 1)
    ∷ Return (Some (c.Constant (pos 0)))
    ∷ []

abbrev pub address_by : (is_the_array is_the_lower : Bool) → Address
address_by is_the_array is_the_lower = if is_the_array then address.Through 0 else if is_the_lower then address.Through 1 else address.Through 2

abbrev pub array_address : Bytes → Address
array_address x = address_by (bytes_eq x the_array) (bytes_eq x the_lower)

abbrev pub array_emission : Emission
array_emission = record {
  writing = record {
    naming = record { address = array_address; length = λ x. 20; lower = λ x k. Saved 3; size = λ x k. Saved 4; temporary = λ k. 20 };
    facts = array_facts;
    is_number = λ k. false;
    kind = λ n k. None;
    library = record { own = 1; has = λ z. false; constant = λ z. 0; list = λ n. 20; text = λ n. 20 };
  };
  place = λ n. suc (suc n);
  stage = λ n. None;
  function = record {
    name = codes "s_";
    result = result.Int;
    parameters = parameter.Integers ∷ parameter.Integers ∷ parameter.Integers ∷ [];
    frame = 0;
    fresh = unset_values (ToPointer ToNumber) 1 ∷ unset_values (ToPointer ToNumber) 1 ∷ unset_values (ToPointer ToNumber) 1 ∷ unset 4 ∷ unset 4 ∷ [];
    code = array_code;
    own = 1;
  };
  number = 0;
}

-- ## The program

abbrev pub array_room : ℕ → Room
array_room zero = record { first = 0; count = 5 }
array_room (suc j) = record { first = 5; count = 0 }

abbrev pub array_surroundings : Surroundings
array_surroundings = record {
  objects = 5;
  rooms = array_room;
  numbers = λ name. None;
  first = record { homes = λ n. None; size = λ n. 0; fixed = λ n. false; height = 0; frozen = λ k. None };
}

-- each item counts; the first step may cost also what is kept
abbrev pub array_costs : List ℕ
array_costs = 1 ∷ 1 ∷ []

abbrev pub array_later : List ℕ
array_later = 3 ∷ 1 ∷ []

-- it is emitted, within what its steps may cost
abbrev pub ArrayIsEmitted : Type 0
ArrayIsEmitted = (is : IsEmittedUnit array_surroundings 0 array_text array_costs array_emission) × IsCosted array_text array_costs array_later is.entry is.savings × (is.savings ≡ its_savings)
