-- The C file of a set of program units: its constants, and a function for each unit, in their order, with its parameters, the variable for its result,
-- temporaries, what it keeps of its dummy arrays, the functions that it calls, variables and control lists; where the objects of each function stand among
-- those of the program, and what each function goes by. ANSI X3.9-1978, sections 2.4, 5.1.1, 5.5.1, 8.3, 14, 15.5, 15.6 and 15.9; C89, 3.5, 3.5.4.3 and 3.7.1; CSTR 149.
use Rattle.std.specs.Prelude.{ℕ, zero, suc, ◌+◌, nat_eq, nat_lt, ℤ, Bool, true, false, ◌&&◌, List, [], ◌∷◌, ◌++◌, map, length, position, Option, Some, None, is_some, unwrap_or, slice_get, bytes_eq}
use Rattle.std.specs.Ordering.{int_eq}
use Rattle.main_file.specs.f_tree.declared.names.Basic.{Basic}
use Rattle.main_file.specs.f_tree.declared.names.Class.{Class}
use Rattle.main_file.specs.f_tree.declared.names.Class.TheVariants as class
use Rattle.main_file.specs.f_tree.Values.{Bytes}
use Rattle.main_file.specs.f_tree.Facts.{Facts}
use Rattle.main_file.specs.f_tree.CNames.{variable_name, made_name, FunctionResult, DimensionOf, LowerBoundOf}
use Rattle.main_file.specs.l_core.Pures.{Pure}
use Rattle.main_file.specs.c_tree.declared.types.NumberType.{NumberType}
use Rattle.main_file.specs.c_tree.declared.types.NumberType.TheVariants as number_type
use Rattle.main_file.specs.c_tree.declared.types.ResultType.{ResultType}
use Rattle.main_file.specs.c_tree.declared.types.ParameterType.{ParameterType}
use Rattle.main_file.specs.c_tree.declared.types.ArgumentType.{ArgumentType}
use Rattle.main_file.specs.c_tree.declared.statement.CStmt.{CStmt}
use Rattle.main_file.specs.c_tree.declared.declaration.CParam.{CParam}
use Rattle.main_file.specs.c_tree.declared.declaration.CLocal.{CLocal}
use Rattle.main_file.specs.c_tree.declared.declaration.CLocal.TheVariants as local
use Rattle.main_file.specs.c_tree.declared.file.CFile.{CFile}
use Rattle.main_file.specs.c_tree.declared.file.CFunction.{CFunction}
use Rattle.main_file.specs.c_image.Addresses.{Address, Alone, Through}
use Rattle.main_file.specs.c_image.Elements.{Quantity, Saved}
use Rattle.main_file.specs.c_emit.Numbers.{Writing}
pub use Rattle.main_file.specs.MainFile.{Variable, Listing, Bases, constant_for, variable_for, lists_from, temporaries_from, place_or_none, lower_of, size_of}
use Rattle.main_file.specs.MainFile.{list_names, temporary_names}

-- ## What a function has

-- a dummy argument, by its parameter
pub record Parameter : Type 0 where
  pub name : Bytes
  pub type : ParameterType

-- a function that is called: one of the library, or that of another unit
pub record Callee : Type 0 where
  pub name : List ℕ
  pub result : ResultType
  pub arguments : List ArgumentType

-- which bound of a dimension is kept
pub data BoundKind : Type 0 where
  LowerOf : BoundKind
  SizeOf : BoundKind

-- what is kept of a dimension of a dummy array, and by which value
pub record KeptBound : Type 0 where
  pub dummy : Bytes
  pub place : ℕ
  pub kind : BoundKind
  pub value : Pure

pub record Inventory : Type 0 where
  -- the name of the function in C, and what it gives
  pub name : List ℕ
  pub result : ResultType
  -- its dummy arguments in their order; an alternate return is none
  pub parameters : List Parameter
  -- the type of the variable for the result of a function of numbers
  pub returned : Option NumberType
  pub variables : List Variable
  pub lists : List Listing
  -- how many temporaries, which hold numbers
  pub temporaries : ℕ
  -- what it keeps of its dummy arrays when it begins
  pub bounds : List KeptBound
  pub calls : List Callee
  -- the strings that steps pass, each with its step, in their order
  pub strings : List ℕ
  pub texts : ℕ → List ℕ

-- ## Its declarations

abbrev pub parameter_for : Parameter → CParam
parameter_for p = record { of = p.type; name = variable_name p.name }

abbrev pub result_local : Option NumberType → List CLocal
result_local None = []
result_local (Some type) = local.Number type (made_name FunctionResult) ∷ []

-- by the name of the array in C and the number of the dimension
unfoldable pub name_of_bound : Bytes → ℕ → BoundKind → List ℕ
name_of_bound x place LowerOf = made_name (LowerBoundOf (variable_name x) (suc place))
name_of_bound x place SizeOf = made_name (DimensionOf (variable_name x) (suc place))

abbrev pub bound_name : KeptBound → List ℕ
bound_name one = name_of_bound one.dummy one.place one.kind

abbrev pub bound_for : KeptBound → CLocal
bound_for one = local.Number number_type.Integer (bound_name one)

abbrev pub extern_for : Callee → CLocal
extern_for call = local.Extern call.result call.name call.arguments

abbrev pub unit_locals : Inventory → List CLocal
unit_locals v = result_local v.returned ++ (temporaries_from 1 v.temporaries ++ (map bound_for v.bounds ++ (map extern_for v.calls ++ (map variable_for v.variables ++ lists_from 1 v.lists))))

-- a function, and the statements of its body
pub record WrittenUnit : Type 0 where
  pub inventory : Inventory
  pub body : List CStmt

abbrev pub unit_function : WrittenUnit → CFunction
unit_function w = record { result = w.inventory.result; name = w.inventory.name; params = map parameter_for w.inventory.parameters; locals = unit_locals w.inventory; body = w.body }

-- the constants that are passed by their address, once for all functions, and the functions in the order of the units
abbrev pub units_file : List ℤ → List WrittenUnit → CFile
units_file constants ws = record { objects = []; constants = map constant_for constants; functions = map unit_function ws }

-- ## How many objects it has

abbrev pub result_count : Option NumberType → ℕ
result_count None = 0
result_count (Some type) = 1

-- of its frame: parameters, the result, temporaries, and kept bounds
abbrev pub frame_count : Inventory → ℕ
frame_count v = length v.parameters + (result_count v.returned + (v.temporaries + length v.bounds))

-- of all: variables, control lists, strings and the frame
abbrev pub object_count : Inventory → ℕ
object_count v = length v.variables + (length v.lists + (length v.strings + frame_count v))

-- ## Where they stand

-- the first object of the function of a unit, where the functions have theirs one behind the other from a number on
abbrev pub first_object : ℕ → List Inventory → ℕ → ℕ
first_object first [] j = first
first_object first (v ∷ vs) zero = first
first_object first (v ∷ vs) (suc j) = first_object (first + object_count v) vs j

abbrev pub first_list : Inventory → Bases → ℕ
first_list v b = b.function + length v.variables

abbrev pub first_string : Inventory → Bases → ℕ
first_string v b = first_list v b + length v.lists

abbrev pub first_parameter : Inventory → Bases → ℕ
first_parameter v b = first_string v b + length v.strings

abbrev pub result_object : Inventory → Bases → ℕ
result_object v b = first_parameter v b + length v.parameters

abbrev pub first_temporary : Inventory → Bases → ℕ
first_temporary v b = result_object v b + result_count v.returned

abbrev pub first_bound : Inventory → Bases → ℕ
first_bound v b = first_temporary v b + v.temporaries

abbrev pub place_of_constant : List ℤ → ℤ → Option ℕ
place_of_constant constants z = position (int_eq z) constants

abbrev pub place_of_variable : Inventory → Bytes → Option ℕ
place_of_variable v x = position (λ (one : Variable). bytes_eq x one.name) v.variables

abbrev pub place_of_parameter : Inventory → Bytes → Option ℕ
place_of_parameter v x = position (λ (one : Parameter). bytes_eq x one.name) v.parameters

abbrev pub place_of_list : Inventory → ℕ → Option ℕ
place_of_list v n = position (λ (l : Listing). nat_eq n l.step) v.lists

abbrev pub place_of_string : Inventory → ℕ → Option ℕ
place_of_string v n = position (nat_eq n) v.strings

unfoldable pub is_same_kind : BoundKind → BoundKind → Bool
is_same_kind LowerOf LowerOf = true
is_same_kind SizeOf SizeOf = true
is_same_kind one other = false

unfoldable pub is_bound : Bytes → ℕ → BoundKind → KeptBound → Bool
is_bound x place kind one = bytes_eq x one.dummy && (nat_eq place one.place && is_same_kind kind one.kind)

abbrev pub place_of_bound : Inventory → Bytes → ℕ → BoundKind → Option ℕ
place_of_bound v x place kind = position (is_bound x place kind) v.bounds

-- ## Their names

abbrev pub lasting_names : Inventory → List (List ℕ)
lasting_names v = map (λ (one : Variable). variable_name one.name) v.variables ++ list_names 1 v.lists

abbrev pub result_names : Option NumberType → List (List ℕ)
result_names None = []
result_names (Some type) = made_name FunctionResult ∷ []

-- those of its frame
abbrev pub framed_names : Inventory → List (List ℕ)
framed_names v = map (λ (one : Parameter). variable_name one.name) v.parameters ++ (result_names v.returned ++ (temporary_names 1 v.temporaries ++ map bound_name v.bounds))

-- ## What the function goes by

-- the parameter of a dummy argument; one that is not listed has none in the frame
abbrev pub parameter_object : Inventory → Bases → Bytes → ℕ
parameter_object v b x = first_parameter v b + unwrap_or (place_of_parameter v x) (frame_count v)

-- a dummy argument by its parameter, the result by its variable, and all else by an object of its own
unfoldable pub address_in : Inventory → Bases → Bytes → Class → Address
address_in v b x class.Dummy = Through (parameter_object v b x)
address_in v b x class.DummyProcedure = Through (parameter_object v b x)
address_in v b x class.Result = Alone (result_object v b)
address_in v b x other = Alone (b.function + place_or_none (place_of_variable v x))

-- a bound that is kept by its object, and another as it is
unfoldable pub quantity_in : Inventory → Bases → Option ℕ → Quantity → Quantity
quantity_in v b (Some i) written = Saved (first_bound v b + i)
quantity_in v b None written = written

-- given the constants of the file, the facts of the unit, and of what type a temporary is before a step
abbrev pub writing_of : List ℤ → Inventory → Bases → Facts → (ℕ → ℕ → Option Basic) → Writing
writing_of constants v b facts kind = record {
  naming = record {
    address = λ x. address_in v b x (facts.program.attribute x).class;
    length = λ x. first_bound v b + length v.bounds;
    lower = λ x k. quantity_in v b (place_of_bound v x k LowerOf) (lower_of (slice_get (facts.program.attribute x).bounds k));
    size = λ x k. quantity_in v b (place_of_bound v x k SizeOf) (size_of (slice_get (facts.program.attribute x).bounds k));
    temporary = λ k. first_temporary v b + k;
  };
  facts = facts;
  is_number = λ k. nat_lt k v.temporaries;
  kind = kind;
  library = record {
    own = b.own;
    has = λ z. is_some (place_of_constant constants z);
    constant = λ z. b.file + place_or_none (place_of_constant constants z);
    list = λ n. first_list v b + place_or_none (place_of_list v n);
    text = λ n. first_string v b + place_or_none (place_of_string v n);
  };
}

unfoldable pub unit_file_opened : Unit {0}
unfolding name_of_bound is_same_kind is_bound address_in quantity_in
unit_file_opened = tt
