-- The C file of a main program: its constants, and its function with temporaries, functions of the library, variables and control lists; the numbers of
-- its objects, and what the function goes by. ANSI X3.9-1978, sections 8.3 and 14; C89, 3.5 and 3.7; CSTR 149.
use Rattle.std.specs.Prelude.{ℕ, zero, suc, ◌+◌, ◌-◌, nat_eq, nat_lt, nat_le, ℤ, pos, ◌&&◌, List, [], ◌∷◌, ◌++◌, map, length, replicate, position, Option, Some, None, is_some, unwrap_or, slice_get, bytes_eq, if◌then◌else◌}
use Rattle.std.specs.Ordering.{int_eq}
use Rattle.c_emit.specs.f_tree.declared.names.Basic.{Basic}
use Rattle.c_emit.specs.f_tree.Values.{Bytes}
use Rattle.c_emit.specs.f_tree.Facts.{Bounds, Facts}
use Rattle.c_emit.specs.f_tree.Valuing.{size_of_dimension}
use Rattle.c_emit.specs.f_tree.CNames.{variable_name, made_name, NumberTemporary, ControlList, ConstantOf}
use Rattle.c_structure.specs.c_tree.declared.types.NumberType.{NumberType}
use Rattle.c_structure.specs.c_tree.declared.types.NumberType.TheVariants as number_type
use Rattle.c_structure.specs.c_tree.declared.types.ResultType.{ResultType}
use Rattle.c_structure.specs.c_tree.declared.types.ResultType.TheVariants as result
use Rattle.c_structure.specs.c_tree.declared.types.ArgumentType.{ArgumentType}
use Rattle.c_structure.specs.c_tree.declared.types.ListType.TheVariants as list_type
use Rattle.c_structure.specs.c_tree.declared.statement.CStmt.{CStmt}
use Rattle.c_structure.specs.c_tree.declared.declaration.CField.TheVariants as field
use Rattle.c_structure.specs.c_tree.declared.declaration.CLocal.{CLocal}
use Rattle.c_structure.specs.c_tree.declared.declaration.CLocal.TheVariants as local
use Rattle.c_structure.specs.c_tree.declared.file.CFile.{CFile}
use Rattle.c_structure.specs.c_tree.declared.file.CFunction.{CFunction}
use Rattle.c_structure.specs.c_tree.declared.file.CConstant.{CConstant}
use Rattle.c_structure.specs.c_tree.Builtins.{builtin_names}
use Rattle.c_structure.specs.c_tree.Linking.{main_name}
use Rattle.c_emit.specs.c_image.Addresses.{Alone}
use Rattle.c_emit.specs.c_image.Elements.{Quantity, Written}
use Rattle.c_structure.specs.Expressions.{Names}
use Rattle.c_emit.specs.Numbers.{Writing}

-- ## What a file has

-- a variable or an array of numbers with an object of its own
pub record Variable : Type 0 where
  pub name : Bytes
  pub type : NumberType
  -- how many numbers an array has
  pub count : Option ℕ

-- the control list of the output that begins at a step
pub record Listing : Type 0 where
  pub step : ℕ
  pub unit : ℤ

-- a function of the library that is called
pub record Called : Type 0 where
  pub result : ResultType
  pub name : List ℕ
  pub arguments : List ArgumentType

pub record Inventory : Type 0 where
  -- the constants that are passed by their address
  pub constants : List ℤ
  pub variables : List Variable
  pub lists : List Listing
  -- how many temporaries, which hold numbers
  pub temporaries : ℕ
  pub calls : List Called
  -- the strings that steps pass, each with its step, in their order
  pub strings : List ℕ
  pub texts : ℕ → List ℕ

-- ## Its declarations

abbrev pub constant_for : ℤ → CConstant
constant_for z = record { name = made_name (ConstantOf z); value = z }

abbrev pub variable_by : NumberType → List ℕ → Option ℕ → CLocal
variable_by type name None = local.StaticNumber type name None
variable_by type name (Some count) = local.StaticNumbers type name count None

abbrev pub variable_for : Variable → CLocal
variable_for v = variable_by v.type (variable_name v.name) v.count

-- no ERR and no END, the unit, no format and no record number
abbrev pub list_for : ℕ → Listing → CLocal
list_for k l =
    local.StaticList list_type.Transfer (made_name (ControlList k)) (field.Number (pos 0) ∷ field.Number l.unit ∷ field.Number (pos 0) ∷ field.Number (pos 0) ∷ field.Number (pos 0) ∷ [])

abbrev pub lists_from : ℕ → List Listing → List CLocal
lists_from k [] = []
lists_from k (l ∷ ls) = list_for k l ∷ lists_from (suc k) ls

abbrev pub temporaries_from : ℕ → ℕ → List CLocal
temporaries_from k zero = []
temporaries_from k (suc n) = local.Number number_type.Integer (made_name (NumberTemporary k)) ∷ temporaries_from (suc k) n

abbrev pub call_for : Called → CLocal
call_for call = local.Extern call.result call.name call.arguments

abbrev pub main_locals : Inventory → List CLocal
main_locals v = temporaries_from 1 v.temporaries ++ (map call_for v.calls ++ (map variable_for v.variables ++ lists_from 1 v.lists))

abbrev pub main_function : Inventory → List CStmt → CFunction
main_function v body = record { result = result.Int; name = main_name; params = []; locals = main_locals v; body = body }

abbrev pub main_file : Inventory → List CStmt → CFile
main_file v body = record { objects = []; constants = map constant_for v.constants; functions = main_function v body ∷ [] }

-- ## The numbers of its objects

-- how many functions the program has, and the first objects of the file and of the function
pub record Bases : Type 0 where
  pub own : ℕ
  pub file : ℕ
  pub function : ℕ

abbrev pub first_list : Inventory → Bases → ℕ
first_list v b = b.function + length v.variables

abbrev pub first_string : Inventory → Bases → ℕ
first_string v b = first_list v b + length v.lists

abbrev pub first_temporary : Inventory → Bases → ℕ
first_temporary v b = first_string v b + length v.strings

abbrev pub place_or_none : Option ℕ → ℕ
place_or_none place = unwrap_or place 0

abbrev pub place_of_constant : Inventory → ℤ → Option ℕ
place_of_constant v z = position (int_eq z) v.constants

abbrev pub place_of_variable : Inventory → Bytes → Option ℕ
place_of_variable v x = position (λ (one : Variable). bytes_eq x one.name) v.variables

abbrev pub place_of_list : Inventory → ℕ → Option ℕ
place_of_list v n = position (λ (l : Listing). nat_eq n l.step) v.lists

abbrev pub place_of_string : Inventory → ℕ → Option ℕ
place_of_string v n = position (nat_eq n) v.strings

-- ## Their names

abbrev pub list_names : ℕ → List Listing → List (List ℕ)
list_names k [] = []
list_names k (l ∷ ls) = made_name (ControlList k) ∷ list_names (suc k) ls

abbrev pub temporary_names : ℕ → ℕ → List (List ℕ)
temporary_names k zero = []
temporary_names k (suc n) = made_name (NumberTemporary k) ∷ temporary_names (suc k) n

abbrev pub constant_names : Inventory → List (List ℕ)
constant_names v = map (λ z. made_name (ConstantOf z)) v.constants

abbrev pub lasting_names : Inventory → List (List ℕ)
lasting_names v = map (λ (one : Variable). variable_name one.name) v.variables ++ list_names 1 v.lists

abbrev pub called_names : Inventory → List (List ℕ)
called_names v = map (λ (call : Called). call.name) v.calls

-- the names of the objects of the function, of which strings have none
abbrev pub function_names : Inventory → List (List ℕ)
function_names v = lasting_names v ++ (replicate (length v.strings) [] ++ temporary_names 1 v.temporaries)

unfoldable pub object_name : Inventory → Bases → ℕ → List ℕ
object_name v b k = if nat_le b.function k then unwrap_or (slice_get (function_names v) (k - b.function)) [] else unwrap_or (slice_get (constant_names v) (k - b.file)) []

unfoldable pub string_at : Inventory → Bases → ℕ → Option (List ℕ)
string_at v b k =
    if nat_le (first_string v b) k && nat_lt k (first_temporary v b) then Some (v.texts (unwrap_or (slice_get v.strings (k - first_string v b)) 0)) else None

abbrev pub names_of : Inventory → Bases → Names
names_of v b = record { object = object_name v b; string = string_at v b; routine = λ k. unwrap_or (slice_get builtin_names (k - b.own)) [] }

-- ## What the function goes by

abbrev pub lower_of : Option Bounds → Quantity
lower_of None = Written (pos 0)
lower_of (Some bounds) = Written bounds.lower

abbrev pub size_of : Option Bounds → Quantity
size_of None = Written (pos 0)
size_of (Some bounds) = Written (pos (size_of_dimension bounds))

-- given its facts, and of what type a temporary is before a step
abbrev pub writing_of : Inventory → Bases → Facts → (ℕ → ℕ → Option Basic) → Writing
writing_of v b facts kind = record {
  naming = record {
    address = λ x. Alone (b.function + place_or_none (place_of_variable v x));
    length = λ x. first_temporary v b + v.temporaries;
    lower = λ x k. lower_of (slice_get (facts.program.attribute x).bounds k);
    size = λ x k. size_of (slice_get (facts.program.attribute x).bounds k);
    temporary = λ k. first_temporary v b + k;
  };
  facts = facts;
  is_number = λ k. nat_lt k v.temporaries;
  kind = kind;
  library = record {
    own = b.own;
    has = λ z. is_some (place_of_constant v z);
    constant = λ z. b.file + place_or_none (place_of_constant v z);
    list = λ n. first_list v b + place_or_none (place_of_list v n);
    text = λ n. first_string v b + place_or_none (place_of_string v n);
  };
}
