-- What the C file of a main program has: the constants that are passed, the variables, the control lists, the temporaries and the functions of the
-- library, each once. ANSI X3.9-1978, sections 4.1, 5.1 and 12.8; C89, 3.5.
use Rattle.std.specs.BTreeSet.{insert_key}
use Rattle.std.specs.List.{list_any}
use Rattle.std.specs.Ordering.{int_cmp}
use Rattle.std.specs.Prelude.{ℕ, zero, suc, max, ℤ, pos, Bool, true, false, List, [], ◌∷◌, ◌++◌, map, filter, fold, length, Option, Some, None, option_and_then, slice_get, bytes_eq, codes, if◌then◌else◌}
use Rattle.main_file.specs.f_tree.declared.names.Basic.{Basic}
use Rattle.main_file.specs.f_tree.declared.names.Basic.TheVariants.{Logical}
use Rattle.main_file.specs.f_tree.Values.{Bytes, IsInt, IsLog, in_range}
use Rattle.main_file.specs.f_tree.Facts.{Bounds, Member, ProgramUnit}
use Rattle.main_file.specs.f_tree.Valuing.{elements_of}
use Rattle.main_file.specs.f_tree.Terms.{Function}
use Rattle.main_file.specs.l_core.Pures.{Pure, Constant, Temporary, Pures, NoPure, AndPure}
use Rattle.main_file.specs.l_core.Steps.{Starts, Takes, Finishes, Step, Keep, Compute, Halt, Acts, Text}
use Rattle.main_file.specs.c_tree.declared.types.NumberType.{NumberType}
use Rattle.main_file.specs.c_tree.declared.types.NumberType.TheVariants as number_type
use Rattle.main_file.specs.c_tree.declared.types.ListType.TheVariants as list_type
use Rattle.main_file.specs.c_tree.declared.types.ResultType.{ResultType}
use Rattle.main_file.specs.c_tree.declared.types.ResultType.TheVariants as result
use Rattle.main_file.specs.c_tree.declared.types.ParameterType.TheVariants as parameter
use Rattle.main_file.specs.c_tree.declared.types.ArgumentType.{ArgumentType}
use Rattle.main_file.specs.c_tree.declared.types.ArgumentType.TheVariants as argument
use Rattle.main_file.specs.c_emit.LibraryFunctions.{LibraryFunction, library_functions, library_function}
use Rattle.main_file.specs.c_emit.Calls.{unit_of, kind_number}
use Rattle.main_file.specs.MainFile.{Variable, Listing, Called, Inventory, Bases}
use Rattle.main_file.specs.MainItems.{stops_from}
use Rattle.main_translation.specs.Flow.{kept_type, kind_at}

-- ## Constants

-- a value at its place among those that are there, which ascend, if it is none of them
unfoldable pub with_new : List ℤ → ℤ → List ℤ
with_new zs z = insert_key int_cmp zs z

-- the value of an item that is a constant
unfoldable pub own_value : Pure → List ℤ
own_value (Constant (IsInt z)) = if in_range z then z ∷ [] else []
own_value (Constant (IsLog true)) = pos 1 ∷ []
own_value (Constant (IsLog false)) = pos 0 ∷ []
own_value p = []

unfoldable pub item_type : Text → ℕ → Pure → Option Basic
item_type u n (Temporary k) = kind_at u n k
item_type u n p = kept_type u.facts p

unfoldable pub kind_value : Option ℤ → List ℤ
kind_value None = []
kind_value (Some z) = z ∷ []

unfoldable pub own_values : Pures → List ℤ
own_values NoPure = []
own_values (AndPure p ps) = own_value p ++ own_values ps

-- an item is passed with the number of its type and with the number of its elements; a function of the library is passed its operands
unfoldable pub passed_by : Text → ℕ → Step → List ℤ
passed_by u n (Acts Takes (AndPure p NoPure) m) = kind_value (option_and_then kind_number (item_type u n p)) ++ pos 1 ∷ own_value p
passed_by u n (Compute k f ps) = own_values ps
passed_by u n st = []

unfoldable pub passed_from : Text → ℕ → List Step → List ℤ
passed_from u n [] = []
passed_from u n (st ∷ later) = passed_by u n st ++ passed_from u (suc n) later

unfoldable pub constants_of : Text → List ℤ
constants_of u = fold with_new [] (passed_from u 0 u.steps)

-- ## Variables

unfoldable pub number_type_of : Basic → NumberType
number_type_of Logical = number_type.Logical
number_type_of basic = number_type.Integer

unfoldable pub count_by : List Bounds → Option ℕ
count_by [] = None
count_by (b ∷ bs) = elements_of (b ∷ bs)

unfoldable pub variable_of : ProgramUnit → Member → Variable
variable_of unit m = record { name = m.name; type = number_type_of (unit.attribute m.name).basic; count = count_by (unit.attribute m.name).bounds }

-- ## Control lists, temporaries, functions of the library

unfoldable pub listing_by : ℕ → Option ℤ → List Listing
listing_by n None = []
listing_by n (Some unit) = record { step = n; unit = unit } ∷ []

unfoldable pub listings_from : ℕ → List Step → List Listing
listings_from n [] = []
listings_from n (Acts (Starts way layout controls) ps m ∷ later) = listing_by n (unit_of ps) ++ listings_from (suc n) later
listings_from n (st ∷ later) = listings_from (suc n) later

unfoldable pub temporaries_in : List Step → ℕ
temporaries_in [] = 0
temporaries_in (Keep k p ∷ later) = max (suc k) (temporaries_in later)
temporaries_in (Compute k f ps ∷ later) = max (suc k) (temporaries_in later)
temporaries_in (st ∷ later) = temporaries_in later

unfoldable pub begins_output : Step → Bool
begins_output (Acts (Starts way layout controls) ps m) = true
begins_output st = false

unfoldable pub takes_item : Step → Bool
takes_item (Acts Takes ps m) = true
takes_item st = false

unfoldable pub ends_output : Step → Bool
ends_output (Acts Finishes ps m) = true
ends_output st = false

unfoldable pub stops_run : Step → Bool
stops_run (Halt text) = true
stops_run st = false

-- a function of the library, where it is called
unfoldable pub if_called : Bool → Called → List Called
if_called true function = function ∷ []
if_called false function = []

abbrev pub start_output : Called
start_output = record { result = result.Integer; name = codes "s_wsle"; arguments = argument.List list_type.Transfer ∷ [] }

abbrev pub output_item : Called
output_item = record {
  result = result.Integer;
  name = codes "do_lio";
  arguments = argument.Parameter parameter.Integers ∷ argument.Parameter parameter.Integers ∷ argument.Parameter parameter.Chars ∷ argument.Parameter parameter.Length ∷ [];
}

abbrev pub end_output : Called
end_output = record { result = result.Integer; name = codes "e_wsle"; arguments = [] }

abbrev pub stop_run : Called
stop_run = record { result = result.Integer; name = codes "s_stop"; arguments = argument.Parameter parameter.Chars ∷ argument.Parameter parameter.Length ∷ [] }

-- is a function of the library the one for a function of FORTRAN
unfoldable pub is_function : LibraryFunction → Option LibraryFunction → Bool
is_function one None = false
is_function one (Some other) = bytes_eq one.name other.name

unfoldable pub computes : LibraryFunction → Step → Bool
computes one (Compute k f ps) = is_function one (library_function f)
computes one st = false

unfoldable pub result_of : Basic → ResultType
result_of Logical = result.Logical
result_of basic = result.Integer

-- each argument of a function of numbers is a pointer
unfoldable pub number_arguments : ℕ → List ArgumentType
number_arguments zero = []
number_arguments (suc n) = argument.Parameter parameter.Integers ∷ number_arguments n

unfoldable pub function_called : LibraryFunction → Called
function_called one = record { result = result_of one.gives; name = one.name; arguments = number_arguments one.takes }

-- the functions of numbers that are called, in the order of the library
unfoldable pub functions_of : List Step → List Called
functions_of steps = map function_called (filter (λ one. list_any (computes one) steps) library_functions)

unfoldable pub calls_of : List Step → List Called
calls_of steps =
    if_called (list_any begins_output steps) start_output ++ (if_called (list_any takes_item steps) output_item
    ++ (if_called (list_any ends_output steps) end_output ++ (if_called (list_any stops_run steps) stop_run ++ functions_of steps)))

unfoldable pub text_at : Option Step → Bytes
text_at (Some (Halt text)) = text
text_at st = []

-- ## The whole

abbrev pub inventory_of : ProgramUnit → Text → Inventory
inventory_of unit u = record {
  constants = constants_of u;
  variables = map (variable_of unit) unit.stored;
  lists = listings_from 0 u.steps;
  temporaries = temporaries_in u.steps;
  calls = calls_of u.steps;
  strings = stops_from 0 u.steps;
  texts = λ n. text_at (slice_get u.steps n);
}

-- a main program has one function, no external object, and its constants first
abbrev pub first_objects : Inventory → Bases
first_objects v = record { own = 1; file = 0; function = length v.constants }

unfoldable pub contents_opened : Unit {0}
unfolding with_new own_value own_values item_type kind_value passed_by passed_from constants_of number_type_of count_by variable_of listing_by listings_from temporaries_in begins_output takes_item ends_output stops_run if_called is_function computes result_of number_arguments function_called functions_of calls_of text_at
contents_opened = tt
