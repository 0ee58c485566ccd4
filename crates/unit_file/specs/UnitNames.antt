-- The names in C of what a function of the file goes by: its objects, its strings, and the functions that it calls. C89, 3.1.2.1; CSTR 149.
use Rattle.std.specs.Prelude.{ℕ, ◌-◌, nat_le, nat_lt, ℤ, ◌&&◌, List, [], ◌++◌, map, length, replicate, Option, Some, None, unwrap_or, slice_get, if◌then◌else◌}
use Rattle.main_file.specs.f_tree.CNames.{made_name, ConstantOf}
use Rattle.main_file.specs.c_tree.Builtins.{builtin_names}
use Rattle.main_file.specs.c_structure.Expressions.{Names}
use Rattle.unit_file.specs.UnitFile.{Callee, Inventory, Bases, first_string, first_parameter, lasting_names, framed_names}

abbrev pub constant_names : List ℤ → List (List ℕ)
constant_names constants = map (λ z. made_name (ConstantOf z)) constants

abbrev pub called_names : Inventory → List (List ℕ)
called_names v = map (λ (call : Callee). call.name) v.calls

-- the names of the objects of the function, of which strings have none
abbrev pub object_names : Inventory → List (List ℕ)
object_names v = lasting_names v ++ (replicate (length v.strings) [] ++ framed_names v)

unfoldable pub object_name : List ℤ → Inventory → Bases → ℕ → List ℕ
object_name constants v b k = if nat_le b.function k then unwrap_or (slice_get (object_names v) (k - b.function)) [] else unwrap_or (slice_get (constant_names constants) (k - b.file)) []

unfoldable pub string_at : Inventory → Bases → ℕ → Option (List ℕ)
string_at v b k =
    if nat_le (first_string v b) k && nat_lt k (first_parameter v b) then Some (v.texts (unwrap_or (slice_get v.strings (k - first_string v b)) 0)) else None

-- the functions of the program, and behind them those of the library
abbrev pub own_names : List Inventory → List (List ℕ)
own_names vs = map (λ (v : Inventory). v.name) vs

abbrev pub routine_name : List Inventory → ℕ → List ℕ
routine_name vs k = unwrap_or (slice_get (own_names vs ++ builtin_names) k) []

abbrev pub names_of : List ℤ → List Inventory → Inventory → Bases → Names
names_of constants vs v b = record { object = object_name constants v b; string = string_at v b; routine = routine_name vs }

unfoldable pub unit_names_opened : Unit {0}
unfolding object_name string_at
unit_names_opened = tt
