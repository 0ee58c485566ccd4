-- A list of the library and its fields by their numbers (C89, 3.3.2.3; f2c.h).
use Rattle.std.specs.Prelude.{ℕ, nat_eq, ℤ, Bool, false, Option, Some, None, Ok, bytes_eq, List, if◌then◌else◌}
use Rattle.c_tree.specs.declared.outcome.CValue.{CValue}
use Rattle.c_tree.specs.declared.outcome.CValue.TheVariants.{Pointer}
use Rattle.c_tree.specs.declared.outcome.CFault.TheVariants.{Outside, Kind}
use Rattle.c_tree.specs.declared.types.ListType.{ListType}
use Rattle.c_tree.specs.Faults.{Or, after, failing}
use Rattle.c_tree.specs.Access.{Access, ToList, ToField, FieldKind, NumberField}
use Rattle.c_tree.specs.Objects.{Object, Place, as_number, fetched}
use Rattle.c_tree.specs.CWords.{list_word}

-- whether what an object of values holds are the fields of a list of a type
abbrev pub is_list_of : ListType → Option Access → Bool
is_list_of wanted None = false
is_list_of wanted (Some (ToList other)) = bytes_eq (list_word wanted) (list_word other)
is_list_of wanted (Some access) = false

-- the object of a list, where an offset in it is that of its start
abbrev pub start_of : ℕ → ℕ → ℕ → Or ℕ
start_of object offset size =
    if nat_eq offset 0 then Ok object else if nat_eq offset size then failing Outside else failing Kind

-- the list of a type that an object is
abbrev pub list_place : ListType → ℕ → Place
list_place type object = record { at = Pointer object 0; access = ToList type }

-- what a field of a list holds, by its number
abbrev pub field_held : FieldKind → List Object → ℕ → ℕ → Or CValue
field_held kind objects list field =
    after (fetched objects (record { at = Pointer list field; access = ToField kind })) λ typed. Ok typed.value

abbrev pub number_held : List Object → ℕ → ℕ → Or ℤ
number_held objects list field = after (field_held NumberField objects list field) as_number
