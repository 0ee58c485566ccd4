-- What a declaration makes: an object as it stands at the start of the run or of a call, and what its name
-- stands for (C89, 3.1.2.5, 3.5 and 3.5.7).
use Rattle.std.specs.Prelude.{ℕ, ◌+◌, ◌*◌, ◌-◌, ℤ, pos, List, [], ◌∷◌, ◌++◌, map, filter, length, replicate, Option, Some, None, bytes_eq, if◌then◌else◌}
use Rattle.std.specs.Ordering.{int_eq}
use Rattle.std.specs.List.{list_any}
use Rattle.c_tree.specs.declared.outcome.CValue.{CValue}
use Rattle.c_tree.specs.declared.outcome.CValue.TheVariants.{Number, Pointer, Null, Function}
use Rattle.c_tree.specs.declared.types.ParameterType.{ParameterType}
use Rattle.c_tree.specs.declared.types.ParameterType.TheVariants as parameter
use Rattle.c_tree.specs.declared.types.ListType.{ListType}
use Rattle.c_tree.specs.declared.declaration.CParam.{CParam}
use Rattle.c_tree.specs.declared.declaration.CField.{CField}
use Rattle.c_tree.specs.declared.declaration.CField.TheVariants as given
use Rattle.c_tree.specs.declared.declaration.CLocal.{CLocal}
use Rattle.c_tree.specs.declared.declaration.CLocal.TheVariants as local
use Rattle.c_tree.specs.Access.{Access, ToNumber, ToChar, ToList, ToPointer, ToFunction, FieldKind, NumberField, TextField, FieldOf, fields_of}
use Rattle.c_tree.specs.Objects.{Object, Bytes, Values, bytes_of_number}
use Rattle.c_tree.specs.Terms.{Term, Variable, Array, Routine}
use Rattle.c_tree.specs.Drafts.{Scope}

-- bytes and values that are not set
abbrev pub unset : ℕ → Object
unset count = Bytes (replicate count None)

abbrev pub unset_values : Access → ℕ → Object
unset_values type count = Values (record { type = type; values = replicate count None })

-- bytes with zero bytes behind them, in all so many
abbrev pub filled : ℕ → List ℕ → Object
filled size bytes = Bytes (map Some (bytes ++ replicate (size - length bytes) 0))

-- the bytes of numbers, one after the other
abbrev pub number_bytes : List ℤ → List ℕ
number_bytes [] = []
number_bytes (number ∷ later) = bytes_of_number number ++ number_bytes later

abbrev pub numbers_or_none : Option (List ℤ) → List ℕ
numbers_or_none None = []
numbers_or_none (Some numbers) = number_bytes numbers

abbrev pub bytes_or_none : Option (List ℕ) → List ℕ
bytes_or_none None = []
bytes_or_none (Some bytes) = bytes

abbrev pub number_or_zero : Option ℤ → List ℕ
number_or_zero None = []
number_or_zero (Some number) = bytes_of_number number

-- a string is its bytes and a zero byte
abbrev pub string_object : List ℕ → Object
string_object bytes = filled (length bytes + 1) bytes

-- a declared name, given the number of its object
pub record Declared : Type 0 where
  pub name : List ℕ
  pub stands : ℕ → Term
  -- the strings that its object points to
  pub strings : List (List ℕ)
  -- the object, given the names in scope and the number of the first of these strings
  pub object : Scope → ℕ → Object

abbrev pub made : List ℕ → (ℕ → Term) → Object → Declared
made name stands object = record {
  name = name;
  stands = stands;
  strings = [];
  object = λ scope first. object;
}

abbrev pub parameter_access : ParameterType → Access
parameter_access parameter.Integers = ToPointer ToNumber
parameter_access parameter.Logicals = ToPointer ToNumber
parameter_access parameter.Chars = ToPointer ToChar
parameter_access parameter.Length = ToNumber
parameter_access parameter.Int = ToNumber
parameter_access (parameter.Function type) = ToFunction

-- the parameter's object before a call: four bytes, or one value
abbrev pub parameter_object : ParameterType → Object
parameter_object parameter.Length = unset 4
parameter_object parameter.Int = unset 4
parameter_object pointer = unset_values (parameter_access pointer) 1

abbrev pub variable : Access → ℕ → Term
variable access object = Variable object access

abbrev pub array : Access → ℕ → Term
array access object = Array object access

abbrev pub declared_parameter : CParam → Declared
declared_parameter param = made param.name (variable (parameter_access param.of)) (parameter_object param.of)

abbrev pub declared_parameters : List CParam → List Declared
declared_parameters [] = []
declared_parameters (param ∷ later) = declared_parameter param ∷ declared_parameters later

-- a number that a field starts with: 0 in a pointer field is null
abbrev pub field_number : FieldKind → ℤ → CValue
field_number NumberField number = Number number
field_number TextField number = if int_eq number (pos 0) then Null else Number number

-- what a name is as a constant: an array's start or a function
abbrev pub constant_of : Term → Option CValue
constant_of (Array object access) = Some (Pointer object 0)
constant_of (Routine number) = Some (Function number)
constant_of other = None

abbrev pub field_strings : List CField → List (List ℕ)
field_strings [] = []
field_strings (given.Str bytes ∷ later) = bytes ∷ field_strings later
field_strings (given.Number number ∷ later) = field_strings later
field_strings (given.Name name ∷ later) = field_strings later

-- the fields as they start, each as the list declares it; those that are not written are 0 or null
abbrev pub field_values : Scope → ℕ → List FieldOf → List CField → List (Option CValue)
field_values scope first [] fields = []
field_values scope first (declared ∷ later) [] =
    Some (field_number declared.kind (pos 0)) ∷ field_values scope first later []
field_values scope first (declared ∷ later) (given.Number number ∷ fields) =
    Some (field_number declared.kind number) ∷ field_values scope first later fields
field_values scope first (declared ∷ later) (given.Str bytes ∷ fields) =
    Some (Pointer first 0) ∷ field_values scope (first + 1) later fields
field_values scope first (declared ∷ later) (given.Name name ∷ fields) =
    constant_of (scope name) ∷ field_values scope first later fields

abbrev pub declared_list : ListType → List ℕ → List CField → Declared
declared_list type name fields = record {
  name = name;
  stands = variable (ToList type);
  strings = field_strings fields;
  object = λ scope first. Values (record { type = ToList type; values = field_values scope first (fields_of type) fields });
}

-- the length of a `char` array: the one that is written, or that of its string with a zero byte
abbrev pub text_size : Option ℕ → Option (List ℕ) → ℕ
text_size (Some size) text = size
text_size None text = length (bytes_or_none text) + 1

-- the objects that last for the whole run (C89, 3.1.2.4)
abbrev pub declared_statics : List CLocal → List Declared
declared_statics [] = []
declared_statics (local.StaticNumber type name value ∷ later) =
    made name (variable ToNumber) (filled 4 (number_or_zero value)) ∷ declared_statics later
declared_statics (local.StaticNumbers type name count image ∷ later) =
    made name (array ToNumber) (filled (4 * count) (numbers_or_none image)) ∷ declared_statics later
declared_statics (local.StaticChars name size text ∷ later) =
    made name (array ToChar) (filled (text_size size text) (bytes_or_none text)) ∷ declared_statics later
declared_statics (local.StaticList type name fields ∷ later) = declared_list type name fields ∷ declared_statics later
declared_statics (other ∷ later) = declared_statics later

-- the objects that a call makes anew
abbrev pub declared_automatics : List CLocal → List Declared
declared_automatics [] = []
declared_automatics (local.Number type name ∷ later) =
    made name (variable ToNumber) (unset 4) ∷ declared_automatics later
declared_automatics (local.Numbers type name count ∷ later) =
    made name (array ToNumber) (unset (4 * count)) ∷ declared_automatics later
declared_automatics (local.Chars name size ∷ later) =
    made name (array ToChar) (unset size) ∷ declared_automatics later
declared_automatics (local.Addresses name count ∷ later) =
    made name (array (ToPointer ToChar)) (unset_values (ToPointer ToChar) count) ∷ declared_automatics later
declared_automatics (other ∷ later) = declared_automatics later

-- the functions that are declared by `extern`
abbrev pub declared_externs : List CLocal → List (List ℕ)
declared_externs [] = []
declared_externs (local.Extern result name types ∷ later) = name ∷ declared_externs later
declared_externs (other ∷ later) = declared_externs later

abbrev pub field_names : List CField → List (List ℕ)
field_names [] = []
field_names (given.Name name ∷ later) = name ∷ field_names later
field_names (given.Str bytes ∷ later) = field_names later
field_names (given.Number number ∷ later) = field_names later

-- the functions that the fields of lists name, each declared by `extern` before its list
abbrev pub functions_in_lists : List (List ℕ) → List CLocal → List (List ℕ)
functions_in_lists known [] = []
functions_in_lists known (local.Extern result name types ∷ later) = functions_in_lists (name ∷ known) later
functions_in_lists known (local.StaticList type name fields ∷ later) =
    filter (λ field. list_any (bytes_eq field) known) (field_names fields) ++ functions_in_lists known later
functions_in_lists known (other ∷ later) = functions_in_lists known later
