-- Linking: the files of a program become one list of functions and one list of objects, and the four rules that
-- they must keep (C89, 3.1.2.2, 3.5.4 and 3.7.2). The external objects come first, one for each name and of the
-- greatest size that a file gives it; then, file by file, the constants and what each function has: its objects
-- that last, its strings, its parameters and its automatic objects.
use Rattle.std.specs.Prelude.{ℕ, ◌+◌, ◌*◌, nat_lt, max, pos, Bool, true, false, not, ◌&&◌, ◌||◌, List, [], ◌∷◌, ◌++◌, map, filter, length, position, Option, Some, None, is_some, is_none, option_map, bytes_eq, codes, if◌then◌else◌}
use Rattle.c_tree.specs.declared.types.ResultType.{ResultType}
use Rattle.c_tree.specs.declared.types.ParameterType.{ParameterType}
use Rattle.c_tree.specs.declared.declaration.CParam.{CParam}
use Rattle.c_tree.specs.declared.declaration.CLocal.{CLocal}
use Rattle.c_tree.specs.declared.file.CFile.{CFile}
use Rattle.c_tree.specs.declared.file.CFunction.{CFunction}
use Rattle.c_tree.specs.declared.file.CConstant.{CConstant}
use Rattle.c_tree.specs.declared.file.CObject.{CObject}
use Rattle.c_tree.specs.declared.file.CObject.TheVariants.{Integers, Chars}
use Rattle.c_tree.specs.Access.{Access, ToNumber, ToChar}
use Rattle.c_tree.specs.Objects.{Object, Bytes, Values, bytes_of_number}
use Rattle.c_tree.specs.Terms.{Term, Constant, Array, Routine, Unknown}
use Rattle.c_tree.specs.Flat.{Flat}
use Rattle.c_tree.specs.Drafts.{Scope}
use Rattle.c_tree.specs.FlatForm.{whole_body, flat_form}
use Rattle.c_tree.specs.Declarations.{Declared, made, variable, filled, string_object, number_bytes, declared_parameters, declared_statics, declared_automatics, declared_externs, bytes_or_none, functions_in_lists}
use Rattle.c_tree.specs.Builtins.{builtin_names}

-- a function of the program, linked
pub record Function : Type 0 where
  pub name : List ℕ
  pub result : ResultType
  pub parameters : List ParameterType
  -- the number of the first object of its frame: its parameters and then its automatic objects
  pub frame : ℕ
  -- the objects of its frame as a call makes them
  pub fresh : List Object
  pub code : List Flat
  -- how many functions the program has; the library's have the numbers behind them
  pub own : ℕ

pub record Program : Type 0 where
  pub functions : List Function
  pub objects : List Object

-- an external object: its size in bytes, and the bytes that it starts with where a file gives them
pub record External : Type 0 where
  pub name : List ℕ
  pub size : ℕ
  pub image : Option (List ℕ)

abbrev pub external : CObject → External
external (Integers name count image) = record {
  name = name;
  size = 4 * count;
  image = option_map number_bytes image;
}
external (Chars name size image) = record { name = name; size = size; image = image }

abbrev pub or_else : {A : Type 0} → Option A → Option A → Option A
or_else (Some value) other = Some value
or_else None other = other

abbrev pub with_external : External → List External → List External
with_external new [] = new ∷ []
with_external new (known ∷ later) =
    if bytes_eq new.name known.name then record known { size = max known.size new.size; image = or_else known.image new.image } ∷ later
    else known ∷ with_external new later

abbrev pub with_externals : List External → List CObject → List External
with_externals known [] = known
with_externals known (object ∷ later) = with_externals (with_external (external object) known) later

abbrev pub externals_from : List External → List CFile → List External
externals_from known [] = known
externals_from known (file ∷ later) = externals_from (with_externals known file.objects) later

-- the external objects of the files, in the order in which their names are first seen
abbrev pub externals : List CFile → List External
externals files = externals_from [] files

abbrev pub external_object : External → Object
external_object object = filled object.size (bytes_or_none object.image)

-- the number of the external object of a name
abbrev pub external_number : List External → List ℕ → Option ℕ
external_number objects name = position (λ object. bytes_eq name object.name) objects

-- the names of the functions of the files, in order; a function's number is its place
abbrev pub function_names : List CFunction → List (List ℕ)
function_names [] = []
function_names (function ∷ later) = function.name ∷ function_names later

abbrev pub all_functions : List CFile → List CFunction
all_functions [] = []
all_functions (file ∷ later) = file.functions ++ all_functions later

-- the number of each function of the program and the library, by its name
abbrev pub Routines : Type 0
Routines = List ℕ → Option ℕ

abbrev pub routines : List (List ℕ) → Routines
routines defined name = position (bytes_eq name) (defined ++ builtin_names)

-- names in scope: those of an inner list before those around it
abbrev pub known_objects : ℕ → List Declared → Scope → Scope
known_objects number [] outer name = outer name
known_objects number (declared ∷ later) outer name =
    if bytes_eq name declared.name then declared.stands number else known_objects (number + 1) later outer name

abbrev pub routine : Option ℕ → Term
routine None = Unknown
routine (Some number) = Routine number

abbrev pub known_functions : Routines → List (List ℕ) → Scope → Scope
known_functions numbers [] outer name = outer name
known_functions numbers (known ∷ later) outer name =
    if bytes_eq name known then routine (numbers name) else known_functions numbers later outer name

abbrev pub array_at : Access → Option ℕ → Term
array_at access None = Unknown
array_at access (Some number) = Array number access

abbrev pub external_term : (List ℕ → Option ℕ) → CObject → Term
external_term numbers (Integers name count image) = array_at ToNumber (numbers name)
external_term numbers (Chars name size image) = array_at ToChar (numbers name)

abbrev pub known_externals : (List ℕ → Option ℕ) → List CObject → Scope → Scope
known_externals numbers [] outer name = outer name
known_externals numbers (object ∷ later) outer name =
    if bytes_eq name (external object).name then external_term numbers object
    else known_externals numbers later outer name

-- the names that the include line declares
abbrev pub included : Scope
included name =
    if bytes_eq name (codes "TRUE_") then Constant (pos 1)
    else if bytes_eq name (codes "FALSE_") then Constant (pos 0) else Unknown

abbrev pub declared_constants : List CConstant → List Declared
declared_constants [] = []
declared_constants (constant ∷ later) =
    made constant.name (variable ToNumber) (filled 4 (bytes_of_number constant.value)) ∷ declared_constants later

-- the names of a file, whose constants have the numbers from `base` on
abbrev pub file_scope : Routines → (List ℕ → Option ℕ) → ℕ → CFile → Scope
file_scope numbers objects base file =
    known_objects base (declared_constants file.constants)
    (known_externals objects file.objects (known_functions numbers (function_names file.functions) included))

abbrev pub strings_of : List Declared → List (List ℕ)
strings_of [] = []
strings_of (declared ∷ later) = declared.strings ++ strings_of later

-- objects, whose strings have the numbers from `first` on
abbrev pub objects_of : Scope → ℕ → List Declared → List Object
objects_of scope first [] = []
objects_of scope first (declared ∷ later) =
    declared.object scope first ∷ objects_of scope (first + length declared.strings) later

-- the names in scope behind declarations of a function: its objects that last have the numbers from `base` on, and
-- those of its frame from `frame` on
abbrev pub local_scope : Routines → ℕ → ℕ → List CParam → Scope → List CLocal → Scope
local_scope numbers base frame params outer locals =
    known_objects base (declared_statics locals)
    (known_objects frame (declared_parameters params ++ declared_automatics locals)
    (known_functions numbers (declared_externs locals) outer))

-- the objects that last, each by the names that are declared before it (C89, 3.1.2.1)
abbrev pub lasting : (List CLocal → Scope) → ℕ → List CLocal → List CLocal → List Object
lasting scope first before [] = []
lasting scope first before (one ∷ later) =
    let made = declared_statics (one ∷ []) in
    objects_of (scope before) first made ++ lasting scope (first + length (strings_of made)) (before ++ one ∷ []) later

abbrev pub parameter_types : List CParam → List ParameterType
parameter_types [] = []
parameter_types (param ∷ later) = param.of ∷ parameter_types later

-- a function and the objects that it adds
pub record LinkedFunction : Type 0 where
  pub function : Function
  pub objects : List Object

-- a function whose objects have the numbers from `base` on
abbrev pub linked_function : Routines → ℕ → Scope → ℕ → CFunction → LinkedFunction
linked_function numbers own outer base function =
    let statics = declared_statics function.locals in
    let statements = whole_body function.body in
    let strings = strings_of statics ++ statements.items.strings in
    let first = base + length statics in
    let frame = first + length strings in
    let inner = local_scope numbers base frame function.params outer in
    let scope = inner function.locals in
    let fresh = objects_of scope 0 (declared_parameters function.params ++ declared_automatics function.locals) in
    record {
      function = record {
        name = function.name;
        result = function.result;
        parameters = parameter_types function.params;
        frame = frame;
        fresh = fresh;
        code = flat_form statements scope (first + length (strings_of statics));
        own = own;
      };
      objects = lasting inner first [] function.locals ++ map string_object strings ++ fresh;
    }

abbrev pub no_functions : Program
no_functions = record { functions = []; objects = [] }

abbrev pub with_function : LinkedFunction → Program → Program
with_function linked program = record {
  functions = linked.function ∷ program.functions;
  objects = linked.objects ++ program.objects;
}

abbrev pub followed_by : Program → Program → Program
followed_by first second = record {
  functions = first.functions ++ second.functions;
  objects = first.objects ++ second.objects;
}

abbrev pub linked_functions : Routines → ℕ → Scope → ℕ → List CFunction → Program
linked_functions numbers own outer base [] = no_functions
linked_functions numbers own outer base (function ∷ later) =
    let linked = linked_function numbers own outer base function in
    with_function linked (linked_functions numbers own outer (base + length linked.objects) later)

-- a file whose objects have the numbers from `base` on
abbrev pub linked_file : Routines → (List ℕ → Option ℕ) → ℕ → ℕ → CFile → Program
linked_file numbers objects own base file =
    let scope = file_scope numbers objects base file in
    let constants = objects_of scope base (declared_constants file.constants) in
    let functions = linked_functions numbers own scope (base + length constants) file.functions in
    record functions { objects = constants ++ functions.objects }

abbrev pub linked_files : Routines → (List ℕ → Option ℕ) → ℕ → ℕ → List CFile → Program
linked_files numbers objects own base [] = no_functions
linked_files numbers objects own base (file ∷ later) =
    let first = linked_file numbers objects own base file in
    followed_by first (linked_files numbers objects own (base + length first.objects) later)

-- the program that the files make
unfoldable pub program : List CFile → Program
program files =
    let outside = externals files in
    let defined = function_names (all_functions files) in
    let linked =
    linked_files (routines defined) (external_number outside) (length defined) (length outside) files in
    record linked { objects = map external_object outside ++ linked.objects }

-- the main program's name
abbrev pub main_name : List ℕ
main_name = codes "MAIN__"

abbrev pub named : List ℕ → CFunction → Bool
named name function = bytes_eq name function.name

abbrev pub has_parameters : CFunction → Bool
has_parameters function = nat_lt 0 (length function.params)

abbrev pub any_of : {A : Type 0} → (A → Bool) → List A → Bool
any_of test [] = false
any_of test (first ∷ later) = test first || any_of test later

-- no main program, or one with parameters
abbrev pub lacks_main : List CFunction → Bool
lacks_main functions =
    not (any_of (named main_name) functions) || any_of (λ function. named main_name function && has_parameters function) functions

abbrev pub repeats : List (List ℕ) → Bool
repeats [] = false
repeats (name ∷ later) = any_of (bytes_eq name) later || repeats later

-- a function that is defined twice, or under a name of the library
abbrev pub defined_again : List (List ℕ) → Bool
defined_again defined = repeats defined || any_of (λ name. any_of (bytes_eq name) builtin_names) defined

abbrev pub imaged_names : List CObject → List (List ℕ)
imaged_names [] = []
imaged_names (object ∷ later) =
    if is_some (external object).image then (external object).name ∷ imaged_names later else imaged_names later

abbrev pub all_imaged : List CFile → List (List ℕ)
all_imaged [] = []
all_imaged (file ∷ later) = imaged_names file.objects ++ all_imaged later

-- the functions declared by `extern` that a function's expressions, calls and list fields mention
abbrev pub mentioned : CFunction → List (List ℕ)
mentioned function =
    filter (λ name. any_of (bytes_eq name) (declared_externs function.locals)) (whole_body function.body).items.names
    ++ functions_in_lists [] function.locals

-- one of them that is nowhere defined
abbrev pub misses : Routines → CFunction → Bool
misses numbers function = any_of (λ name. is_none (numbers name)) (mentioned function)

abbrev pub bytes_of_object : Object → ℕ
bytes_of_object (Bytes bytes) = length bytes
bytes_of_object (Values held) = 0

abbrev pub bytes_of_objects : List Object → ℕ
bytes_of_objects [] = 0
bytes_of_objects (object ∷ later) = bytes_of_object object + bytes_of_objects later

-- the bytes that a program may have, those of a function counted once
abbrev pub byte_limit : ℕ
byte_limit = 268435456

-- a rule that the files break, by its number
abbrev pub broken_rule : Bool → Bool → Bool → Bool → Option ℕ
broken_rule true second third fourth = Some 1
broken_rule false true third fourth = Some 2
broken_rule false false true fourth = Some 3
broken_rule false false false true = Some 4
broken_rule false false false false = None

-- the least rule that the files break: 1 no main program or one with parameters; 2 a function that is defined
-- twice or under a name of the library, or an object with two images; 3 a function that is missing; 4 too many bytes
unfoldable pub first_broken_rule : List CFile → Option ℕ
first_broken_rule files =
    let functions = all_functions files in
    let defined = function_names functions in
    broken_rule
    (lacks_main functions)
    (defined_again defined || repeats (all_imaged files))
    (any_of (misses (routines defined)) functions)
    (nat_lt byte_limit (bytes_of_objects (program files).objects))
