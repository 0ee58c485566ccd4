-- What linking makes of files and functions, wherever they stand: their numbers, their objects, what their names stand for, and the items of a function
-- whose statements were built for items. C89, 3.1.2.1, 3.1.2.2, 3.1.2.4, 3.5 and 3.6.
use Rattle.std.specs.Prelude.{◌≡◌, ℕ, zero, suc, ◌+◌, ◌<◌, true, List, [], ◌∷◌, ◌++◌, map, length, take, position, Option, Some, None, slice_get, bytes_eq}
use Rattle.c_structure_laws.specs.c_tree.declared.file.CFile.{CFile}
use Rattle.c_structure_laws.specs.c_tree.declared.file.CFunction.{CFunction}
use Rattle.c_structure_laws.specs.c_tree.declared.file.CObject.{CObject}
use Rattle.c_structure_laws.specs.c_tree.Objects.{Object}
use Rattle.c_structure_laws.specs.c_tree.Flat.{Flat}
use Rattle.c_structure_laws.specs.c_tree.Drafts.{Scope}
use Rattle.c_structure_laws.specs.c_tree.FlatForm.{whole_body, ends}
use Rattle.c_structure_laws.specs.c_tree.Declarations.{Declared, string_object, declared_parameters, declared_statics, declared_automatics, declared_externs}
use Rattle.c_structure_laws.specs.c_tree.Builtins.{builtin_names}
use Rattle.c_structure_laws.specs.c_tree.Linking.{LinkedFunction, External, Routines, externals, external, external_object, external_number, external_term, function_names, all_functions, routines, routine, declared_constants, file_scope, strings_of, local_scope, linked_function, linked_file, program}
use Rattle.c_structure_laws.specs.c_structure.Statements.{Outline, strings_of_items, statements_for}
use Rattle.c_structure_laws.specs.Fitting.{KnowsItems, AreNumbered, AreBytesOf}

-- ## Names

-- no two places of a list have one name
abbrev pub AreDistinct : List (List ℕ) → Type 0
AreDistinct names = (i j : ℕ) (name : List ℕ) → slice_get names i ≡ Some name → slice_get names j ≡ Some name → i ≡ j

abbrev pub IsNone : List ℕ → List (List ℕ) → Type 0
IsNone name names = (i : ℕ) → slice_get names i ≡ Some name → ⊥

abbrev pub names_of : List Declared → List (List ℕ)
names_of declared = map (λ (d : Declared). d.name) declared

abbrev pub names_of_objects : List CObject → List (List ℕ)
names_of_objects objects = map (λ o. (external o).name) objects

-- ## Where the parts of a function stand, given the number of its first object

abbrev pub statics : CFunction → List Declared
statics function = declared_statics function.locals

-- its parameters, and what it has anew at each call
abbrev pub framed : CFunction → List Declared
framed function = declared_parameters function.params ++ declared_automatics function.locals

-- the strings to which its lists point, and those of its statements
abbrev pub strings : CFunction → List (List ℕ)
strings function = strings_of (statics function) ++ (whole_body function.body).items.strings

abbrev pub first_string : ℕ → CFunction → ℕ
first_string base function = base + length (statics function)

abbrev pub frame : ℕ → CFunction → ℕ
frame base function = first_string base function + length (strings function)

abbrev pub scope_of : Routines → Scope → ℕ → CFunction → Scope
scope_of numbers outer base function = local_scope numbers base (frame base function) function.params outer function.locals

-- ## Where functions and files stand

abbrev pub base_of_function : Routines → ℕ → Scope → ℕ → List CFunction → ℕ → ℕ
base_of_function numbers own outer base [] k = base
base_of_function numbers own outer base (function ∷ later) zero = base
base_of_function numbers own outer base (function ∷ later) (suc k) = base_of_function numbers own outer (base + length (linked_function numbers own outer base function).objects) later k

abbrev pub base_of_file : Routines → (List ℕ → Option ℕ) → ℕ → ℕ → List CFile → ℕ → ℕ
base_of_file numbers objects own base [] k = base
base_of_file numbers objects own base (file ∷ later) zero = base
base_of_file numbers objects own base (file ∷ later) (suc k) = base_of_file numbers objects own (base + length (linked_file numbers objects own base file).objects) later k

-- a file of a program, and what it is linked with
abbrev pub routines_of : List CFile → Routines
routines_of files = routines (function_names (all_functions files))

abbrev pub outside_of : List CFile → List ℕ → Option ℕ
outside_of files = external_number (externals files)

abbrev pub own_of : List CFile → ℕ
own_of files = length (function_names (all_functions files))

abbrev pub base_at : List CFile → ℕ → ℕ
base_at files k = base_of_file (routines_of files) (outside_of files) (own_of files) (length (externals files)) files k

abbrev pub file_names : List CFile → ℕ → CFile → Scope
file_names files k file = file_scope (routines_of files) (outside_of files) (base_at files k) file

-- the first object of the function at a place of a file, behind the constants of the file
abbrev pub function_base : List CFile → ℕ → CFile → ℕ → ℕ
function_base files k file j = base_of_function (routines_of files) (own_of files) (file_names files k file) (base_at files k + length (declared_constants file.constants)) file.functions j

abbrev pub linked_at : List CFile → ℕ → CFile → ℕ → CFunction → LinkedFunction
linked_at files k file j function = linked_function (routines_of files) (own_of files) (file_names files k file) (function_base files k file j) function

-- how many functions stand in the files before one
abbrev pub functions_before : List CFile → ℕ → ℕ
functions_before files k = length (all_functions (take k files))

-- an object that depends on no names and no strings
abbrev pub IsAlways : Declared → Object → Type 0
IsAlways d object = (scope : Scope) (first : ℕ) → d.object scope first ≡ object

-- ## LAWS

-- each function of a file stands among those of the program, by its number, and with its objects
pub record IsInProgram (files : List CFile) (k : ℕ) (file : CFile) (j : ℕ) (function : CFunction) : Type 0 where
  pub function_is : slice_get (program files).functions (functions_before files k + j) ≡ Some (linked_at files k file j function).function
  pub written : slice_get (all_functions files) (functions_before files k + j) ≡ Some function
  pub objects : (n : ℕ) (object : Object) → slice_get (linked_at files k file j function).objects n ≡ Some object → slice_get (program files).objects (function_base files k file j + n) ≡ Some object

abbrev pub FunctionsStand : Type 0
FunctionsStand = (files : List CFile) (k : ℕ) (file : CFile) (j : ℕ) (function : CFunction) → slice_get files k ≡ Some file → slice_get file.functions j ≡ Some function → IsInProgram files k file j function

-- so does each external object, and each constant of a file
abbrev pub ExternalsStand : Type 0
ExternalsStand = (files : List CFile) (k : ℕ) (known : External) → slice_get (externals files) k ≡ Some known → slice_get (program files).objects k ≡ Some (external_object known)

abbrev pub ConstantsStand : Type 0
ConstantsStand = (files : List CFile) (k : ℕ) (file : CFile) (i : ℕ) (d : Declared) (object : Object) → slice_get files k ≡ Some file → slice_get (declared_constants file.constants) i ≡ Some d → IsAlways d object →
    slice_get (program files).objects (base_at files k + i) ≡ Some object

-- the objects of a function: those that last, its strings and its frame
pub record HasItsObjects (linked : LinkedFunction) (base : ℕ) (function : CFunction) : Type 0 where
  pub lasting : (i : ℕ) (d : Declared) (object : Object) → slice_get (statics function) i ≡ Some d → IsAlways d object → slice_get linked.objects i ≡ Some object
  pub passed : (i : ℕ) (bytes : List ℕ) → slice_get (strings function) i ≡ Some bytes → slice_get linked.objects (length (statics function) + i) ≡ Some (string_object bytes)
  pub fresh : (i : ℕ) (d : Declared) (object : Object) → slice_get (framed function) i ≡ Some d → IsAlways d object → slice_get linked.function.fresh i ≡ Some object
  pub in_frame : (i : ℕ) (object : Object) → slice_get linked.function.fresh i ≡ Some object → slice_get linked.objects (length (statics function) + (length (strings function) + i)) ≡ Some object
  pub as_many : length linked.function.fresh ≡ length (framed function)
  pub in_all : length linked.objects ≡ length (statics function) + (length (strings function) + length (framed function))
  pub at : linked.function.frame ≡ frame base function

abbrev pub FunctionsHaveObjects : Type 0
FunctionsHaveObjects = (numbers : Routines) (own : ℕ) (outer : Scope) (base : ℕ) (function : CFunction) → HasItsObjects (linked_function numbers own outer base function) base function

-- what the names in scope of a function stand for
pub record NamesAreKnown (numbers : Routines) (outer : Scope) (base : ℕ) (function : CFunction) : Type 0 where
  pub lasting : (i : ℕ) (d : Declared) → AreDistinct (names_of (statics function)) → slice_get (statics function) i ≡ Some d → scope_of numbers outer base function d.name ≡ d.stands (base + i)
  pub in_frame : (i : ℕ) (d : Declared) → AreDistinct (names_of (framed function)) → IsNone d.name (names_of (statics function)) → slice_get (framed function) i ≡ Some d →
      scope_of numbers outer base function d.name ≡ d.stands (frame base function + i)
  pub called : (i : ℕ) (name : List ℕ) → slice_get (declared_externs function.locals) i ≡ Some name → IsNone name (names_of (statics function)) → IsNone name (names_of (framed function)) →
      scope_of numbers outer base function name ≡ routine (numbers name)
  pub others : (name : List ℕ) → IsNone name (names_of (statics function)) → IsNone name (names_of (framed function)) → IsNone name (declared_externs function.locals) → scope_of numbers outer base function name ≡ outer name

abbrev pub ScopesAreKnown : Type 0
ScopesAreKnown = (numbers : Routines) (outer : Scope) (base : ℕ) (function : CFunction) → NamesAreKnown numbers outer base function

-- and those of a file
pub record FileNamesAreKnown (numbers : Routines) (objects : List ℕ → Option ℕ) (base : ℕ) (file : CFile) : Type 0 where
  pub constants : (i : ℕ) (d : Declared) → AreDistinct (names_of (declared_constants file.constants)) → slice_get (declared_constants file.constants) i ≡ Some d → file_scope numbers objects base file d.name ≡ d.stands (base + i)
  pub outside : (i : ℕ) (object : CObject) → AreDistinct (names_of_objects file.objects) → IsNone (external object).name (names_of (declared_constants file.constants)) → slice_get file.objects i ≡ Some object →
      file_scope numbers objects base file (external object).name ≡ external_term objects object

abbrev pub FileScopesAreKnown : Type 0
FileScopesAreKnown = (numbers : Routines) (objects : List ℕ → Option ℕ) (base : ℕ) (file : CFile) → FileNamesAreKnown numbers objects base file

-- the numbers of functions: those of the program, and behind them those of the library
abbrev pub OwnAreNumbered : Type 0
OwnAreNumbered = (defined : List (List ℕ)) (k : ℕ) (name : List ℕ) → AreDistinct defined → slice_get defined k ≡ Some name → routines defined name ≡ Some k

abbrev pub BuiltinsAreNumbered : Type 0
BuiltinsAreNumbered = (defined : List (List ℕ)) (k : ℕ) (name : List ℕ) → IsNone name defined → position (bytes_eq name) builtin_names ≡ Some k → routines defined name ≡ Some (length defined + k)

-- ## Functions of built statements

-- a function whose statements are built for items, the last of which is a return; each label stands at one of them alone
pub record IsBuilt (o : Outline) (items : List Flat) (function : CFunction) : Type 0 where
  pub turns : ℕ
  pub statements : statements_for o turns 0 items ≡ Some function.body
  pub ended : ends function.body ≡ true
  pub inside : (n : ℕ) (name : List ℕ) → o.label n ≡ Some name → n < length items
  pub alone : (m n : ℕ) (name : List ℕ) → o.label m ≡ Some name → o.label n ≡ Some name → m ≡ n
  pub none : (n : ℕ) → o.ends_arm n ≡ true → o.label n ≡ None

-- its strings are those that the items pass
abbrev pub StringsAreTheirs : Type 0
StringsAreTheirs = (numbers : Routines) (outer : Scope) (base : ℕ) (function : CFunction) (o : Outline) (items : List Flat) → IsBuilt o items function → KnowsItems (scope_of numbers outer base function) o.names items →
    AreBytesOf o.names (whole_body function.body).items.strings (strings_of_items o.names items)

-- and its code is the items, where their strings have the numbers of those objects
abbrev pub CodeIsTheirs : Type 0
CodeIsTheirs = (numbers : Routines) (own : ℕ) (outer : Scope) (base : ℕ) (function : CFunction) (o : Outline) (items : List Flat) → IsBuilt o items function → KnowsItems (scope_of numbers outer base function) o.names items →
    AreNumbered (first_string base function + length (strings_of (statics function))) (strings_of_items o.names items) → (linked_function numbers own outer base function).function.code ≡ items
