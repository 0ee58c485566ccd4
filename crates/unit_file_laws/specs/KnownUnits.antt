-- That what a function of files of several units goes by is known in it: its names stand for its objects, and for the functions that it calls.
-- C89, 3.1.2.1 and 3.5.4.3.
use Rattle.std.specs.Prelude.{◌≡◌, ℕ, ◌+◌, ◌≤◌, ℤ, Bool, true, false, List, length, position, Option, Some, is_some, slice_get, bytes_eq}
use Rattle.unit_places.specs.f_tree.declared.names.Basic.{Basic}
use Rattle.unit_places.specs.f_tree.declared.names.Class.TheVariants as class
use Rattle.unit_places.specs.f_tree.Values.{Bytes}
use Rattle.unit_places.specs.f_tree.Facts.{Facts}
use Rattle.unit_places.specs.c_tree.declared.types.NumberType.{NumberType}
use Rattle.unit_places.specs.c_tree.declared.types.ParameterType.{ParameterType}
use Rattle.unit_places.specs.c_tree.declared.types.ListType.TheVariants as list_type
use Rattle.unit_places.specs.c_tree.declared.file.CFunction.{CFunction}
use Rattle.unit_places.specs.c_tree.Access.{ToFunction, ToList}
use Rattle.unit_places.specs.c_tree.Terms.{Variable, Routine}
use Rattle.unit_places.specs.c_tree.Builtins.{builtin_names}
use Rattle.unit_places.specs.c_tree.Drafts.{Scope}
use Rattle.unit_places.specs.c_tree.FlatForm.{whole_body}
use Rattle.unit_places.specs.c_tree.Linking.{Routines, file_scope}
use Rattle.unit_places.specs.c_structure.Expressions.{Names}
use Rattle.unit_places.specs.c_image.Addresses.{Through}
use Rattle.unit_places.specs.c_emit.Numbers.{Writing, is_numeric, has_shape}
use Rattle.unit_places.specs.linking_laws.Linked.{AreDistinct, IsNone, scope_of}
use Rattle.unit_places.specs.emitted_names.KnownNames.{IsPlain, IsKnownBy, Calls}
use Rattle.unit_places.specs.procedure_emission.EmittedUnits.{is_number_pointer, is_function_pointer}
use Rattle.unit_places.specs.unit_file.UnitFile.{Variable as Declared, Parameter, Inventory, WrittenUnit, unit_function, place_of_variable, place_of_parameter, place_of_list, lasting_names, framed_names, writing_of}
use Rattle.unit_places.specs.unit_file.UnitNames.{constant_names, called_names, routine_name, names_of}
use Rattle.unit_places.specs.unit_sites.UnitSites.{inventories, Site}
use Rattle.unit_places.specs.UnitPlaces.{file_with}

-- all names are told apart
pub record NamesDiffer (zs : List ℤ) (v : Inventory) : Type 0 where
  pub constants : AreDistinct (constant_names zs)
  pub lasting : AreDistinct (lasting_names v)
  pub framed : AreDistinct (framed_names v)
  pub not_lasting : (i : ℕ) (name : List ℕ) → slice_get (framed_names v) i ≡ Some name → IsNone name (lasting_names v)
  pub not_own : (i : ℕ) (name : List ℕ) → slice_get (constant_names zs) i ≡ Some name → IsNone name (lasting_names v) × IsNone name (framed_names v) × IsNone name (called_names v)
  pub not_objects : (i : ℕ) (name : List ℕ) → slice_get (called_names v) i ≡ Some name → IsNone name (lasting_names v) × IsNone name (framed_names v)

-- a variable of its own, which may be an array
pub record IsVariable (v : Inventory) (x : Bytes) (many : Bool) : Type 0 where
  pub place : ℕ
  pub one : Declared
  pub placed : place_of_variable v x ≡ Some place
  pub at : slice_get v.variables place ≡ Some one
  pub counted : is_some one.count ≡ many

-- a dummy argument, by the type of its parameter
pub record IsParameter (v : Inventory) (x : Bytes) (points : ParameterType → Bool) : Type 0 where
  pub place : ℕ
  pub one : Parameter
  pub placed : place_of_parameter v x ≡ Some place
  pub at : slice_get v.parameters place ≡ Some one
  pub typed : points one.type ≡ true

-- each name is listed as what it is; no result is an array
pub record NamesAreListed (v : Inventory) (facts : Facts) : Type 0 where
  pub stored : (x : Bytes) → (facts.program.attribute x).class ≡ class.Stored → is_numeric (facts.program.attribute x).basic ≡ true → IsVariable v x (has_shape (facts.program.attribute x).dimensions)
  pub dummies : (x : Bytes) → (facts.program.attribute x).class ≡ class.Dummy → is_numeric (facts.program.attribute x).basic ≡ true → IsParameter v x is_number_pointer
  pub procedures : (x : Bytes) → (facts.program.attribute x).class ≡ class.DummyProcedure → IsParameter v x is_function_pointer
  pub results : (x : Bytes) → (facts.program.attribute x).class ≡ class.Result → is_numeric (facts.program.attribute x).basic ≡ true →
      (has_shape (facts.program.attribute x).dimensions ≡ false) × ((type : NumberType) × (v.returned ≡ Some type))

-- what a function goes by, by its site
abbrev pub unit_writing : Site → WrittenUnit → Facts → (ℕ → ℕ → Option Basic) → Writing
unit_writing s w facts kind = writing_of s.constants w.inventory s.bases facts kind

abbrev pub unit_names : List WrittenUnit → Site → WrittenUnit → Names
unit_names ws s w = names_of s.constants (inventories ws) w.inventory s.bases

-- the names in scope of a function, by what functions of its file are in scope around it
abbrev pub scope_in : Routines → (List ℕ → Option ℕ) → List CFunction → Site → WrittenUnit → Scope
scope_in numbers objects functions s w = scope_of numbers (file_scope numbers objects s.bases.file (file_with s.constants functions)) s.bases.function (unit_function w)

-- what is known there, given the units of all files
pub record UnitIsKnown (numbers : Routines) (objects : List ℕ → Option ℕ) (functions : List CFunction) (ws : List WrittenUnit) (s : Site) (w : WrittenUnit) (facts : Facts) (kind : ℕ → ℕ → Option Basic) : Type 0 where
  pub names : IsKnownBy (scope_in numbers objects functions s w) (unit_names ws s w) (unit_writing s w facts kind)
  -- the control lists, and the functions of the library that are called
  pub lists : (n i : ℕ) → place_of_list w.inventory n ≡ Some i → IsPlain (scope_in numbers objects functions s w) (unit_names ws s w) (Variable ((unit_writing s w facts kind).library.list n) (ToList list_type.Transfer))
  pub calls : (i k : ℕ) (name : List ℕ) → slice_get (called_names w.inventory) i ≡ Some name → position (bytes_eq name) builtin_names ≡ Some k → numbers name ≡ Some (length ws + k) →
      Calls (scope_in numbers objects functions s w) (unit_names ws s w) (unit_writing s w facts kind) name
  -- those of other units, and the parameters that point to functions
  pub routines : (i k : ℕ) → slice_get (called_names w.inventory) i ≡ Some (routine_name (inventories ws) k) → numbers (routine_name (inventories ws) k) ≡ Some k →
      scope_in numbers objects functions s w (routine_name (inventories ws) k) ≡ Routine k
  pub pointers : (x : Bytes) (parameter : ℕ) → (facts.program.attribute x).class ≡ class.DummyProcedure → (unit_writing s w facts kind).naming.address x ≡ Through parameter →
      scope_in numbers objects functions s w ((unit_names ws s w).object parameter) ≡ Variable parameter ToFunction

-- LAW
-- where the program has a function for each unit, the constants of the file stand before the objects of the function, and the strings of its statements are as
-- many as are listed
abbrev pub UnitFilesAreKnown : Type 0
UnitFilesAreKnown = (numbers : Routines) (objects : List ℕ → Option ℕ) (functions : List CFunction) (ws : List WrittenUnit) (s : Site) (w : WrittenUnit) (facts : Facts) (kind : ℕ → ℕ → Option Basic) →
    s.bases.own ≡ length ws → s.bases.file + length s.constants ≤ s.bases.function → NamesDiffer s.constants w.inventory → NamesAreListed w.inventory facts → length (whole_body w.body).items.strings ≡ length w.inventory.strings →
    UnitIsKnown numbers objects functions ws s w facts kind
