-- That the function of a unit has the items that are emitted for the bounds that it keeps and for its lowered text, where its statements are built for
-- them. C89, 3.6.
use Rattle.std.specs.Prelude.{◌≡◌, ℕ, suc, ◌+◌, ◌≤◌, List, [], ◌∷◌, map, length, position, Option, Some, None, slice_get, bytes_eq, codes}
use Rattle.unit_places.specs.f_tree.declared.names.Basic.{Basic}
use Rattle.unit_places.specs.f_tree.Values.{Bytes}
use Rattle.unit_places.specs.f_tree.Facts.{Facts}
use Rattle.unit_places.specs.f_tree.World.{Called, Procedure}
use Rattle.unit_places.specs.l_core.Steps.{Starts, Takes, Finishes, Step, Compute, CallFor, CallSub, Acts, Halt, Text}
use Rattle.unit_places.specs.c_tree.declared.file.CFunction.{CFunction}
use Rattle.unit_places.specs.c_tree.Flat.{Flat}
use Rattle.unit_places.specs.c_tree.Builtins.{builtin_names}
use Rattle.unit_places.specs.c_tree.FlatForm.{whole_body}
use Rattle.unit_places.specs.c_tree.Linking.{Routines, file_scope, linked_function}
use Rattle.unit_places.specs.c_structure.Statements.{Outline}
use Rattle.unit_places.specs.c_structure_laws.Fitting.{KnowsItems}
use Rattle.unit_places.specs.c_emit.LibraryFunctions.{LibraryFunction, library_function}
use Rattle.unit_places.specs.linking_laws.Linked.{IsBuilt}
use Rattle.unit_places.specs.main_file.MainItems.{stops_from}
use Rattle.unit_places.specs.procedure_emission.ProcedureItems.{Numbers}
use Rattle.unit_places.specs.unit_file.UnitFile.{Inventory, WrittenUnit, unit_function, place_of_list}
use Rattle.unit_places.specs.unit_file.UnitNames.{called_names, routine_name}
unfoldable pub use Rattle.unit_places.specs.unit_file.UnitItems.{unit_items, saving_items, whole_items, procedure_called, procedure_passed, procedures_passed, procedures_named, unit_items_opened}
use Rattle.unit_places.specs.unit_file.UnitSavings.{savings_of}
use Rattle.unit_places.specs.unit_sites.UnitSites.{inventories, Site}
use Rattle.unit_places.specs.UnitPlaces.{file_with}
use Rattle.unit_file_laws.specs.KnownUnits.{NamesDiffer, NamesAreListed, unit_writing, unit_names, scope_in}

-- ## What is declared

abbrev pub IsCalled : Inventory → List ℕ → Type 0
IsCalled v name = (i : ℕ) × (slice_get (called_names v) i ≡ Some name)

abbrev pub FunctionIsCalled : Inventory → Option LibraryFunction → Type 0
FunctionIsCalled v None = Unit {0}
FunctionIsCalled v (Some one) = IsCalled v one.name

-- the functions of procedures are declared
abbrev pub AreDeclared : Numbers → List Inventory → Inventory → List Bytes → Type 0
AreDeclared numbers vs v [] = Unit {0}
AreDeclared numbers vs v (x ∷ xs) = ((k : ℕ) → numbers (Procedure x) ≡ Some k → IsCalled v (routine_name vs k)) × AreDeclared numbers vs v xs

-- what a step calls is declared, and its control list is listed
abbrev pub IsListed : Numbers → List Inventory → Facts → Inventory → ℕ → Step → Type 0
IsListed numbers vs c v n (CallFor k callee ps) = AreDeclared numbers vs v (procedures_named c callee.name ps)
IsListed numbers vs c v n (CallSub k x ps) = AreDeclared numbers vs v (procedures_named c x ps)
IsListed numbers vs c v n (Acts (Starts way layout controls) ps m) = IsCalled v (codes "s_wsle") × ((i : ℕ) × (place_of_list v n ≡ Some i))
IsListed numbers vs c v n (Acts Takes ps m) = IsCalled v (codes "do_lio")
IsListed numbers vs c v n (Acts Finishes ps m) = IsCalled v (codes "e_wsle")
IsListed numbers vs c v n (Halt text) = IsCalled v (codes "s_stop")
IsListed numbers vs c v n (Compute k f ps) = FunctionIsCalled v (library_function f)
IsListed numbers vs c v n st = Unit {0}

abbrev pub AreListed : Numbers → List Inventory → Facts → Inventory → ℕ → List Step → Type 0
AreListed numbers vs c v n [] = Unit {0}
AreListed numbers vs c v n (st ∷ later) = IsListed numbers vs c v n st × AreListed numbers vs c v (suc n) later

-- ## The function

-- a lowered text, its items, and the statements that are built for them, given the units of all files and the site of this one
pub record IsUnitBuilt (numbers : Numbers) (ws : List WrittenUnit) (s : Site) (w : WrittenUnit) (u : Text) (kind : ℕ → ℕ → Option Basic) (o : Outline) (items : List Flat) : Type 0 where
  pub differ : NamesDiffer s.constants w.inventory
  pub names_listed : NamesAreListed w.inventory u.facts
  pub listed : AreListed numbers (inventories ws) u.facts w.inventory 0 u.steps
  pub stops : w.inventory.strings ≡ stops_from 0 u.steps
  pub names : o.names ≡ unit_names ws s w
  pub emitted : whole_items numbers (unit_writing s w u.facts kind) u.position (savings_of w.inventory s.bases) u.steps ≡ Some items
  pub built : IsBuilt o items (unit_function w)
  pub as_many : length (whole_body w.body).items.strings ≡ length w.inventory.strings

-- what is called has its number: functions of the library behind those of the program
pub record AreNumbered (routines : Routines) (numbers : Numbers) (ws : List WrittenUnit) (v : Inventory) : Type 0 where
  pub library : (name : List ℕ) (k : ℕ) → IsCalled v name → position (bytes_eq name) builtin_names ≡ Some k → routines name ≡ Some (length ws + k)
  pub own : (called : Called) (k : ℕ) → numbers called ≡ Some k → routines (routine_name (inventories ws) k) ≡ Some k

-- whatever functions of its file are in scope around it, the names of its items are known, and its code is the items; its statements have as many, and its
-- strings are those that are listed
pub record HasItsItems (routines : Routines) (objects : List ℕ → Option ℕ) (own : ℕ) (s : Site) (w : WrittenUnit) (o : Outline) (items : List Flat) : Type 0 where
  pub known : (functions : List CFunction) → KnowsItems (scope_in routines objects functions s w) o.names items
  pub code : (functions : List CFunction) → (linked_function routines own (file_scope routines objects s.bases.file (file_with s.constants functions)) s.bases.function (unit_function w)).function.code ≡ items
  pub size : (whole_body w.body).size ≡ length items
  pub strings : (whole_body w.body).items.strings ≡ map w.inventory.texts w.inventory.strings

-- LAW
-- where the program has a function for each unit, and the constants of the file stand before the objects of the function
abbrev pub UnitsHaveTheirItems : Type 0
UnitsHaveTheirItems = (routines : Routines) (objects : List ℕ → Option ℕ) (own : ℕ) (numbers : Numbers) (ws : List WrittenUnit) (s : Site) (w : WrittenUnit) (u : Text) (kind : ℕ → ℕ → Option Basic) (o : Outline) (items : List Flat) →
    s.bases.own ≡ length ws → s.bases.file + length s.constants ≤ s.bases.function → AreNumbered routines numbers ws w.inventory → IsUnitBuilt numbers ws s w u kind o items → HasItsItems routines objects own s w o items

unfoldable pub built_units_opened : Unit {0}
unfolding unit_items_opened
built_units_opened = tt
