-- That linking gives to each function of files of several units the objects that are said. C89, 3.1.2.2, 3.1.2.4, 3.5.4.3, 3.5.7 and 3.7.1.
use Rattle.std.specs.Prelude.{◌≡◌, ℕ, ◌+◌, ◌*◌, ◌<◌, ◌≤◌, ℤ, List, [], map, length, Option, Some, None, slice_get}
use Rattle.main_file_laws.specs.c_tree.declared.types.NumberType.{NumberType}
use Rattle.main_file_laws.specs.c_tree.declared.file.CFile.{CFile}
use Rattle.main_file_laws.specs.c_tree.declared.file.CFunction.{CFunction}
use Rattle.main_file_laws.specs.c_tree.Objects.{Object}
use Rattle.main_file_laws.specs.c_tree.Declarations.{filled, unset, number_or_zero, numbers_or_none, parameter_object, string_object}
use Rattle.main_file_laws.specs.c_tree.FlatForm.{whole_body}
use Rattle.main_file_laws.specs.c_tree.Linking as linking
use Rattle.main_file_laws.specs.c_image.Held.{number_object}
use Rattle.unit_sites.specs.output_laws.ListedOutputs.{list_object}
use Rattle.main_file_laws.specs.linking_laws.Linked.{routines_of, outside_of, own_of}
use Rattle.unit_sites.specs.unit_file.UnitFile.{Variable, Listing, Parameter, KeptBound, WrittenUnit, constant_for, unit_function, result_count, frame_count, first_list, first_string, first_parameter}
use Rattle.unit_sites.specs.UnitSites.{UnitsOfFile, files_of, all_units, Site, sites_of}

-- a file of constants and of some functions: those of all its units, or those that stand before one
abbrev pub file_with : List ℤ → List CFunction → CFile
file_with constants functions = record { objects = []; constants = map constant_for constants; functions = functions }

-- the linked function of a unit, by its site and the functions of its file
abbrev pub linked_unit : List UnitsOfFile → List CFunction → Site → WrittenUnit → linking.Function
linked_unit fs functions s w =
    (linking.linked_function (routines_of (files_of fs)) (own_of (files_of fs))
    (linking.file_scope (routines_of (files_of fs)) (outside_of (files_of fs)) s.bases.file (file_with s.constants functions)) s.bases.function (unit_function w)).function

-- the strings that the statements of each unit pass are those that are listed
abbrev pub HaveTheirStrings : List WrittenUnit → Type 0
HaveTheirStrings ws = (j : ℕ) (w : WrittenUnit) → slice_get ws j ≡ Some w → (whole_body w.body).items.strings ≡ map w.inventory.texts w.inventory.strings

-- a variable is 0 at the start (C89, 3.5.7)
abbrev pub variable_object : Option ℕ → Object
variable_object None = filled 4 (number_or_zero None)
variable_object (Some count) = filled (4 * count) (numbers_or_none None)

abbrev pub StandsAs : List UnitsOfFile → ℕ → Object → Type 0
StandsAs fs number object = slice_get (linking.program (files_of fs)).objects number ≡ Some object

-- the function of a unit, and the constants of its file
pub record FunctionStands (fs : List UnitsOfFile) (j : ℕ) (s : Site) (w : WrittenUnit) : Type 0 where
  -- the functions of its file
  pub functions : List CFunction
  pub function_is : slice_get (linking.program (files_of fs)).functions j ≡ Some (linked_unit fs functions s w)
  pub written : slice_get (linking.all_functions (files_of fs)) j ≡ Some (unit_function w)
  pub own : (linked_unit fs functions s w).own ≡ length (all_units fs)
  pub parameters_are : (linked_unit fs functions s w).parameters ≡ map (λ (p : Parameter). p.type) w.inventory.parameters
  -- its frame: parameters, the result, temporaries, and kept bounds
  pub frame : (linked_unit fs functions s w).frame ≡ first_parameter w.inventory s.bases
  pub inside : first_parameter w.inventory s.bases + frame_count w.inventory ≤ length (linking.program (files_of fs)).objects
  pub as_many : length (linked_unit fs functions s w).fresh ≡ frame_count w.inventory
  pub parameter : (i : ℕ) (one : Parameter) → slice_get w.inventory.parameters i ≡ Some one → slice_get (linked_unit fs functions s w).fresh i ≡ Some (parameter_object one.type)
  pub result : (type : NumberType) → w.inventory.returned ≡ Some type → slice_get (linked_unit fs functions s w).fresh (length w.inventory.parameters) ≡ Some (unset 4)
  pub temporary : (k : ℕ) → k < w.inventory.temporaries → slice_get (linked_unit fs functions s w).fresh (length w.inventory.parameters + (result_count w.inventory.returned + k)) ≡ Some (unset 4)
  pub bound : (i : ℕ) (one : KeptBound) → slice_get w.inventory.bounds i ≡ Some one
      → slice_get (linked_unit fs functions s w).fresh (length w.inventory.parameters + (result_count w.inventory.returned + (w.inventory.temporaries + i))) ≡ Some (unset 4)
  -- its objects among those of the program
  pub variable : (i : ℕ) (one : Variable) → slice_get w.inventory.variables i ≡ Some one → StandsAs fs (s.bases.function + i) (variable_object one.count)
  pub list : (i : ℕ) (l : Listing) → slice_get w.inventory.lists i ≡ Some l → StandsAs fs (first_list w.inventory s.bases + i) (list_object l.unit)
  pub string : (i n : ℕ) → slice_get w.inventory.strings i ≡ Some n → StandsAs fs (first_string w.inventory s.bases + i) (string_object (w.inventory.texts n))
  pub in_frame : (i : ℕ) → i < frame_count w.inventory → (object : Object) × StandsAs fs (first_parameter w.inventory s.bases + i) object
  -- the constants of its file, which stand before them
  pub number : (i : ℕ) (z : ℤ) → slice_get s.constants i ≡ Some z → StandsAs fs (s.bases.file + i) (number_object z)
  pub before : s.bases.file + length s.constants ≤ s.bases.function

-- those of all units
pub record HasPlaces (fs : List UnitsOfFile) : Type 0 where
  pub functions : (j : ℕ) (s : Site) (w : WrittenUnit) → slice_get (sites_of fs) j ≡ Some s → slice_get (all_units fs) j ≡ Some w → FunctionStands fs j s w

-- LAW
abbrev pub FunctionsHavePlaces : Type 0
FunctionsHavePlaces = (fs : List UnitsOfFile) → HaveTheirStrings (all_units fs) → HasPlaces fs
