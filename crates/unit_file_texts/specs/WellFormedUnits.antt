-- That the C files of units that call each other are well formed: some tokens spell each. C89, 3.1.2, 3.5, 3.6 and 3.7.
use Rattle.std.specs.List.{list_all}
use Rattle.std.specs.Prelude.{◌≡◌, ◌<◌, ◌≤◌, ◌^◌, ℕ, suc, nat_le, ℤ, Bool, true, List, ◌++◌, map, length, Some, unwrap_or, slice_get}
use Rattle.main_file_texts.specs.f_tree.Values.{in_range}
use Rattle.main_file_texts.specs.f_tree.CNames as fortran
use Rattle.main_file_texts.specs.f_tree.CNames.{variable_name}
use Rattle.c_spelling.specs.c_tree.Tokens.{begins_with, is_letter}
use Rattle.c_spelling.specs.c_tree.CWords.{is_name}
use Rattle.c_spelling.specs.c_tree.CText.{WellFormed}
use Rattle.main_file_texts.specs.linking_laws.Linked.{AreDistinct, IsNone}
use Rattle.main_file_texts.specs.main_file.MainFile.{temporary_names}
use Rattle.unit_programs.specs.unit_file.UnitFile.{Variable, Listing, Parameter, KeptBound, Inventory, bound_name, result_names, lasting_names}
use Rattle.unit_programs.specs.unit_file.UnitNames.{constant_names, called_names, own_names}
use Rattle.unit_programs.specs.unit_sites.UnitSites.{UnitsOfFile, file_for, inventories}
use Rattle.unit_programs.specs.TranslatedUnits.{Rendering, written_of, IsTranslatedSet}

-- the names that a function declares, in their order: its parameters, then the variable for its result, temporaries, kept bounds, functions, variables and control lists
abbrev pub parameter_words : Inventory → List (List ℕ)
parameter_words v = map (λ (p : Parameter). variable_name p.name) v.parameters

abbrev pub local_words : Inventory → List (List ℕ)
local_words v = result_names v.returned ++ (temporary_names 1 v.temporaries ++ (map bound_name v.bounds ++ (called_names v ++ lasting_names v)))

-- an array has an element
abbrev pub has_elements : Variable → Bool
has_elements one = nat_le 1 (unwrap_or one.count 1)

-- the unit of an output has 32 bits
abbrev pub is_short : Listing → Bool
is_short l = in_range l.unit

-- what C asks besides of a function: each name that it declares and each label is one of C, what it calls is declared once, and an array has an element
pub record IsSpellable (r : Rendering) : Type 0 where
  pub names : list_all is_name (parameter_words r.written.inventory ++ local_words r.written.inventory) ≡ true
  pub labels : (n : ℕ) (name : List ℕ) → r.outline.label n ≡ Some name → is_name name ≡ true
  pub calls : AreDistinct (called_names r.written.inventory)
  pub elements : list_all has_elements r.written.inventory.variables ≡ true
  pub outputs : list_all is_short r.written.inventory.lists ≡ true

-- and of the file: the name of each constant and each function is one of C, and no function is called as a constant
pub record AreSpellable (constants : List ℤ) (rs : List Rendering) : Type 0 where
  pub functions : (j : ℕ) (r : Rendering) → slice_get rs j ≡ Some r → IsSpellable r
  pub names : list_all is_name (constant_names constants ++ own_names (inventories (written_of rs))) ≡ true
  pub apart : (i : ℕ) (name : List ℕ) → slice_get (constant_names constants) i ≡ Some name → IsNone name (own_names (inventories (written_of rs)))

-- what becomes of the units of a file, of which there are some: they stand one behind the other among all
pub record AreOfOneFile (rs : List Rendering) (f : UnitsOfFile) (part : List Rendering) : Type 0 where
  pub before : List Rendering
  pub behind : List Rendering
  pub whole : rs ≡ before ++ (part ++ behind)
  pub some : 1 ≤ length part
  pub written : written_of part ≡ f.units
  pub constants : (i : ℕ) (r : Rendering) → slice_get part i ≡ Some r → r.site.constants ≡ f.constants

-- LAW
-- the name of what is kept of a dummy array is one of C, where that of the array is one of FORTRAN
abbrev pub BoundsAreNamed : Type 0
BoundsAreNamed = (one : KeptBound) → begins_with is_letter one.dummy ≡ true → fortran.is_name one.dummy ≡ true → suc one.place < 2 ^ 64 → is_name (bound_name one) ≡ true

-- LAW
-- each file of translated units is well formed
abbrev pub UnitFilesAreWellFormed : Type 0
UnitFilesAreWellFormed = (fs : List UnitsOfFile) (rs : List Rendering) → IsTranslatedSet fs rs → (f : UnitsOfFile) (part : List Rendering) → AreOfOneFile rs f part → AreSpellable f.constants part → WellFormed (file_for f)
