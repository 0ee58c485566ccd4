-- The storage of units whose names have sequences of their own, and where it stands in the objects of their files. ANSI X3.9-1978, sections 2.11, 5, 8 and
-- 17.1; C89, 3.1.2.4.
use Rattle.std.specs.List.{flat_map}
use Rattle.std.specs.Option.{option_flatten}
use Rattle.std.specs.Prelude.{◌≡◌, ℕ, zero, suc, ◌*◌, ◌<◌, ◌≤◌, true, false, ℤ, List, [], ◌∷◌, ◌++◌, map, length, replicate, Option, Some, None, unwrap_or, slice_get}
use Rattle.emitted_procedures.specs.f_tree.Facts.{Member, ProgramUnit}
use Rattle.emitted_procedures.specs.f_tree.Setting.{Setting}
use Rattle.emitted_procedures.specs.f_tree.Valuing.{elements_of, extent_of}
use Rattle.emitted_procedures.specs.c_tree.Objects.{Object}
use Rattle.emitted_procedures.specs.c_tree.Declarations.{string_object}
use Rattle.emitted_procedures.specs.c_image.World.{World}
use Rattle.emitted_procedures.specs.c_image.Held.{number_object}
use Rattle.emitted_procedures.specs.c_emit.Numbers.{is_numeric}
use Rattle.emitted_procedures.specs.output_laws.ListedOutputs.{list_object}
pub use Rattle.unit_forms.specs.OwnSetting.{own_homes, own_setting}
use Rattle.unit_file_laws.specs.unit_file.UnitFile.{Variable, Listing, Inventory, WrittenUnit, frame_count, place_of_variable}
use Rattle.unit_file_laws.specs.unit_sites.UnitSites.{UnitsOfFile, all_units, inventories, Site, sites_of}

-- ## The storage of a unit

-- the bytes of a variable
abbrev pub bytes_in : Option ℕ → ℕ
bytes_in None = 4
bytes_in (Some count) = 4 * count

-- no COMMON, EQUIVALENCE or DATA; each stored name is a variable of numbers that is listed
pub record HasOwnStorage (unit : ProgramUnit) (v : Inventory) : Type 0 where
  pub blocks : unit.blocks ≡ []
  pub ties : unit.ties ≡ []
  pub images : unit.images ≡ []
  pub listed : (i : ℕ) (m : Member) → slice_get unit.stored i ≡ Some m → (one : Variable) × (slice_get v.variables i ≡ Some one) × (one.name ≡ m.name) × (m.size ≡ bytes_in one.count)
  pub as_many : length v.variables ≡ length unit.stored
  pub small : (i : ℕ) (m : Member) → slice_get unit.stored i ≡ Some m → m.size < 2147483648
  pub first : (i : ℕ) (m : Member) → slice_get unit.stored i ≡ Some m → place_of_variable v m.name ≡ Some i
  pub numbers : (i : ℕ) (m : Member) → slice_get unit.stored i ≡ Some m → is_numeric (unit.attribute m.name).basic ≡ true
  pub wide : (i : ℕ) (m : Member) → slice_get unit.stored i ≡ Some m → (unit.attribute m.name).width ≡ Some 4
  pub within : (i : ℕ) (m : Member) → slice_get unit.stored i ≡ Some m → extent_of (elements_of (unit.attribute m.name).bounds) 4 ≤ m.size

-- ## The objects

abbrev pub numbered : ℕ → ℕ → List ℕ
numbered first zero = []
numbered first (suc n) = first ∷ numbered (suc first) n

-- the objects of the variables of all functions, in the order of their sequences
abbrev pub variable_objects : List Site → List WrittenUnit → List ℕ
variable_objects (s ∷ later) (w ∷ ws) = numbered s.bases.function (length w.inventory.variables) ++ variable_objects later ws
variable_objects ss ws = []

-- what the objects of a function hold that no statement defines: control lists and strings
abbrev pub held_of : Inventory → List (Option Object)
held_of v =
    replicate (length v.variables) None
    ++ (map (λ (l : Listing). Some (list_object l.unit)) v.lists ++ (map (λ n. Some (string_object (v.texts n))) v.strings ++ replicate (frame_count v) None))

-- constants of a file, where it has functions
abbrev pub held_numbers : List ℤ → List WrittenUnit → List (Option Object)
held_numbers constants [] = replicate (length constants) None
held_numbers constants ws = map (λ z. Some (number_object z)) constants

-- the objects of a file: its constants, and behind them those of its functions
abbrev pub held_in : UnitsOfFile → List (Option Object)
held_in f = held_numbers f.constants f.units ++ flat_map held_of (inventories f.units)

-- the world before the first step
abbrev pub first_world : List UnitsOfFile → Setting → World
first_world fs g = record {
  homes = slice_get (variable_objects (sites_of fs) (all_units fs));
  size = λ n. unwrap_or (slice_get g.sizes n) 0;
  fixed = λ n. false;
  height = length g.sizes;
  frozen = λ k. option_flatten (slice_get (flat_map held_in fs) k);
}
