-- Units by their places: what is plain of each, and that the functions that are written for each file have the inventories of its units.
-- ANSI X3.9-1978, section 2.4.
use Rattle.std.specs.Prelude.{◌≡◌, ℕ, ◌+◌, ℤ, List, [], ◌∷◌, ◌++◌, map, length, Some, slice_get}
use Rattle.std.proofs.Common.{refl, sym, ap, ◌∙◌, subst}
use Rattle.std.proofs.lemmas.List.{map-append}
use Rattle.std.proofs.lemmas.Option.{slice_get-map}
use Rattle.main_faithfulness.specs.f_tree.Facts.{ProgramUnit}
use Rattle.main_faithfulness.proofs.c_emit_laws.Choices.{IsMapped, mapped_by}
use Rattle.main_faithfulness.proofs.linking_laws.Places.{map_at}
use Rattle.unit_translation_laws.specs.unit_file.UnitFile.{Inventory, WrittenUnit, object_count}
use Rattle.unit_translation_laws.specs.unit_sites.UnitSites.{UnitsOfFile, inventories, all_units, behind}
use Rattle.unit_translation_laws.specs.unit_translation.UnitContents.{LoweredUnit, program_units, constants_passed, inventory_of, inventories_of}
use Rattle.unit_translation_laws.specs.unit_translation.UnitBodies.{all_lowered, body_of, written_from, files_from, written_files}
use Rattle.unit_translation_laws.specs.PlainUnits.{HasPlainStorage, ArePlainUnits}
use Rattle.unit_translation_laws.proofs.Renderings.{split, split_files}
use Rattle.unit_faithfulness.proofs.Settings.{HavePlainStorage}

-- ## Units

-- a unit at its place among those that are lowered
pub lowered_at : (us : List LoweredUnit) (k : ℕ) (unit : ProgramUnit) → slice_get (program_units us) k ≡ Some unit → IsMapped (λ (u : LoweredUnit). u.unit) (slice_get us k) unit
lowered_at us k unit at = mapped_by (λ (u : LoweredUnit). u.unit) (slice_get us k) unit (sym (slice_get-map (λ (u : LoweredUnit). u.unit) us k) ∙ at)

pub storage_in : (us : List LoweredUnit) → ArePlainUnits us → HavePlainStorage (program_units us)
storage_in us plain k unit at = let own = lowered_at us k unit at in subst HasPlainStorage own.is (plain.units k own.one own.one_is).storage

-- ## Their functions

same_some : {A : Type 0} (x y : A) → Some x ≡ Some y → x ≡ y
same_some x y h = cc

-- the functions of a file have the inventories of its units
file_inventories : (all : List LoweredUnit) (own file : ℕ) (constants : List ℤ) (function : ℕ) (us : List LoweredUnit) (ws : List WrittenUnit) → written_from all own file constants function us ≡ Some ws →
    inventories ws ≡ map (inventory_of all) us
unfolding written_from
file_inventories all own file constants function [] ws h = ap inventories (sym (same_some [] ws h))
file_inventories all own file constants function (u ∷ later) ws h =
    let s = split (inventory_of all u) (body_of all (record { constants = constants; bases = record { own = own; file = file; function = function } }) u) (written_from all own file constants (function + object_count (inventory_of all u)) later) ws h in
    ap inventories (sym s.is) ∙ ap (λ vs. inventory_of all u ∷ vs) (file_inventories all own file constants (function + object_count (inventory_of all u)) later s.rest s.later_is)

-- the file for some units among all
pub record IsFileFor (all us : List LoweredUnit) (f : UnitsOfFile) : Type 0 where
  pub constants_are : f.constants ≡ constants_passed us
  pub inventories_are : inventories f.units ≡ map (inventory_of all) us

-- a file for those of each
pub data AreFilesFor (all : List LoweredUnit) : List (List LoweredUnit) → List UnitsOfFile → Type 0 where
  none_for : AreFilesFor all [] []
  one_for : (us : List LoweredUnit) (f : UnitsOfFile) (lfs : List (List LoweredUnit)) (fs : List UnitsOfFile) → IsFileFor all us f → AreFilesFor all lfs fs → AreFilesFor all (us ∷ lfs) (f ∷ fs)

files_for : (all : List LoweredUnit) (own first : ℕ) (lfs : List (List LoweredUnit)) (fs : List UnitsOfFile) → files_from all own first lfs ≡ Some fs → AreFilesFor all lfs fs
unfolding files_from
files_for all own first [] fs h = subst (AreFilesFor all []) (same_some [] fs h) none_for
files_for all own first (us ∷ lfs) fs h =
    let constants = constants_passed us in
    let next = behind (first + length constants) (map (inventory_of all) us) in
    let s = split_files constants (written_from all own first constants (first + length constants) us) (files_from all own next lfs) fs h in
    subst (AreFilesFor all (us ∷ lfs)) s.is
    (one_for us (record { constants = constants; units = s.functions }) lfs s.rest
    (record { constants_are = refl; inventories_are = file_inventories all own first constants (first + length constants) us s.functions s.units_are })
    (files_for all own next lfs s.rest s.later_is))

pub files_are : (lfs : List (List LoweredUnit)) (fs : List UnitsOfFile) → written_files lfs ≡ Some fs → AreFilesFor (all_lowered lfs) lfs fs
unfolding written_files
files_are lfs fs written = files_for (all_lowered lfs) (length (all_lowered lfs)) 0 lfs fs written

joined_inventories : (all : List LoweredUnit) (lfs : List (List LoweredUnit)) (fs : List UnitsOfFile) → AreFilesFor all lfs fs → inventories (all_units fs) ≡ map (inventory_of all) (all_lowered lfs)
joined_inventories all _ _ none_for = refl
joined_inventories all _ _ (one_for us f lfs fs is rest) =
    map-append (λ (w : WrittenUnit). w.inventory) f.units (all_units fs)
    ∙ (λ i. is.inventories_are i ++ joined_inventories all lfs fs rest i)
    ∙ sym (map-append (inventory_of all) us (all_lowered lfs))

pub inventories_are : (lfs : List (List LoweredUnit)) (fs : List UnitsOfFile) → written_files lfs ≡ Some fs → inventories (all_units fs) ≡ inventories_of (all_lowered lfs)
inventories_are lfs fs written = joined_inventories (all_lowered lfs) lfs fs (files_are lfs fs written)

-- the unit of a function that is written
pub written_for : (lfs : List (List LoweredUnit)) (fs : List UnitsOfFile) → written_files lfs ≡ Some fs → (k : ℕ) (w : WrittenUnit) → slice_get (all_units fs) k ≡ Some w →
    IsMapped (inventory_of (all_lowered lfs)) (slice_get (all_lowered lfs) k) w.inventory
written_for lfs fs written k w at =
    let all = all_lowered lfs in
    mapped_by (inventory_of all) (slice_get all k) w.inventory
    (sym (slice_get-map (inventory_of all) all k) ∙ ap (λ (vs : List Inventory). slice_get vs k) (sym (inventories_are lfs fs written)) ∙ map_at (λ (one : WrittenUnit). one.inventory) (all_units fs) k w at)
