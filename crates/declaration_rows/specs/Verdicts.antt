-- The first refusal of a set of files by the rows of its declarations, of the storage of each unit, and of what its units share: by phase, then
-- file, then card, then number. ANSI X3.9-1978, sections 2.4, 3.5, 8, 9, 17.1 and 18.
use Rattle.std.specs.Prelude.{◌≡◌, nat_lt, nat_eq, Bool, ◌&&◌, ◌||◌, List, [], ◌∷◌, ◌++◌, Option, Some, None, if◌then◌else◌}
use Rattle.fortran_text.specs.f_tree.declared.names.Options.{Options}
use Rattle.fortran_text.specs.f_tree.declared.refusals.Refusal.{Refusal}
use Rattle.fortran_text.specs.f_tree.declared.units.Unit.{Unit as WrittenUnit}
use Rattle.fortran_text.specs.f_tree.declared.units.FileSet.{FileSet}
use Rattle.fortran_text.specs.f_tree.Facts.{ProgramUnit}
use Rattle.fortran_text.specs.f_tree.Lines.{unit_read}
use Rattle.fortran_text.specs.f_tree.RefusalRows.{number_of}
use Rattle.fortran_text.specs.f_tree.RefusalRows.{IsNotAfter}
use Rattle.fortran_text.specs.f_tree.Setting.{Setting, IsSetting, IsIn}
use Rattle.fortran_text.specs.f_tree.Meaning.{units_of}
use Rattle.fortran_text.specs.f_tree.WellFormed.{AreWellFormed}
use Rattle.declaration_rows.specs.GlobalRows.{all_units, units_global_rows, global_rows_opened}
use Rattle.declaration_rows.specs.PlacingRows.{placing_of, is_sound, unit_placing_rows, placing_rows_opened}
use Rattle.declaration_rows.specs.DataRows.{unit_data_rows, data_rows_opened}
use Rattle.declaration_rows.specs.SharedStorageRows.{units_storage_rows, shared_storage_rows_opened}
use Rattle.declaration_rows.specs.SetRows.{set_faults}

-- the rows of the storage of each unit; those of its DATA statements where its names have places
unfoldable pub unit_storage_faults : WrittenUnit → ProgramUnit → List Refusal
unit_storage_faults u p = unit_placing_rows u p ++ (if is_sound (placing_of u p) then unit_data_rows u p (placing_of u p) else [])

unfoldable pub storage_faults_of : Options → List WrittenUnit → List Refusal
storage_faults_of options [] = []
storage_faults_of options (u ∷ us) = unit_storage_faults u (unit_read options u) ++ storage_faults_of options us

unfoldable pub storage_faults : Options → FileSet → List Refusal
storage_faults options set = storage_faults_of options (all_units set.files)

-- the rows of what the units of a set share
unfoldable pub shared_faults : Options → FileSet → List Refusal
shared_faults options set = units_global_rows (all_units set.files) ++ units_storage_rows options (all_units set.files)

-- by file, then card, then number
unfoldable pub is_before : Refusal → Refusal → Bool
is_before r q =
    nat_lt r.file q.file
    || (nat_eq r.file q.file && (nat_lt r.card q.card || (nat_eq r.card q.card && nat_lt (number_of r.kind) (number_of q.kind))))

unfoldable pub earlier : Refusal → Option Refusal → Refusal
earlier r None = r
earlier r (Some q) = if is_before q r then q else r

unfoldable pub first_of : List Refusal → Option Refusal
first_of [] = None
first_of (r ∷ rs) = Some (earlier r (first_of rs))

unfoldable pub or_else : Option Refusal → Option Refusal → Option Refusal
or_else None other = other
or_else (Some r) other = Some r

-- a row of storage is read only where the declarations break none, and one of what the units share only where storage breaks none
unfoldable pub verdict : Options → FileSet → Option Refusal
verdict options set =
    or_else (first_of (set_faults options set)) (or_else (first_of (storage_faults options set)) (first_of (shared_faults options set)))

-- the first of some refusals
pub record IsFirstOf (rs : List Refusal) (r : Refusal) : Type 0 where
  pub is : IsIn r rs
  pub least : (q : Refusal) → IsIn q rs → IsNotAfter r q

-- what a verdict says
pub data IsVerdict (options : Options) (set : FileSet) : Option Refusal → Type 0 where
  declared_badly : (r : Refusal) → IsFirstOf (set_faults options set) r → IsVerdict options set (Some r)
  placed_badly : (r : Refusal) → set_faults options set ≡ [] → IsFirstOf (storage_faults options set) r → IsVerdict options set (Some r)
  shared_badly : (r : Refusal) → set_faults options set ≡ [] → storage_faults options set ≡ [] → IsFirstOf (shared_faults options set) r →
      IsVerdict options set (Some r)
  faultless : set_faults options set ≡ [] → storage_faults options set ≡ [] → shared_faults options set ≡ [] →
      ((g : Setting) → IsSetting (units_of options set) g → AreWellFormed g (units_of options set)) → IsVerdict options set None

-- Each set has a first refusal, or no row holds and it is well formed in each of its settings.
abbrev pub EachSetHasAVerdict : Type 0
EachSetHasAVerdict = (options : Options) (set : FileSet) → IsVerdict options set (verdict options set)

unfoldable pub verdicts_opened : Unit {0}
unfolding placing_rows_opened data_rows_opened global_rows_opened shared_storage_rows_opened unit_storage_faults storage_faults_of storage_faults shared_faults is_before earlier first_of or_else verdict
verdicts_opened = tt
