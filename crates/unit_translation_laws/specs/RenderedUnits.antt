-- What becomes of plain units where functions are made for them: each is translated, and its function stands in the file of its unit. ANSI X3.9-1978, sections 2.4
-- and 15.
use Rattle.std.specs.Prelude.{◌≡◌, ℕ, List, Some, slice_get}
use Rattle.unit_translation.specs.unit_sites.UnitSites.{UnitsOfFile}
use Rattle.unit_translation.specs.UnitContents.{LoweredUnit, inventory_of}
use Rattle.unit_translation.specs.UnitBodies.{all_lowered, unit_outline, written_files}
use Rattle.unit_programs.specs.TranslatedUnits.{Rendering, IsTranslatedSet}
use Rattle.unit_translation_laws.specs.PlainUnits.{ArePlainUnits}

-- what became of one of the units of all files
pub record IsRenderingOf (all : List LoweredUnit) (j : ℕ) (r : Rendering) : Type 0 where
  pub unit : LoweredUnit
  pub at : slice_get all j ≡ Some unit
  pub text : r.text ≡ unit.text
  pub inventory : r.written.inventory ≡ inventory_of all unit
  pub outline : r.outline ≡ unit_outline all r.site unit

-- and of all, with the functions that are written for them in their files
pub record AreRendered (lfs : List (List LoweredUnit)) (fs : List UnitsOfFile) : Type 0 where
  pub renderings : List Rendering
  pub translated : IsTranslatedSet fs renderings
  pub each : (j : ℕ) (r : Rendering) → slice_get renderings j ≡ Some r → IsRenderingOf (all_lowered lfs) j r

-- LAW
abbrev pub PlainUnitsAreRendered : Type 0
PlainUnitsAreRendered = (lfs : List (List LoweredUnit)) (fs : List UnitsOfFile) → ArePlainUnits (all_lowered lfs) → written_files lfs ≡ Some fs → AreRendered lfs fs
