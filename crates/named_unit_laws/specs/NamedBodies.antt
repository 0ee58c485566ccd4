-- That the functions of units that are made from items by names are those of their lowered texts. ANSI X3.9-1978, sections 10 to 12 and 15; C89, 3.6.
use Rattle.std.specs.Prelude.{◌≡◌, List, Some}
use Rattle.named_units.specs.unit_sites.UnitSites.{UnitsOfFile}
use Rattle.named_units.specs.unit_translation.UnitContents.{LoweredUnit}
use Rattle.named_units.specs.unit_translation.UnitBodies.{all_lowered, written_files}
use Rattle.unit_translation_laws.specs.PlainUnits.{ArePlainUnits}
use Rattle.named_units.specs.NamedUnits.{named_files}

-- LAW
-- for plain units both ways make the same functions, in the same files
abbrev pub EachNamedUnitIsAUnit : Type 0
EachNamedUnitIsAUnit = (lfs : List (List LoweredUnit)) (fs : List UnitsOfFile) → ArePlainUnits (all_lowered lfs) → named_files lfs ≡ Some fs → written_files lfs ≡ Some fs
