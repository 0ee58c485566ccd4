-- That units that call each other run as their C files do. ANSI X3.9-1978, sections 2.4, 14 and 15; C89, 3.1.2.2.
use Rattle.std.specs.Prelude.{◌≡◌, ℕ, List, Some}
use Rattle.emitted_procedures.specs.run_state.Units.{Units}
use Rattle.emitted_procedures.specs.f_tree.Values.{NoMeaning}
use Rattle.emitted_procedures.specs.f_tree.Meaning.{ftn, act_of}
use Rattle.emitted_procedures.specs.faithful.Faithful.{SameRuns}
use Rattle.unit_file_laws.specs.unit_sites.UnitSites.{UnitsOfFile, files_of}
use Rattle.unit_programs.specs.OwnStorage.{own_setting}
use Rattle.unit_programs.specs.TranslatedUnits.{Rendering, units_of, IsTranslatedSet}

-- LAW
-- each run of the units that comes to no form without meaning is the run of the files
abbrev pub UnitProgramsRunAlike : Type 0
UnitProgramsRunAlike = (fs : List UnitsOfFile) (rs : List Rendering) → IsTranslatedSet fs rs → (units : Units) (n : ℕ) → (act_of (ftn (own_setting (units_of rs)) (units_of rs) units n) ≡ Some NoMeaning → ⊥) →
    SameRuns (units_of rs) (own_setting (units_of rs)) (files_of fs) units n
