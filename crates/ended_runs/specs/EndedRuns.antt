-- How the run of C texts stands where the run of the FORTRAN files to which they are faithful has ended. ANSI X3.9-1978, sections 11.12, 11.14 and 12.7;
-- C89, 2.1.2.2.
use Rattle.std.specs.Prelude.{◌≡◌, ℕ, ◌*◌, ◌≤◌, List}
use Rattle.faithful.specs.simulation.Machine.{Frame, State, Over}
use Rattle.faithful.specs.run_state.Units.{Units}
use Rattle.faithful.specs.run_state.Endings.{Ending}
use Rattle.faithful.specs.f_tree.declared.names.Options.{Options}
use Rattle.faithful.specs.f_tree.declared.units.File.{File}
use Rattle.faithful.specs.f_tree.Setting.{Setting, IsSetting}
use Rattle.faithful.specs.f_tree.World as fortran
use Rattle.faithful.specs.f_tree.Meaning.{units_in, ftn, Closed}
use Rattle.faithful.specs.c_tree.declared.file.CFile.{CFile}
use Rattle.faithful.specs.c_tree.Meaning.{meaning, step_factor}
use Rattle.faithful.specs.c_tree.Steps.{sorts}
use Rattle.faithful.specs.c_tree.World as c
use Rattle.faithful.specs.UnitsAtStart.{IsUnits}
use Rattle.faithful.specs.Faithful.{Faithful, SpellAll}

-- a run of C files has ended so, and leaves these external units
pub record HasEnded (ending : Ending) (units : Units) (state : State Ending sorts) : Type 0 where
  pub functions : List (Frame sorts)
  pub world : c.World
  pub over : state ≡ Over ending functions world
  pub units_left : world.units ≡ units

-- Texts that are faithful to a closed set run as it does: whatever files the texts spell, and from whatever external units on, where the FORTRAN run has
-- ended after `n` steps, the run of the files has ended the same way, and leaves the same units, after the step factor times as many steps and after any more.
abbrev pub TranslatedRunsEndAlike : Type 0
TranslatedRunsEndAlike =
    (options : Options) (trees : List File) (texts : List (List ℕ)) (files : List CFile) → Faithful options trees texts → SpellAll texts files
    → Closed (units_in options trees) → (homes : Setting) → IsSetting (units_in options trees) homes → (units : Units) → IsUnits units
    → (n : ℕ) (ending : Ending) (procedures : List (Frame fortran.fortran_sorts)) (world : fortran.World)
    → ftn homes (units_in options trees) units n ≡ Over ending procedures world
    → (steps : ℕ) → step_factor files * n ≤ steps → HasEnded ending world.units (meaning files units steps)
