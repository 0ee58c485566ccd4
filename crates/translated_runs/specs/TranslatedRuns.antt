-- How the command that runs C files ends on the texts of a translation, where the run of the FORTRAN files has ended. ANSI X3.9-1978, sections 11.12, 11.14,
-- 12.7 and 12.10.2.1; C89, 2.1.2.2.
use Rattle.std.specs.Prelude.{◌≡◌, ℕ, ◌*◌, ◌≤◌, ℤ, List, [], length, Some, Ok}
use Rattle.std.specs.List.{All}
use Rattle.ended_runs.specs.faithful.simulation.Machine.{Frame, Over}
use Rattle.ended_runs.specs.faithful.run_state.Endings.{Ending, Plain, Stop, Io, Range}
use Rattle.ended_runs.specs.faithful.run_state.Units.{Units}
use Rattle.ended_runs.specs.faithful.UnitsAtStart.{IsUnits}
use Rattle.ended_runs.specs.faithful.Faithful.{Faithful}
use Rattle.ended_runs.specs.f_tree.declared.names.Options.{Options}
use Rattle.ended_runs.specs.f_tree.declared.units.File.{File}
use Rattle.ended_runs.specs.f_tree.Facts.{ProgramUnit}
use Rattle.ended_runs.specs.f_tree.Setting.{Setting, IsSetting}
use Rattle.ended_runs.specs.f_tree.World as fortran
use Rattle.ended_runs.specs.f_tree.Meaning.{units_in, ftn, Closed}
use Rattle.ended_runs.specs.c_tree.declared.file.CFile.{CFile}
use Rattle.ended_runs.specs.c_tree.Objects.{Object}
use Rattle.ended_runs.specs.c_tree.Linking.{first_broken_rule}
use Rattle.ended_runs.specs.c_tree.Meaning.{step_factor}
use Rattle.f2c_outside.specs.declared.shelves.Place.TheVariants.{Fault}
use Rattle.f2c_outside.specs.Shelf.{ShelfState, Contents, Quiet, added}
use Rattle.f2c_outside.specs.Table.{Row}
use Rattle.f2c_outside.specs.Meaning.{Tells, units_of}
use Rattle.source_files.specs.SourceOnShelf.{files_on, HasPlaces}
use Rattle.c_sources.specs.CTexts.{most_bytes}
use Rattle.outcomes.specs.Lines.{no_memory_line}
use Rattle.run_messages.specs.RunLines.{link_line, io_line, range_line, stop_line, device_line, uncounted_line}
use Rattle.run_words.specs.declared.request.RunRequest.{RunRequest}
use Rattle.run_words.specs.RunWords.{run_of}
use Rattle.loaded_runs.specs.RunEnds.{CountsInRun, NoDeviceFailed, DeviceFailed}
use Rattle.run_reports.specs.Reports.{ending_status}
use Rattle.run_command.specs.RunRows.{c_places, RunEnded}

-- ## The FORTRAN run, and the texts

-- over these external units the run of a set has ended so after some steps, and leaves these units
pub record FortranEnds (program : List ProgramUnit) (units : Units) (steps : ℕ) (ending : Ending) (left : Units) : Type 0 where
  pub setting : Setting
  pub is_setting : IsSetting program setting
  pub procedures : List (Frame fortran.fortran_sorts)
  pub world : fortran.World
  pub over : ftn setting program units steps ≡ Over ending procedures world
  pub units_left : world.units ≡ left

-- the files that a command names are on the shelf and hold these texts, none of which is longer than a C file may be
pub record HoldTexts (request : RunRequest) (texts : List (List ℕ)) (contents : Contents) : Type 0 where
  pub there : HasPlaces (c_places request) contents
  pub held : files_on contents (c_places request) ≡ texts
  pub short : All (λ text. length text ≤ most_bytes) texts

-- ## How the command ended

-- what is said of an ending: nothing of the end of the main program, nor of STOP without a text
abbrev pub ending_line : Ending → List ℕ
ending_line Plain = []
ending_line (Stop text) = stop_line text
ending_line (Io number) = io_line number
ending_line (Range report) = range_line report

-- how a run of the files with these trees ended, which might take so many steps: what was said and the exit status, where the rows of the unit table went from `rows`
-- to `rows'`
pub data EndsWith (trees : List CFile) (steps : ℕ) (ending : Ending) (left : Units) (rows rows' : List Row) : List ℕ → ℕ → Type 0 where
  -- as the FORTRAN run, and with its units
  alike : units_of rows' ≡ left → NoDeviceFailed rows rows' → EndsWith trees steps ending left rows rows' (ending_line ending) (ending_status ending)
  -- there was no memory, and no run began
  no_memory : rows' ≡ rows → EndsWith trees steps ending left rows rows' no_memory_line 5
  -- the program has more bytes than one may have, and no run began
  too_large : first_broken_rule trees ≡ Some 4 → rows' ≡ rows → EndsWith trees steps ending left rows rows' (link_line 4) 6
  -- the device of a unit failed, in the run of the files or when the devices were finished behind it
  device : (unit : ℤ) (taken : ℕ) (objects : List Object) → DeviceFailed trees steps taken objects unit rows rows'
      → EndsWith trees steps ending left rows rows' (device_line unit) 9
  -- more was to be counted of a unit than 64 bits tell, in a call on it in the run of the files, and it stands behind 2^53 records or more
  uncounted : (taken : ℕ) → CountsInRun trees steps taken rows rows' → NoDeviceFailed rows rows' → EndsWith trees steps ending left rows rows' uncounted_line 15

-- it ended so, and the shelf holds what it held, with what was said on Fault besides
pub record RunEndsAlike (trees : List CFile) (steps : ℕ) (ending : Ending) (left : Units) (rows rows' : List Row) (contents : Contents) (after : ShelfState) (status : ℕ)
    : Type 0 where
  pub line : List ℕ
  pub ends : EndsWith trees steps ending left rows rows' line status
  pub said : after.told ≡ Some (added Fault line contents)

-- ## The law

-- The command runs files that hold texts which are faithful to a closed set. The shelf tells what it holds and fails in no call, and the devices tell their
-- records. Where the FORTRAN run over the units of the table has ended, and the command may take the step factor times as many steps, it ends alike.
abbrev pub RunsOfTranslationsEndAlike : Type 0
RunsOfTranslationsEndAlike =
    (options : Options) (trees : List File) (texts : List (List ℕ)) (faithful : Faithful options trees texts) → Closed (units_in options trees)
    → (words : List (List ℕ)) (request : RunRequest) → run_of words ≡ Ok request
    → (b a : ShelfState) (contents : Contents) → b.told ≡ Some contents → Quiet b.faults a.faults → HoldTexts request texts contents
    → (rows rows' : List Row) → Tells rows → IsUnits (units_of rows)
    → (n : ℕ) (ending : Ending) (left : Units) → FortranEnds (units_in options trees) (units_of rows) n ending left
    → step_factor faithful.c_trees * n ≤ request.steps
    → (status : ℕ) → RunEnded words rows rows' b a status → RunEndsAlike faithful.c_trees request.steps ending left rows rows' contents a status
