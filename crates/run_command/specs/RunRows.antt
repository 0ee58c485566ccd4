-- How a command that runs C files ends: with each exit status its cause, what was said on Fault, and how the external units stand (C89, 3.7; CSTR 149,
-- appendix on the run time library; ANSI X3.9-1978, 11.12, 12.7 and 12.10.2.1).
use Rattle.std.specs.Prelude.{◌≡◌, ℕ, suc, ◌<◌, ℤ, List, map, Some, None, Ok, Err}
use Rattle.f2c_outside.specs.declared.shelves.Place.{Place}
use Rattle.f2c_outside.specs.declared.shelves.Place.TheVariants.{File}
use Rattle.f2c_outside.specs.Shelf.{ShelfState}
use Rattle.f2c_outside.specs.Table.{Row}
use Rattle.f2c_outside.specs.Meaning.{Tells, units_of}
use Rattle.shelf_texts.specs.ShelfLoops.{IsKept}
use Rattle.shelf_texts.specs.Messages.{Said}
use Rattle.source_files.specs.SourceReads.{IsAwayAmong, IsFailedAmong}
use Rattle.c_tree.specs.run_state.Endings.{Ending}
use Rattle.c_tree.specs.declared.outcome.CFault.{CFault}
use Rattle.c_tree.specs.declared.file.CFile.{CFile}
use Rattle.c_tree.specs.FaultNames.{fault_name}
use Rattle.c_tree.specs.Objects.{Object}
use Rattle.c_tree.specs.Linking.{first_broken_rule}
use Rattle.c_tree.specs.Meaning as meaning
use Rattle.c_tree.specs.Meaning.{function_name}
use Rattle.outcomes.specs.Lines.{bad_word_line, not_there_line, shelf_fault_line, no_memory_line}
use Rattle.run_messages.specs.RunLines.{not_c_line, link_line, fault_line, out_of_steps_line, device_line, uncounted_line}
use Rattle.run_reports.specs.Reports.{SaysEnding, ending_status, name_shown}
use Rattle.run_words.specs.declared.request.RunRequest.{RunRequest}
use Rattle.run_words.specs.RunWords.{run_of}
use Rattle.c_sources.specs.CFiles.{AreTreesRead, IsRefusedAmong}
use Rattle.loaded_runs.specs.RunEnds.{units_in, LeavesUnits, CountsInRun, NoDeviceFailed, DeviceFailed}

-- the places that are read
abbrev pub c_places : RunRequest → List Place
c_places request = map File request.files

-- ## Runs

-- the files spell trees, which are linked, and from there the run goes
pub record Runs (words : List (List ℕ)) (request : RunRequest) (files : List CFile) (b middle : ShelfState) : Type 0 where
  pub asked : run_of words ≡ Ok request
  pub trees : AreTreesRead (c_places request) files b middle
  pub rules : first_broken_rule files ≡ None

-- after so many steps over the units of the rows, whose devices tell their records, the run of the definitions stands so, with these units left
pub record StandsAt (files : List CFile) (steps : ℕ) (rows rows' : List Row) (how : meaning.Outcome) : Type 0 where
  pub outcome : meaning.outcome (meaning.meaning files (units_of rows) steps) ≡ how
  pub units : units_in (meaning.meaning files (units_of rows) steps) ≡ Some (units_of rows')

-- it is broken by a fault of this name, in the function of a number: it goes on before one of its steps, and by that step it is broken, which leaves these units, by the
-- call of the library that it makes, if it makes one
pub record IsFaulty (files : List CFile) (steps : ℕ) (rows rows' : List Row) (kind : List ℕ) (number : ℕ) : Type 0 where
  pub fault : CFault
  pub named : kind ≡ fault_name fault
  pub outcome : meaning.outcome (meaning.meaning files (units_of rows) steps) ≡ meaning.Fault fault number
  pub before : ℕ
  pub within : before < steps
  pub goes : meaning.outcome (meaning.meaning files (units_of rows) before) ≡ meaning.Running
  pub breaks : meaning.outcome (meaning.meaning files (units_of rows) (suc before)) ≡ meaning.Fault fault number
  pub units : LeavesUnits files (meaning.meaning files (units_of rows) before) (units_of rows')

-- ## Exit statuses

-- the command ended with a status, where the shelf went from `b` to `a`, and the rows of the unit table from `rows` to `rows'`
pub data RunEnded (words : List (List ℕ)) (rows rows' : List Row) (b a : ShelfState) : ℕ → Type 0 where
  -- 2: the words ask for no run, and the line names the first with which none goes on, or the one that is missing
  bad_word : (number : ℕ) → run_of words ≡ Err number → Said (bad_word_line words number) b a → rows' ≡ rows → RunEnded words rows rows' b a 2
  -- 3: a C file is not there, or the shelf failed while one was read
  not_there : (request : RunRequest) (name : List ℕ) (middle : ShelfState) → run_of words ≡ Ok request → IsAwayAmong (c_places request) name b middle
      → Said (not_there_line name) middle a → rows' ≡ rows → RunEnded words rows rows' b a 3
  unread : (request : RunRequest) (place : Place) (middle : ShelfState) → run_of words ≡ Ok request → IsFailedAmong (c_places request) place b middle
      → Said (shelf_fault_line place) middle a → rows' ≡ rows → RunEnded words rows rows' b a 3
  -- 5: there was no memory, and no run began
  no_memory : (middle : ShelfState) → IsKept b middle → Said no_memory_line middle a → rows' ≡ rows → RunEnded words rows rows' b a 5
  -- 6: all was read, and the first file that spells no tree is refused at this line; or they break a rule of linking, this one first
  not_c : (request : RunRequest) (name : List ℕ) (line : ℕ) (middle : ShelfState) → run_of words ≡ Ok request → IsRefusedAmong (c_places request) name line b middle
      → Said (not_c_line name line) middle a → rows' ≡ rows → RunEnded words rows rows' b a 6
  not_linked : (request : RunRequest) (files : List CFile) (rule : ℕ) (middle : ShelfState) → run_of words ≡ Ok request → AreTreesRead (c_places request) files b middle
      → first_broken_rule files ≡ Some rule → Said (link_line rule) middle a → rows' ≡ rows → RunEnded words rows rows' b a 6
  -- 0, 10 or 12: the run ended: at the end of the main program or by STOP, by an error of input or output, or at a place outside its bounds
  ended : (request : RunRequest) (files : List CFile) (ending : Ending) (middle : ShelfState) → Runs words request files b middle
      → (Tells rows → StandsAt files request.steps rows rows' (meaning.Ended ending)) → NoDeviceFailed rows rows' → SaysEnding ending middle a
      → RunEnded words rows rows' b a (ending_status ending)
  -- 7: it has a fault; where the devices tell their records that is the fault of the definitions, in this function, with the units that it leaves
  faulty : (request : RunRequest) (files : List CFile) (kind : List ℕ) (number : ℕ) (middle : ShelfState) → Runs words request files b middle
      → (Tells rows → IsFaulty files request.steps rows rows' kind number) → NoDeviceFailed rows rows' → Said (fault_line kind (name_shown (function_name files number))) middle a
      → RunEnded words rows rows' b a 7
  -- 8: it did not end within its steps
  out_of_steps : (request : RunRequest) (files : List CFile) (middle : ShelfState) → Runs words request files b middle
      → (Tells rows → StandsAt files request.steps rows rows' meaning.Running) → NoDeviceFailed rows rows' → Said out_of_steps_line middle a
      → RunEnded words rows rows' b a 8
  -- 9: the device of a unit failed, the first in the run, which goes on behind so many steps, or when the devices were finished behind it
  device : (request : RunRequest) (files : List CFile) (unit : ℤ) (taken : ℕ) (objects : List Object) (middle : ShelfState) → Runs words request files b middle
      → DeviceFailed files request.steps taken objects unit rows rows' → Said (device_line unit) middle a → RunEnded words rows rows' b a 9
  -- 15: more was to be counted of a unit than 64 bits tell, in a call on that unit which the run makes behind so many steps, and the unit stands behind 2^53 records or more
  uncounted : (request : RunRequest) (files : List CFile) (taken : ℕ) (middle : ShelfState) → Runs words request files b middle
      → CountsInRun files request.steps taken rows rows' → NoDeviceFailed rows rows' → Said uncounted_line middle a → RunEnded words rows rows' b a 15
