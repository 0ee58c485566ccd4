-- What a set of FORTRAN files means: the run of its main program over its units.
-- ANSI X3.9-1978, sections 2.4, 2.13 and 14 (main program), 15 (subprograms) and 17.
use Rattle.std.specs.Prelude.{◌≡◌, ℕ, suc, ℤ, Bool, true, false, ◌&&◌, ◌||◌, List, [], ◌∷◌, ◌++◌, map, bytes_eq, Option, Some, None, slice_get, IsTrue, if◌then◌else◌}
use Rattle.f_tree.specs.declared.names.Options.{Options}
use Rattle.f_tree.specs.declared.units.FileSet.{FileSet}
use Rattle.f_tree.specs.declared.units.File.{File}
use Rattle.simulation.specs.Machine.{Program, State, Runs, Over, Broken, run, begun, machine_opened}
use Rattle.run_state.specs.Units.{Units, UnitState}
use Rattle.f_tree.specs.Values.{Bytes, Act, values_opened, Checked, Gives, Fails}
use Rattle.f_tree.specs.Terms.{AsSubroutine, terms_opened}
use Rattle.f_tree.specs.Store.{Store, store_opened}
use Rattle.f_tree.specs.Facts.{UnitKind, MainProgram, SubroutineUnit, FunctionUnit, EntryPoint, ProgramUnit, Facts}
use Rattle.f_tree.specs.Valuing.{valuing_opened}
use Rattle.f_tree.specs.World.{World, Called, TheMain, Procedure, Passed, Ending, fortran_sorts, world_opened}
use Rattle.f_tree.specs.Places.{places_opened}
use Rattle.f_tree.specs.Association.{association_opened}
use Rattle.f_tree.specs.FormatChoice.{format_choice_opened}
use Rattle.f_tree.specs.Records.{records_opened}
use Rattle.f_tree.specs.Statuses.{statuses_opened}
use Rattle.f_tree.specs.Transfers.{transfers_opened}
use Rattle.f_tree.specs.UnitStatements.{unit_statements_opened}
use Rattle.f_tree.specs.Step.{fortran, step_opened}
use Rattle.f_tree.specs.Attributes.{no_facts, attributes_opened}
use Rattle.f_tree.specs.Folds.{folds_opened}
use Rattle.f_tree.specs.Reading.{reading_opened}
use Rattle.f_tree.specs.Uses.{uses_opened}
use Rattle.f_tree.specs.Images.{image_store, undefined_store, images_opened}
use Rattle.f_tree.specs.Lines.{unit_read, lines_opened}
use Rattle.f_tree.specs.Setting.{Setting, unit_home, setting_opened}

-- the program units of a set, file by file
unfoldable pub units_in : Options → List File → List ProgramUnit
units_in options [] = []
units_in options (f ∷ fs) = map (unit_read options) f.units ++ units_in options fs

unfoldable pub units_of : Options → FileSet → List ProgramUnit
units_of options set = units_in options set.files

unfoldable pub is_main : UnitKind → Bool
is_main MainProgram = true
is_main _ = false

unfoldable pub has_entry : List EntryPoint → Bytes → Bool
has_entry [] x = false
has_entry (e ∷ es) x = bytes_eq e.name x || has_entry es x

-- does a unit answer to a name
unfoldable pub answers_to : Called → ProgramUnit → Bool
answers_to TheMain u = is_main u.kind
answers_to (Procedure x) u = elim u.kind [ SubroutineUnit ↦ has_entry u.entries x | FunctionUnit ↦ has_entry u.entries x | _ ↦ false ]

unfoldable pub found_from : ℕ → List ProgramUnit → Called → Option ℕ
found_from k [] name = None
found_from k (u ∷ us) name = if answers_to name u then Some k else found_from (suc k) us name

unfoldable pub facts_at : Setting → ℕ → Option ProgramUnit → Facts
facts_at g k None = no_facts
facts_at g k (Some u) = record { program = u; home = unit_home g k u }

-- the set as the texts of a machine
unfoldable pub program : Setting → List ProgramUnit → Program fortran_sorts
program g S = record { find = found_from 0 S; text = λ k. facts_at g k (slice_get S k) }

-- what is shared when the run begins; a DATA statement that is not as it must be is refused, and defines nothing here
unfoldable pub world_with : Setting → Units → Checked Store → World
world_with g units (Gives s) = record { store = s; units = units; transfer = None }
world_with g units (Fails act) = record { store = undefined_store g; units = units; transfer = None }

unfoldable pub start_world : Setting → List ProgramUnit → Units → World
start_world g S units = world_with g units (image_store g S)

abbrev pub RunState : Type 0
RunState = State Ending fortran_sorts

unfoldable pub call_of_main : Passed
call_of_main = record { want = AsSubroutine; actuals = []; result = None }

-- the main program is active, and nothing is done yet
unfoldable pub started : Setting → List ProgramUnit → Units → RunState
started g S units = begun fortran (program g S) TheMain call_of_main (start_world g S units)

-- The FORTRAN meaning: the state after n steps.
unfoldable pub ftn : Setting → List ProgramUnit → Units → ℕ → RunState
ftn g S units n = run fortran (program g S) n (started g S units)

-- a set with one main program, in which each procedure that is referenced or passed is a subroutine, a function or an entry
unfoldable pub mains : List ProgramUnit → ℕ
mains [] = 0
mains (u ∷ us) = if is_main u.kind then suc (mains us) else mains us

unfoldable pub is_found : Option ℕ → Bool
is_found None = false
is_found (Some k) = true

unfoldable pub all_found : List ProgramUnit → List Bytes → Bool
all_found S [] = true
all_found S (x ∷ xs) = is_found (found_from 0 S (Procedure x)) && all_found S xs

unfoldable pub all_references_found : List ProgramUnit → List ProgramUnit → Bool
all_references_found S [] = true
all_references_found S (u ∷ us) = all_found S u.references && all_references_found S us

pub record Closed (S : List ProgramUnit) : Type 0 where
  pub one_main : mains S ≡ 1
  pub found : IsTrue (all_references_found S S)

-- what is seen of a state: how it ended, the act that broke it, and the records of a unit
unfoldable pub ending_of : RunState → Option Ending
ending_of (Runs k v rest w) = None
ending_of (Over e frames w) = Some e
ending_of (Broken act ks) = None

unfoldable pub act_of : RunState → Option Act
act_of (Runs k v rest w) = None
act_of (Over e frames w) = None
act_of (Broken act ks) = Some act

unfoldable pub records_in : Option UnitState → List (List ℕ)
records_in None = []
records_in (Some unit) = unit.records

unfoldable pub records_of : ℤ → RunState → List (List ℕ)
records_of unit (Runs k v rest w) = records_in (w.units.connected unit)
records_of unit (Over e frames w) = records_in (w.units.connected unit)
records_of unit (Broken act ks) = []

-- `unfolding everything` opens every definition of the meaning, for a run that is computed
unfoldable pub everything : Unit {0}
unfolding machine_opened folds_opened images_opened values_opened terms_opened store_opened valuing_opened world_opened places_opened association_opened statuses_opened records_opened format_choice_opened transfers_opened unit_statements_opened step_opened attributes_opened reading_opened uses_opened lines_opened setting_opened units_in units_of is_main has_entry answers_to found_from facts_at program world_with start_world call_of_main started ftn mains is_found all_found all_references_found ending_of act_of records_in records_of
everything = tt
