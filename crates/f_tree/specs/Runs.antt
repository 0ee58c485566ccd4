-- What is said of one run of a set that stands in one file: at which step it ends and how, and which
-- records unit 6 has then. Unit 5 holds the records given, unit 6 holds none.
use Rattle.std.specs.Prelude.{◌≡◌, ℕ, suc, ◌+◌, pos, Bool, true, false, ◌&&◌, ◌||◌, not, bytes_eq, IsTrue, List, [], ◌∷◌, ◌++◌, map, length, Option, Some, None, if◌then◌else◌}
use Rattle.std.specs.Ordering.{int_eq}
use Rattle.f_tree.specs.declared.names.Options.{Options}
use Rattle.f_tree.specs.declared.units.File.{File}
use Rattle.f_tree.specs.declared.units.FileSet.{FileSet}
use Rattle.run_state.specs.Units.{Units, UnitState}
use Rattle.f_tree.specs.Values.{Bytes, Act}
use Rattle.f_tree.specs.Facts.{Home, Member, ProgramUnit}
use Rattle.f_tree.specs.Attributes.{is_not_empty}
use Rattle.f_tree.specs.World.{Ending}
use Rattle.f_tree.specs.Setting.{Setting, IsSetting}
use Rattle.simulation.specs.Machine.{next}
use Rattle.f_tree.specs.Step.{fortran}
use Rattle.f_tree.specs.Meaning.{RunState, program, ftn, units_of, ending_of, act_of, records_of}

abbrev pub no_options : Options
no_options = record { undeclared = false; onetrip = false; long_cards = false; checks = false }

abbrev pub with_records : List (List ℕ) → UnitState
with_records records = record { records = records; position = 0; end_mark = false; zero_blanks = false }

-- the two standard units
abbrev pub standard_units : List (List ℕ) → Units
standard_units input = record {
  connected = λ unit. if int_eq unit (pos 5) then Some (with_records input) else if int_eq unit (pos 6) then Some (with_records []) else None;
  drawer = [];
}

-- A set without common blocks and EQUIVALENCE: each stored name has a sequence of its own, in first-seen order.
unfoldable pub homes_apart : ℕ → List Member → List Home
homes_apart n [] = []
homes_apart n (m ∷ ms) = record { sequence = n; first = 0 } ∷ homes_apart (suc n) ms

unfoldable pub all_homes_apart : ℕ → List ProgramUnit → List (List Home)
all_homes_apart n [] = []
all_homes_apart n (u ∷ us) = homes_apart n u.stored ∷ all_homes_apart (n + length u.stored) us

unfoldable pub all_sizes : List ProgramUnit → List ℕ
all_sizes [] = []
all_sizes (u ∷ us) = map (λ m. m.size) u.stored ++ all_sizes us

unfoldable pub setting_apart : List ProgramUnit → Setting
setting_apart S = record { homes = all_homes_apart 0 S; sizes = all_sizes S }

-- No unit has a common block or an EQUIVALENCE, and no stored name of a unit stands twice.
unfoldable pub is_named_in : Bytes → List Member → Bool
is_named_in x [] = false
is_named_in x (m ∷ ms) = bytes_eq x m.name || is_named_in x ms

unfoldable pub names_differ : List Member → Bool
names_differ [] = true
names_differ (m ∷ ms) = not (is_named_in m.name ms) && names_differ ms

unfoldable pub shares_nothing : ProgramUnit → Bool
shares_nothing u = not (is_not_empty u.blocks) && (not (is_not_empty u.ties) && names_differ u.stored)

unfoldable pub share_nothing : List ProgramUnit → Bool
share_nothing [] = true
share_nothing (u ∷ us) = shares_nothing u && share_nothing us

-- of such a set, each name in a sequence of its own is the setting
abbrev pub ApartIsASetting : Type 0
ApartIsASetting = (S : List ProgramUnit) → IsTrue (share_nothing S) → IsSetting S (setting_apart S)

-- all of these sets are such
unfoldable pub all_share_nothing : List FileSet → Bool
all_share_nothing [] = true
all_share_nothing (set ∷ sets) = share_nothing (units_of no_options set) && all_share_nothing sets

-- the run ends at step n + 1 and not before
pub record Runs (options : Options) (set : FileSet) (g : Setting) (input : List (List ℕ)) (n : ℕ) (ending : Ending) (output : List (List ℕ)) : Type 0 where
  pub goes_on : ending_of (ftn g (units_of options set) (standard_units input) n) ≡ None
  pub ends : ending_of (ftn g (units_of options set) (standard_units input) (suc n)) ≡ Some ending
  pub wrote : records_of (pos 6) (ftn g (units_of options set) (standard_units input) (suc n)) ≡ output

-- the run meets an act at step n + 1 and not before
pub record Meets (options : Options) (set : FileSet) (g : Setting) (input : List (List ℕ)) (n : ℕ) (act : Act) : Type 0 where
  pub goes_on : act_of (ftn g (units_of options set) (standard_units input) n) ≡ None
  pub meets : act_of (ftn g (units_of options set) (standard_units input) (suc n)) ≡ Some act

-- what a run comes to: how it ends, and the records of unit 6 then
pub record Outcome : Type 0 where
  pub ending : Ending
  pub records : List (List ℕ)

unfoldable pub outcome_by : Option Ending → List (List ℕ) → Option Outcome
outcome_by None records = None
outcome_by (Some ending) records = Some (record { ending = ending; records = records })

unfoldable pub outcome_of : RunState → Option Outcome
outcome_of state = outcome_by (ending_of state) (records_of (pos 6) state)

-- the standard units, and files without records that can be opened by their names
abbrev pub units_with : List (List ℕ) → List (List ℕ) → Units
units_with input names = record (standard_units input) { drawer = map (λ x. record { name = x; records = []; position = 0 }) names }

-- the run ends, and comes to this
pub record Ends (options : Options) (set : FileSet) (g : Setting) (units : Units) (ending : Ending) (output : List (List ℕ)) : Type 0 where
  pub steps : ℕ
  pub comes_to : outcome_of (ftn g (units_of options set) units steps) ≡ Some (record { ending = ending; records = output })

-- the same of a set whose names stand apart
abbrev pub RunsApart : Options → FileSet → List (List ℕ) → ℕ → Ending → List (List ℕ) → Type 0
RunsApart options set = Runs options set (setting_apart (units_of options set))

abbrev pub MeetsApart : Options → FileSet → List (List ℕ) → ℕ → Act → Type 0
MeetsApart options set = Meets options set (setting_apart (units_of options set))

-- the state after one more step is one step on, and a run that has ended or met an act stays so
abbrev pub GoesByStep : Type 0
GoesByStep = (g : Setting) (S : List ProgramUnit) (units : Units) (n : ℕ) → ftn g S units (suc n) ≡ next fortran (program g S) (ftn g S units n)

abbrev pub EndingStays : Type 0
EndingStays = (g : Setting) (S : List ProgramUnit) (units : Units) (n : ℕ) (e : Ending) →
    ending_of (ftn g S units n) ≡ Some e → ftn g S units (suc n) ≡ ftn g S units n

abbrev pub ActStays : Type 0
ActStays = (g : Setting) (S : List ProgramUnit) (units : Units) (n : ℕ) (act : Act) →
    act_of (ftn g S units n) ≡ Some act → ftn g S units (suc n) ≡ ftn g S units n

-- where the stored names of the units of a set of files stand leaves no choice
abbrev pub EachFileSetHasOneSetting : Type 0
EachFileSetHasOneSetting = (options : Options) (set : FileSet) (g h : Setting) → IsSetting (units_of options set) g → IsSetting (units_of options set) h → g ≡ h

unfoldable pub runs_opened : Unit {0}
unfolding is_named_in names_differ shares_nothing share_nothing all_share_nothing outcome_by outcome_of homes_apart all_homes_apart all_sizes setting_apart
runs_opened = tt
