-- The first range act of a run: the report of an element or a substring out of its declared bounds, where that is the act of which
-- nothing is said. ANSI X3.9-1978, sections 5.4.2 (subscript expressions) and 5.7.2 (substring expressions).
use Rattle.std.specs.Prelude.{◌≡◌, ℕ, zero, suc, ℤ, pos, List, [], ◌∷◌, codes, Option, Some, None, slice_get}
use Rattle.simulation.specs.Machine.{Runs, Over, Broken, next}
use Rattle.run_state.specs.Endings.{Report}
use Rattle.run_state.specs.Units.{Units}
use Rattle.f_tree.specs.Values.{Bytes, Act, OutOfBounds}
use Rattle.f_tree.specs.Facts.{MainProgram, EntryPoint, Line, ProgramUnit}
use Rattle.f_tree.specs.World.{View}
use Rattle.f_tree.specs.Setting.{Setting}
use Rattle.f_tree.specs.Step.{fortran}
use Rattle.f_tree.specs.Meaning.{RunState, facts_at, program, started, ftn}

-- the name of a unit, in lower case; that of the main program is MAIN__
unfoldable pub own_name : List EntryPoint → Bytes
own_name [] = []
own_name (e ∷ es) = e.name

unfoldable pub name_of_unit : ProgramUnit → Bytes
name_of_unit u = elim u.kind [ MainProgram ↦ codes "MAIN__" | _ ↦ own_name u.entries ]

-- what is told: the variable, the subscript or the place that is out of bounds, the unit, and the card of the statement
unfoldable pub report_at : Bytes → ℤ → Bytes → Option Line → Option Report
report_at x z unit None = None
report_at x z unit (Some line) = Some (record { variable = x; number = z; unit = unit; card = pos line.card })

-- an act that a procedure of a unit meets
unfoldable pub reported : ProgramUnit → View → Act → Option Report
reported u v (OutOfBounds x z) = report_at x z (name_of_unit u) (slice_get u.lines v.at)
reported u v _ = None

-- a step from one state of a run to the next
unfoldable pub reported_between : Setting → List ProgramUnit → RunState → RunState → Option Report
reported_between g S (Runs k v rest w) (Broken act ks) = reported (facts_at g k (slice_get S k)).program v act
reported_between g S _ _ = None

-- The first range act: the run is defined for n steps, and at the next one settles an element or a substring out of its bounds.
pub record IsFirstRangeAct (g : Setting) (S : List ProgramUnit) (units : Units) (n : ℕ) (report : Report) : Type 0 where
  pub meets : reported_between g S (ftn g S units n) (ftn g S units (suc n)) ≡ Some report

-- the same computed, over so many steps from a state
unfoldable pub or_later : Option Report → Option Report → Option Report
or_later (Some report) later = Some report
or_later None later = later

unfoldable pub range_from : Setting → List ProgramUnit → RunState → ℕ → Option Report
range_from g S state zero = None
range_from g S state (suc n) = or_later (reported_between g S state (next fortran (program g S) state)) (range_from g S (next fortran (program g S) state) n)

-- The report of the first range act of a run within so many steps: none where the act of which nothing is said is another one.
unfoldable pub range : Setting → List ProgramUnit → Units → ℕ → Option Report
range g S units n = range_from g S (started g S units) n

unfoldable pub range_acts_opened : Unit {0}
unfolding own_name name_of_unit report_at reported reported_between or_later range_from range
range_acts_opened = tt
