-- What is said of the first range act of a run.
use Rattle.std.specs.Prelude.{◌≡◌, ℕ, ◌<◌, List, Option, Some}
use Rattle.f_tree.specs.run_state.Endings.{Report}
use Rattle.f_tree.specs.run_state.Units.{Units}
use Rattle.f_tree.specs.Facts.{ProgramUnit}
use Rattle.f_tree.specs.Setting.{Setting}
use Rattle.f_tree.specs.RangeActs.{IsFirstRangeAct, range}

-- a run has one at most
abbrev pub FirstRangeActIsOne : Type 0
FirstRangeActIsOne = (g : Setting) (S : List ProgramUnit) (units : Units) (n m : ℕ) (r q : Report) →
    IsFirstRangeAct g S units n r → IsFirstRangeAct g S units m q → (n ≡ m) × (r ≡ q)

-- what is computed over so many steps is the first range act, where it comes within them
abbrev pub ComputedIsFirst : Type 0
ComputedIsFirst = (g : Setting) (S : List ProgramUnit) (units : Units) (m : ℕ) (r : Report) → range g S units m ≡ Some r →
    (n : ℕ) × (n < m) × IsFirstRangeAct g S units n r

abbrev pub FirstIsComputed : Type 0
FirstIsComputed = (g : Setting) (S : List ProgramUnit) (units : Units) (n m : ℕ) (r : Report) → IsFirstRangeAct g S units n r → n < m → range g S units m ≡ Some r
