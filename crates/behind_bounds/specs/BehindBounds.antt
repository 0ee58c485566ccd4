-- A lowered text behind what keeps the bounds of dummy arrays when a procedure begins: its steps are numbered from a number on, and so are the places where
-- its statements begin, its labels and its marks. What stands before them takes no part of the text: it keeps nothing, and no branch goes there.
-- ANSI X3.9-1978, sections 5.1.1, 5.5.1 and 11.
use Rattle.std.specs.Prelude.{◌≡◌, ℕ, zero, suc, ◌+◌, ◌<◌, ◌≤◌, List, ◌∷◌, map, length, drop, Option, Some, option_map, slice_get}
use Rattle.procedure_emission.specs.l_core.Pures.{Pure}
use Rattle.procedure_emission.specs.l_core.Steps.{Step, Again, AgainIf, Pass, Marked, Text}
use Rattle.procedure_emission.specs.c_emit.Numbers.{Writing}
use Rattle.procedure_emission.specs.ProcedureItems.{Numbers, procedure_item}

-- steps behind so many that do nothing
unfoldable pub steps_behind : ℕ → List Step → List Step
steps_behind zero steps = steps
steps_behind (suc first) steps = Pass ∷ steps_behind first steps

unfoldable pub position_behind : ℕ → (ℕ → Option ℕ) → ℕ → Option ℕ
position_behind first position label = option_map (λ n. first + n) (position label)

unfoldable pub mark_behind : ℕ → Marked → Marked
mark_behind first one = record { at = first + one.at; mark = one.mark }

abbrev pub behind : ℕ → Text → Text
behind first u = record {
  facts = u.facts;
  steps = steps_behind first u.steps;
  begins = λ i. first + u.begins i;
  position = position_behind first u.position;
  marks = map (mark_behind first) u.marks;
}

-- what is known of a function before a step, where its steps are numbered from 0
abbrev pub writing_behind : ℕ → Writing → Writing
writing_behind first w =
    record w { kind = λ n k. w.kind (first + n) k; library = record w.library { list = λ n. w.library.list (first + n); text = λ n. w.library.text (first + n) } }

-- a step that goes back goes to one of the text
pub record GoesBackWithin (n : ℕ) (st : Step) : Type 0 where
  pub again : (m : ℕ) → st ≡ Again m → m ≤ n
  pub again_if : (p : Pure) (m : ℕ) → st ≡ AgainIf p m → m ≤ n

-- the steps of a text, behind others
pub record StandBehind (first : ℕ) (u : Text) : Type 0 where
  pub places : (n : ℕ) → slice_get (behind first u).steps (first + n) ≡ slice_get u.steps n
  pub before : (n : ℕ) → n < first → slice_get (behind first u).steps n ≡ Some Pass
  pub long : length (behind first u).steps ≡ first + length u.steps
  pub rest : drop first (behind first u).steps ≡ u.steps

-- LAW
abbrev pub StepsStandBehind : Type 0
StepsStandBehind = (first : ℕ) (u : Text) → StandBehind first u

-- LAW
abbrev pub ItemsStandBehind : Type 0
ItemsStandBehind = (numbers : Numbers) (w : Writing) (position : ℕ → Option ℕ) (first n : ℕ) (st : Step) → GoesBackWithin n st →
    procedure_item numbers w (λ m. m) (position_behind first position) (first + n) st ≡ procedure_item numbers (writing_behind first w) (λ m. first + m) position n st

unfoldable pub behind_bounds_opened : Unit {0}
unfolding steps_behind position_behind mark_behind
behind_bounds_opened = tt
