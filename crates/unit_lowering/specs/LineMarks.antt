-- The marks of the statements of a unit, given where their steps stand. ANSI X3.9-1978, sections 11.6 to 11.10; MIL-STD-1753 for DO WHILE.
use Rattle.std.specs.Prelude.{ℕ, ◌-◌, nat_eq, Bool, true, false, List, [], ◌∷◌, ◌++◌, Option, Some, None, is_some, slice_get, if◌then◌else◌}
use Rattle.f_tree.specs.declared.statements.Stmt.{Stmt}
use Rattle.f_tree.specs.Facts as fact
use Rattle.f_tree.specs.Lines.{mark_of}
use Rattle.lowered_tree.specs.l_core.Steps.{Marked, Card, OpensLoop, OpensLoopOnce, ClosesLoop, OpensWhile, ClosesWhile, OpensArm, NextArm, ClosesArm}
use Rattle.lowering.specs.Units.{marked}
use Rattle.lowered_text.specs.declared.text.Marked as tree
use Rattle.lowered_text.specs.Texts.{marked_of}
use Rattle.statement_places.specs.declared.places.Turn.{Turn}
use Rattle.statement_places.specs.declared.places.StatementPlace.{StatementPlace}
use Rattle.unit_lowering.specs.declared.forms.LoopForm.{LoopForm}
use Rattle.unit_lowering.specs.declared.forms.LoopForm.TheVariants as form
use Rattle.unit_lowering.specs.Rows.{joined}
use Rattle.unit_lowering.specs.LineForms.{form_in, control_at}

-- a mark, if there is one
unfoldable pub marks_of : Option tree.Marked → List Marked
marks_of None = []
marks_of (Some m) = marked_of m ∷ []

unfoldable pub arm_marks : fact.Mark → StatementPlace → List Marked
arm_marks fact.Opens place = marked place.own_end (OpensArm ∷ [])
arm_marks fact.Arm place = marked place.own_start (NextArm ∷ [])
arm_marks fact.Closes place = marked place.start (ClosesArm ∷ [])
arm_marks fact.Plain place = []

-- the card of a statement that has steps
unfoldable pub card_marks : ℕ → StatementPlace → List Marked
card_marks card place = if nat_eq place.own_start place.own_end then [] else marked place.own_start (Card card ∷ [])

-- a loop that is tested first stands behind its test
unfoldable pub loop_marks : Bool → LoopForm → StatementPlace → List Marked
loop_marks true form.Counted place = marked place.own_end (OpensLoopOnce ∷ [])
loop_marks false form.Counted place = marked (place.own_end - 1) (OpensLoop ∷ [])
loop_marks once form.Tested place = marked place.own_start (OpensWhile ∷ [])
loop_marks once form.Other place = []

unfoldable pub turn_marks : List Stmt → Turn → List Marked
turn_marks ss turn = marked turn.at ((if is_some (control_at ss turn.first) then ClosesLoop else ClosesWhile) ∷ [])

-- the ends of loops, the innermost first
unfoldable pub turns_marks : List Stmt → List Turn → List Marked
turns_marks ss [] = []
turns_marks ss (turn ∷ turns) = turn_marks ss turn ++ turns_marks ss turns

unfoldable pub line_marks : Bool → List Stmt → Stmt → StatementPlace → List Marked
line_marks once ss s place =
    arm_marks (mark_of s.body) place ++ card_marks s.card place ++ loop_marks once (form_in s.body) place ++ turns_marks ss place.turns.items

-- nothing where no statement or no place is
unfoldable pub line_by : Bool → List Stmt → Option Stmt → Option StatementPlace → List Marked
line_by once ss (Some s) (Some place) = line_marks once ss s place
line_by once ss _ _ = []

unfoldable pub line_at : Bool → List Stmt → List StatementPlace → ℕ → List Marked
line_at once ss places i = line_by once ss (slice_get ss i) (slice_get places i)

-- the marks of the first statements
unfoldable pub lines_marks : Bool → List Stmt → List StatementPlace → ℕ → List Marked
lines_marks once ss places n = joined (λ before here. before ++ here) [] (line_at once ss places) n

unfoldable pub line_marks_opened : Unit {0}
unfolding marks_of arm_marks card_marks loop_marks turn_marks turns_marks line_marks line_by line_at lines_marks
line_marks_opened = tt
