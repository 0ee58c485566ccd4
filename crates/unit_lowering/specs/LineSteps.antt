-- The steps of the statements of a unit, given where they stand, what its names are and which labels its ASSIGN statements name. ANSI X3.9-1978, sections 3.5, 11.6 to 11.10 and 15.
use Rattle.std.specs.Prelude.{ℕ, Bool, List, [], ◌∷◌, ◌++◌, Option, Some, option_map, slice_get}
use Rattle.f_tree.specs.declared.statements.LoopControl.{LoopControl}
use Rattle.f_tree.specs.declared.statements.Stmt.{Stmt}
use Rattle.f_tree.specs.Facts.{Mark, Arm}
use Rattle.f_tree.specs.Lines.{Naming, control_of, form_of, mark_of}
use Rattle.lowered_tree.specs.l_core.Steps.{Step, Skip, Again}
use Rattle.lowering.specs.Statements.{loop_operands, turn_code, form_code}
use Rattle.lowering.specs.Units.{pass_code, listed, both_codes}
use Rattle.statement_places.specs.declared.places.Turn.{Turn}
use Rattle.statement_places.specs.declared.places.StatementPlace.{StatementPlace}
use Rattle.unit_lowering.specs.Rows.{joined}
use Rattle.unit_lowering.specs.LineForms.{control_at}

-- an arm that comes to its end passes the others
unfoldable pub skip_steps : Mark → ℕ → List Step
skip_steps Arm n = Skip n ∷ []
skip_steps mark n = []

-- the end of a loop, given the control of its DO statement and where that stands; a DO WHILE has no control
unfoldable pub turn_by : Bool → Naming → ℕ → Option LoopControl → Option StatementPlace → List Step
turn_by once names back (Some control) (Some place) = turn_code once back (loop_operands place.free (control_of names control)).value
turn_by once names back _ _ = Again back ∷ []

unfoldable pub turn_steps : Bool → Naming → List Stmt → List StatementPlace → Turn → List Step
turn_steps once names ss places turn = turn_by once names turn.back (control_at ss turn.first) (slice_get places turn.first)

-- the ends of loops, the innermost first
unfoldable pub turns_steps : Bool → Naming → List Stmt → List StatementPlace → List Turn → List Step
turns_steps once names ss places [] = []
turns_steps once names ss places (turn ∷ turns) = turn_steps once names ss places turn ++ turns_steps once names ss places turns

-- the steps of a statement itself
unfoldable pub own_steps : Bool → List ℕ → Naming → Stmt → StatementPlace → Option (List Step)
own_steps once assigned names s place =
    option_map (λ steps. steps ++ pass_code place.is_named (form_of names s.body)) (form_code once place.free place.room (listed assigned (form_of names s.body)))

-- with those that pass the other arms, and those of the loops that end with it
unfoldable pub line_steps : Bool → List ℕ → Naming → List Stmt → List StatementPlace → Stmt → StatementPlace → Option (List Step)
line_steps once assigned names ss places s place =
    option_map (λ steps. skip_steps (mark_of s.body) place.skip ++ steps ++ turns_steps once names ss places place.turns.items) (own_steps once assigned names s place)

-- nothing where no statement or no place is
unfoldable pub line_by : Bool → List ℕ → Naming → List Stmt → List StatementPlace → Option Stmt → Option StatementPlace → Option (List Step)
line_by once assigned names ss places (Some s) (Some place) = line_steps once assigned names ss places s place
line_by once assigned names ss places _ _ = Some []

unfoldable pub line_at : Bool → List ℕ → Naming → List Stmt → List StatementPlace → ℕ → Option (List Step)
line_at once assigned names ss places i = line_by once assigned names ss places (slice_get ss i) (slice_get places i)

-- the steps of the first statements
unfoldable pub lines_steps : Bool → List ℕ → Naming → List Stmt → List StatementPlace → ℕ → Option (List Step)
lines_steps once assigned names ss places n = joined both_codes (Some []) (line_at once assigned names ss places) n

unfoldable pub line_steps_opened : Unit {0}
unfolding skip_steps turn_by turn_steps turns_steps own_steps line_steps line_by line_at lines_steps
line_steps_opened = tt
