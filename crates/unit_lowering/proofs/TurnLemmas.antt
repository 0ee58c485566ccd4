-- The steps of the ends of loops, as they are appended, and what is not lowered.
use Rattle.std.proofs.Common.{◌≡◌, ℕ, zero, suc, Bool, true, false, ◌&&◌, List, [], ◌∷◌, ◌++◌, Option, Some, None, slice_get, Result, Ok, Err, OnOk, refl, sym, ap, ◌∙◌}
use Rattle.f_tree.specs.declared.statements.Body.{Body, IfOne', more_of-Body}
use Rattle.f_tree.specs.declared.statements.Body as whole
use Rattle.f_tree.specs.declared.statements.LoopControl.{LoopControl}
use Rattle.f_tree.specs.declared.statements.Stmt.{Stmt}
use Rattle.f_tree.specs.Folds.{folds_opened}
use Rattle.f_tree.specs.Lines.{Naming, control_of}
use Rattle.lowered_tree.specs.l_core.Steps.{Again}
use Rattle.lowering.specs.Statements.{loop_operands, turn_code}
use Rattle.lowered_tree.specs.declared.steps.Step as tree
use Rattle.lowered_tree.specs.Shapes.{steps_of}
use Rattle.name_facts.specs.declared.table.NameFacts.{NameFacts}
use Rattle.expression_lowering.specs.declared.answers.LowerError.{LowerError}
use Rattle.expression_lowering.specs.declared.answers.LowerError.TheVariants.{NotLowered, NoMemory}
use Rattle.expression_lowering.specs.TableNames.{AreFactsOf}
use Rattle.statement_lowering.specs.LoweredStatements.{control_lowers, layer_lowers, is_lowered_statement}
use Rattle.statement_lowering.specs.LoopTurns.{IsTurnOutcome}
use Rattle.statement_places.specs.declared.places.Turn.{Turn}
use Rattle.statement_places.specs.declared.places.StatementPlace.{StatementPlace}
use Rattle.statement_places.specs.StatementPlaces.{statements_lower}
use Rattle.unit_lowering.specs.LineForms.{control_in, control_of_line, control_at}
use Rattle.unit_lowering.specs.LineSteps.{turn_by, turn_steps, turns_steps}

-- WHAT IS NOT LOWERED
refused_first : (a b : Bool) → a ≡ false → (a && b) ≡ false
refused_first false b h = refl
refused_first true b h = absurd (cc)

pub refused_then : (a b : Bool) → b ≡ false → (a && b) ≡ false
refused_then false b h = refl
refused_then true b h = h

lowers_at : (table : NameFacts) (ss : List Stmt) (i : ℕ) (s : Stmt) → slice_get ss i ≡ Some s → is_lowered_statement table s.body ≡ false → statements_lower table ss ≡ false
unfolding statements_lower
lowers_at table [] i s there refused = absurd (cc)
lowers_at table (x ∷ xs) zero s there refused =
    refused_first (is_lowered_statement table x.body) (statements_lower table xs)
    (let same : x ≡ s = cc in ap (λ (y : Stmt). is_lowered_statement table y.body) same ∙ refused)
lowers_at table (x ∷ xs) (suc i) s there refused =
    refused_then (is_lowered_statement table x.body) (statements_lower table xs) (lowers_at table xs i s there refused)

either_refused : (a b : Bool) → (a ≡ false → b ≡ false) → (a && b) ≡ false → b ≡ false
either_refused false b one h = one refl
either_refused true b one h = h

-- a statement is not lowered, or another is not
pub lowers_with : (table : NameFacts) (ss : List Stmt) (i : ℕ) (s : Stmt) → Some s ≡ slice_get ss i →
    (is_lowered_statement table s.body && statements_lower table ss) ≡ false → statements_lower table ss ≡ false
lowers_with table ss i s there =
    either_refused (is_lowered_statement table s.body) (statements_lower table ss) (lowers_at table ss i s (sym there))

control_is : (table : NameFacts) (b : Body) (control : LoopControl) → control_in b ≡ Some control → is_lowered_statement table b ≡ control_lowers table control
unfolding control_in is_lowered_statement layer_lowers folds_opened
control_is table (whole.Do label c) control is = let same : c ≡ control = cc in ap (control_lowers table) same
control_is table (IfOne' e s (more_of-Body b r)) control is = absurd (cc)
control_is table _ control is = absurd (cc)

control_refused : (table : NameFacts) (ss : List Stmt) (i : ℕ) (o : Option Stmt) (control : LoopControl) → slice_get ss i ≡ o → control_of_line o ≡ Some control →
    control_lowers table control ≡ false → statements_lower table ss ≡ false
unfolding control_of_line
control_refused table ss i None control there is refused = absurd (cc)
control_refused table ss i (Some s) control there is refused = lowers_at table ss i s there (control_is table s.body control is ∙ refused)

-- THE END OF A LOOP
pub turn_refused : (table : NameFacts) (once : Bool) (k n : ℕ) (ss : List Stmt) (i : ℕ) (control : LoopControl) (before after : List tree.Step) (r : Result (Unit {0}) LowerError) →
    Some control ≡ control_at ss i → IsTurnOutcome table once k n control before after r → r ≡ Err NotLowered → statements_lower table ss ≡ false
unfolding IsTurnOutcome control_at
turn_refused table once k n ss i control before after (Ok a) is said none = absurd (cc)
turn_refused table once k n ss i control before after (Err NotLowered) is said none = control_refused table ss i (slice_get ss i) control refl (sym is) said.0
turn_refused table once k n ss i control before after (Err NoMemory) is said none = absurd (cc)

turn_there : (once : Bool) (names : Naming) (n : ℕ) (a : Option LoopControl) (b : Option StatementPlace) (control : LoopControl) (place : StatementPlace) →
    Some control ≡ a → Some place ≡ b → turn_code once n (loop_operands place.free (control_of names control)).value ≡ turn_by once names n a b
unfolding turn_by
turn_there once names n a b control place is stands = ap (λ o. turn_by once names n o (Some place)) is ∙ ap (turn_by once names n a) stands

pub turn_added : (table : NameFacts) (once : Bool) (ss : List Stmt) (places : List StatementPlace) (turn : Turn) (control : LoopControl) (place : StatementPlace)
    (before after : List tree.Step) (r : Result (Unit {0}) LowerError) → Some control ≡ control_at ss turn.first → Some place ≡ slice_get places turn.first →
    IsTurnOutcome table once place.free turn.back control before after r →
    OnOk r ((names : Naming) → AreFactsOf names table → steps_of after ≡ steps_of before ++ turn_steps once names ss places turn)
unfolding IsTurnOutcome turn_steps
turn_added table once ss places turn control place before after (Ok a) is stands said = λ names told.
    said.meant names told ∙ ap (λ xs. steps_of before ++ xs) (turn_there once names turn.back (control_at ss turn.first) (slice_get places turn.first) control place is stands)
turn_added table once ss places turn control place before after (Err e) is stands said = tt

again_by : (once : Bool) (names : Naming) (n : ℕ) (a : Option LoopControl) → turn_by once names n a None ≡ Again n ∷ []
unfolding turn_by
again_by once names n None = refl
again_by once names n (Some control) = refl

-- the loop of a DO WHILE
pub turn-uncounted : (once : Bool) (names : Naming) (ss : List Stmt) (places : List StatementPlace) (turn : Turn) → None ≡ control_at ss turn.first →
    Again turn.back ∷ [] ≡ turn_steps once names ss places turn
unfolding turn_steps turn_by
turn-uncounted once names ss places turn none = ap (λ o. turn_by once names turn.back o (slice_get places turn.first)) none

-- a loop whose DO statement has no place
pub turn-unplaced : (once : Bool) (names : Naming) (ss : List Stmt) (places : List StatementPlace) (turn : Turn) → None ≡ slice_get places turn.first →
    Again turn.back ∷ [] ≡ turn_steps once names ss places turn
unfolding turn_steps
turn-unplaced once names ss places turn none =
    sym (again_by once names turn.back (control_at ss turn.first)) ∙ ap (turn_by once names turn.back (control_at ss turn.first)) none

pub turns_steps-none : (once : Bool) (names : Naming) (ss : List Stmt) (places : List StatementPlace) → turns_steps once names ss places [] ≡ []
unfolding turns_steps
turns_steps-none once names ss places = refl

pub turns_steps-more : (once : Bool) (names : Naming) (ss : List Stmt) (places : List StatementPlace) (turn : Turn) (turns : List Turn) →
    turns_steps once names ss places (turn ∷ turns) ≡ turn_steps once names ss places turn ++ turns_steps once names ss places turns
unfolding turns_steps
turns_steps-more once names ss places turn turns = refl
