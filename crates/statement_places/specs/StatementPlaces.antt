-- Where the steps of each statement of a unit stand, and what a statement needs to know of the others for its steps. ANSI X3.9-1978, sections 3.5,
-- 11.6 to 11.10 and 15.7.
use Rattle.std.specs.Prelude.{◌≡◌, ℕ, ◌+◌, ◌-◌, Bool, true, ◌&&◌, List, [], ◌∷◌, length, Some, slice_get, if◌then◌else◌}
use Rattle.f_tree.specs.declared.statements.Stmt.{Stmt}
use Rattle.f_tree.specs.Facts.{Arm, Line, ProgramUnit}
use Rattle.f_tree.specs.Lines.{Naming}
use Rattle.f_tree.specs.Nests.{Range}
use Rattle.f_tree.specs.Step.{assigned_in}
use Rattle.lowering.specs.Units.{free_at, all_named, is_named, start_of, own_start, own_end, room_of, block_end_of, ended_at, is_counted, turn_size, way_back}
use Rattle.name_facts.specs.declared.table.NameFacts.{NameFacts}
use Rattle.expression_lowering.specs.TableNames.{AreFactsOf}
use Rattle.statement_lowering.specs.LoweredStatements.{is_lowered_statement}
use Rattle.open_loops.specs.ReadLines.{IsReadAs}
use Rattle.statement_places.specs.declared.places.Turn.{Turn}
use Rattle.statement_places.specs.declared.places.StatementPlace.{StatementPlace}

-- are all statements lowered
unfoldable pub statements_lower : NameFacts → List Stmt → Bool
statements_lower table [] = true
statements_lower table (s ∷ ss) = is_lowered_statement table s.body && statements_lower table ss

-- from which position the way goes back: a loop with a variable gives it its next value first
unfoldable pub back_from : ProgramUnit → Range → ℕ → ℕ
back_from p r from = if is_counted (slice_get p.lines r.first) then way_back p r (from + 1) else way_back p r from

-- the end of a loop: its DO statement, where the steps of its turn stand, and how many steps its way back goes
pub record IsTurn (p : ProgramUnit) (from : ℕ) (r : Range) (turn : Turn) : Type 0 where
  pub first : turn.first ≡ r.first
  pub at : turn.at ≡ from
  pub back : turn.back ≡ back_from p r from

unfoldable pub AreTurns : ProgramUnit → ℕ → List Range → List Turn → Type 0
AreTurns p from [] [] = Unit {0}
AreTurns p from [] (turn ∷ turns) = ⊥
AreTurns p from (r ∷ rs) [] = ⊥
AreTurns p from (r ∷ rs) (turn ∷ turns) = IsTurn p from r turn × AreTurns p (from + turn_size p r) rs turns

pub record IsStatementPlace (p : ProgramUnit) (i : ℕ) (line : Line) (place : StatementPlace) : Type 0 where
  pub free : place.free ≡ free_at p i
  pub named : place.is_named ≡ is_named (all_named p.lines) line.label
  pub start : place.start ≡ start_of p i
  pub begins : place.own_start ≡ own_start p i
  pub ends : place.own_end ≡ own_end p i
  pub room : place.room ≡ room_of p i line
  pub skip : line.mark ≡ Arm → place.skip ≡ start_of p (block_end_of p i) - own_start p i
  pub turns : AreTurns p (own_end p i) (ended_at p i) place.turns.items

pub record AreStatementPlaces (p : ProgramUnit) (places : List StatementPlace) : Type 0 where
  pub count : length places ≡ length p.lines
  pub each : (i : ℕ) (line : Line) (place : StatementPlace) → slice_get p.lines i ≡ Some line → slice_get places i ≡ Some place → IsStatementPlace p i line place

-- whatever the names are of which the table tells, where the ASSIGN statements of the unit name these labels
pub record AreAllPlaces (table : NameFacts) (once : Bool) (assigned : List ℕ) (ss : List Stmt) (places : List StatementPlace) : Type 0 where
  pub lowers : statements_lower table ss ≡ true
  pub meant : (p : ProgramUnit) (names : Naming) → IsReadAs p once names ss → AreFactsOf names table → assigned_in p.lines ≡ assigned → AreStatementPlaces p places

unfoldable pub statement_places_opened : Unit {0}
unfolding statements_lower back_from AreTurns
statement_places_opened = tt
