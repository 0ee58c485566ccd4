-- What the loops of a unit make of each of its statements: the first temporary that no open loop keeps, and the loops that end there.
-- ANSI X3.9-1978, section 11.10.
use Rattle.std.specs.Prelude.{◌≡◌, ℕ, Bool, true, ◌&&◌, List, [], ◌∷◌, map, length, Some, slice_get}
use Rattle.f_tree.specs.declared.statements.Body.{Body}
use Rattle.f_tree.specs.declared.statements.Body.TheOpen as body
use Rattle.f_tree.specs.declared.statements.Stmt.{Stmt}
use Rattle.f_tree.specs.Folds.{layer_of}
use Rattle.f_tree.specs.Facts.{ProgramUnit}
use Rattle.f_tree.specs.Lines.{Naming}
use Rattle.f_tree.specs.Nests.{Range}
use Rattle.expression_lowering.specs.lowering.Units.{free_at, ended_at}
use Rattle.name_facts.specs.declared.table.NameFacts.{NameFacts}
use Rattle.expression_lowering.specs.TableNames.{AreFactsOf}
use Rattle.statement_lowering.specs.LoweredStatements.{control_lowers}
use Rattle.open_loops.specs.declared.places.LoopPlace.{LoopPlace}
use Rattle.open_loops.specs.ReadLines.{IsReadAs}

-- is the control of a DO statement lowered; another statement has none
unfoldable pub loop_lowers : NameFacts → Body → Bool
loop_lowers table b = elim (layer_of b) [ body.Do label control ↦ control_lowers table control | _ ↦ true ]

unfoldable pub loops_lower : NameFacts → List Stmt → Bool
loops_lower table [] = true
loops_lower table (s ∷ ss) = loop_lowers table s.body && loops_lower table ss

-- of a statement: the first temporary that no open loop keeps, and the DO statements of the loops that end with it, the innermost first
pub record IsLoopPlace (p : ProgramUnit) (i : ℕ) (place : LoopPlace) : Type 0 where
  pub free : place.free ≡ free_at p i
  pub ended : place.ended.items ≡ map (λ (r : Range). r.first) (ended_at p i)

pub record AreLoopPlaces (p : ProgramUnit) (places : List LoopPlace) : Type 0 where
  pub count : length places ≡ length p.lines
  pub each : (i : ℕ) (place : LoopPlace) → slice_get places i ≡ Some place → IsLoopPlace p i place

-- whatever the names are of which the table tells
pub record ArePlacesOf (table : NameFacts) (once : Bool) (ss : List Stmt) (places : List LoopPlace) : Type 0 where
  pub meant : (p : ProgramUnit) (names : Naming) → IsReadAs p once names ss → AreFactsOf names table → AreLoopPlaces p places

unfoldable pub loop_places_opened : Unit {0}
unfolding loop_lowers loops_lower
loop_places_opened = tt
