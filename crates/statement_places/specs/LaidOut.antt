-- What is known of the statements of a unit once their steps are counted.
use Rattle.std.specs.Prelude.{◌≡◌, ℕ, ◌<◌, Bool, List, length, Option, Some, None, slice_get, slice_index_or}
use Rattle.f_tree.specs.declared.names.Options.{Options}
use Rattle.f_tree.specs.declared.statements.Stmt.{Stmt}
use Rattle.f_tree.specs.declared.units.Unit.{Unit as WrittenUnit}
use Rattle.f_tree.specs.Lines.{unit_read}
use Rattle.name_facts.specs.declaration_rows.UnitRows.{range_to, range_in}
use Rattle.name_table.specs.declared.LabelTable.{LabelTable}
use Rattle.open_loops.specs.declared.places.LoopPlace.{LoopPlace}
use Rattle.statement_places.specs.declared.sizes.Size.{Size}
use Rattle.statement_places.specs.declared.layout.Layout.{Layout}
use Rattle.statement_places.specs.declared.places.StatementPlace.{StatementPlace}
use Rattle.statement_places.specs.NextArms.{next_from}
use Rattle.statement_places.specs.StepPositions.{ArePositions}
use Rattle.statement_places.specs.StepWays.{IsPlaceIn}

-- where the loop of each statement of a unit ends
pub record AreEnds (u : WrittenUnit) (ends : List (Option ℕ)) : Type 0 where
  pub ranges : (options : Options) (i : ℕ) (s : Stmt) → i < length u.statements → range_to i (slice_index_or ends i None) ≡ range_in (unit_read options u) i (slice_index_or u.statements i s).body

pub record IsLaidOut (once : Bool) (u : WrittenUnit) (loops : List LoopPlace) (named : LabelTable (Unit {0})) (sizes : List Size) (layout : Layout) : Type 0 where
  pub once_is : layout.once ≡ once
  pub loops_are : layout.loops.items ≡ loops
  pub named_are : layout.named ≡ named
  pub positions : ArePositions sizes layout.positions
  pub arms : layout.arms.items ≡ next_from 0 u.statements
  pub ends : AreEnds u layout.ends.items

pub record ArePlacesIn (ss : List Stmt) (layout : Layout) (places : List StatementPlace) : Type 0 where
  pub count : length places ≡ length ss
  pub each : (i : ℕ) (place : StatementPlace) → slice_get places i ≡ Some place → (s : Stmt) → slice_get ss i ≡ Some s → IsPlaceIn ss layout i s place
