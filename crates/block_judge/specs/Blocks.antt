-- The blocks of the statements of a unit: arms of IF blocks and DO ranges.
use Rattle.std.specs.Prelude.{◌≡◌, ℕ, Bool, false, not, ◌&&◌, ◌||◌, List, length, Option, Some, None}
use Rattle.std.specs.List.{list_any}
use Rattle.f_tree.specs.declared.statements.Stmt.{Stmt}
use Rattle.declaration_rows.specs.BlockRows.{is_in_range, enters_range_of, is_outside_arms}
use Rattle.name_table.specs.Named.{labelled}
use Rattle.loop_ranges.specs.LoopEnds.{labelled_at, unit_ends}
use Rattle.loop_ranges.specs.OpenRanges.{ranges_at}
use Rattle.block_judge.specs.declared.blocks.Blocks.{Blocks}
use Rattle.block_judge.specs.Arms.{arms_in, enters_arm, IsWithin, AreNumbered, AreArms}
use Rattle.block_judge.specs.Ranges.{AreAround}

-- what the code needs to look them up
pub record IsSound (blocks : Blocks) : Type 0 where
  pub numbered : AreNumbered blocks.arms.items
  pub ranges : length blocks.around.items ≡ length blocks.ends.items
  pub statements : length blocks.around.items ≡ length blocks.arms.items
  pub around : AreAround blocks.ends.items blocks.around.items
  pub within : (l : ℕ) → IsWithin (labelled blocks.places l) (length blocks.arms.items)

pub record AreBlocks (ss : List Stmt) (blocks : Blocks) : Type 0 where
  pub arms : AreArms ss blocks.arms.items
  pub ends : blocks.ends.items ≡ unit_ends ss
  pub places : (l : ℕ) → labelled blocks.places l ≡ labelled_at 0 ss l

-- a branch from a statement to the place of a label
unfoldable pub enters_in : List Stmt → ℕ → Option ℕ → Bool
enters_in ss from None = false
enters_in ss from (Some to) = enters_arm ss from to || enters_range_of (ranges_at 0 (unit_ends ss)) from to

unfoldable pub is_outside_in : List Stmt → ℕ → Bool
is_outside_in ss place = is_outside_arms (arms_in ss place) && not (list_any (is_in_range place) (ranges_at 0 (unit_ends ss)))
