-- Branches and places by the blocks of a unit.
use Rattle.std.proofs.Common.{◌≡◌, ℕ, Bool, false, not, ◌&&◌, ◌||◌, List, Option, Some, None, sym, ap, ◌∙◌}
use Rattle.std.specs.List.{list_any}
use Rattle.f_tree.specs.declared.statements.Stmt.{Stmt}
use Rattle.declaration_rows.specs.BlockRows.{is_in_range, enters_range_of, is_outside_arms}
use Rattle.loop_ranges.specs.LoopEnds.{labelled_at}
use Rattle.loop_ranges.specs.OpenRanges.{ranges_at}
use Rattle.block_judge.specs.declared.blocks.Blocks.{Blocks}
use Rattle.block_judge.specs.Arms.{arms_in, enters_arm}
use Rattle.block_judge.specs.Blocks.{AreBlocks, enters_in, is_outside_in}

pub place_entered : (ss : List Stmt) (blocks : Blocks) (from to : ℕ) (arm range : Bool) → AreBlocks ss blocks → arm ≡ enters_arm ss from to
    → range ≡ enters_range_of (ranges_at 0 blocks.ends.items) from to → (arm || range) ≡ enters_in ss from (Some to)
unfolding enters_in
place_entered ss blocks from to arm range known arm_is range_is =
    ap (λ b. b || range) arm_is ∙ ap (λ b. enters_arm ss from to || b) (range_is ∙ ap (λ ends. enters_range_of (ranges_at 0 ends) from to) known.ends)

pub label_entered : (ss : List Stmt) (from label to : ℕ) (o : Option ℕ) (enters : Bool) → o ≡ labelled_at 0 ss label → o ≡ Some to → enters ≡ enters_in ss from (Some to)
    → enters ≡ enters_in ss from (labelled_at 0 ss label)
label_entered ss from label to o enters at is entered = entered ∙ ap (enters_in ss from) (sym is ∙ at)

pub no_label_entered : (ss : List Stmt) (from label : ℕ) (o : Option ℕ) → o ≡ labelled_at 0 ss label → o ≡ None → false ≡ enters_in ss from (labelled_at 0 ss label)
unfolding enters_in
no_label_entered ss from label o at is = sym (ap (enters_in ss from) (sym at ∙ is))

pub place_outside : (ss : List Stmt) (blocks : Blocks) (place : ℕ) (arms ranges : Bool) → AreBlocks ss blocks → arms ≡ is_outside_arms (arms_in ss place)
    → ranges ≡ not (list_any (is_in_range place) (ranges_at 0 blocks.ends.items)) → (arms && ranges) ≡ is_outside_in ss place
unfolding is_outside_in
place_outside ss blocks place arms ranges known arms_is ranges_is =
    ap (λ b. b && ranges) arms_is
    ∙ ap (λ b. is_outside_arms (arms_in ss place) && b) (ranges_is ∙ ap (λ ends. not (list_any (is_in_range place) (ranges_at 0 ends))) known.ends)
