-- How many steps the ways of a unit pass, by where its steps stand, its arms and its loops. ANSI X3.9-1978, sections 11.6 to 11.10.
use Rattle.std.specs.Prelude.{◌≡◌, ℕ, ◌+◌, ◌-◌, nat_eq, nat_lt, Bool, List, [], ◌∷◌, Option, Some, None, slice_index_or, if◌then◌else◌}
use Rattle.f_tree.specs.declared.statements.Stmt.{Stmt}
use Rattle.f_tree.specs.Facts.{Mark, Plain, Opens, Arm, Closes}
use Rattle.f_tree.specs.Lines.{mark_of}
use Rattle.lowering.specs.Units.{is_named}
use Rattle.statement_places.specs.declared.arms.NextArm.{NextArm}
use Rattle.statement_places.specs.declared.positions.Positions.{Positions}
use Rattle.statement_places.specs.declared.layout.Layout.{Layout}
use Rattle.statement_places.specs.declared.places.Turn.{Turn}
use Rattle.statement_places.specs.declared.places.StatementPlace.{StatementPlace}
use Rattle.statement_places.specs.NamedLabels.{IsLabelSet}
use Rattle.statement_places.specs.NextArms.{end_behind}
use Rattle.statement_places.specs.StatementSizes.{is_do_at, turn_size_in, free_in, ended_in}
use Rattle.statement_places.specs.StepPositions.{position_in}

-- up to the next arm, where a condition does not hold
unfoldable pub room_to : Positions → ℕ → Option NextArm → ℕ
room_to positions i None = 0
room_to positions i (Some arm) = (position_in positions arm.at).own_start - (position_in positions i).own_end

unfoldable pub arm_room_in : Layout → ℕ → ℕ
arm_room_in layout i = room_to layout.positions i (slice_index_or layout.arms.items i None)

-- the steps of the loops that end with a statement, up to and with those of one of them
unfoldable pub turns_to : List Stmt → ℕ → List ℕ → ℕ
turns_to ss first [] = 0
turns_to ss first (k ∷ ks) = if nat_eq k first then turn_size_in ss k else turn_size_in ss k + turns_to ss first ks

-- behind a loop
unfoldable pub exit_in : List Stmt → Layout → ℕ → ℕ → ℕ
exit_in ss layout first last = (position_in layout.positions last).own_end + turns_to ss first (ended_in layout.loops.items last)

-- a loop whose terminal statement does not stand behind it has no range
unfoldable pub room_behind : List Stmt → Layout → ℕ → Option ℕ → ℕ
room_behind ss layout i None = 0
room_behind ss layout i (Some last) = if nat_lt i last then exit_in ss layout i last - (position_in layout.positions i).own_end else 0

unfoldable pub loop_room_in : List Stmt → Layout → ℕ → ℕ
loop_room_in ss layout i = room_behind ss layout i (slice_index_or layout.ends.items i None)

unfoldable pub room_in : List Stmt → Layout → Mark → ℕ → ℕ
room_in ss layout Plain i = loop_room_in ss layout i
room_in ss layout Opens i = arm_room_in layout i
room_in ss layout Arm i = arm_room_in layout i
room_in ss layout Closes i = loop_room_in ss layout i

-- past the other arms
unfoldable pub skip_in : Layout → Mark → ℕ → ℕ
skip_in layout Arm i = (position_in layout.positions (end_behind i (slice_index_or layout.arms.items i None))).start - (position_in layout.positions i).own_start
skip_in layout mark i = 0

-- back to the test of a loop, to its range, or to the steps of a DO WHILE
unfoldable pub back_to : Bool → ℕ → ℕ → ℕ
back_to once from to = if once then from - to else from - to + 1

unfoldable pub back_in : Bool → List Stmt → Positions → ℕ → ℕ → ℕ
back_in once ss positions first from =
    if is_do_at ss first then back_to once (from + 1) (position_in positions first).own_end else from - (position_in positions first).own_start

unfoldable pub turns_in : Bool → List Stmt → Positions → ℕ → List ℕ → List Turn
turns_in once ss positions from [] = []
turns_in once ss positions from (k ∷ ks) =
    record { first = k; at = from; back = back_in once ss positions k from } ∷ turns_in once ss positions (from + turn_size_in ss k) ks

-- what is known of one statement
pub record IsPlaceIn (ss : List Stmt) (layout : Layout) (i : ℕ) (s : Stmt) (place : StatementPlace) : Type 0 where
  pub free : place.free ≡ free_in layout.loops.items i
  pub named : (labels : List ℕ) → IsLabelSet labels layout.named → place.is_named ≡ is_named labels s.label
  pub start : place.start ≡ (position_in layout.positions i).start
  pub begins : place.own_start ≡ (position_in layout.positions i).own_start
  pub ends : place.own_end ≡ (position_in layout.positions i).own_end
  pub room : place.room ≡ room_in ss layout (mark_of s.body) i
  pub skip : place.skip ≡ skip_in layout (mark_of s.body) i
  pub turns : place.turns.items ≡ turns_in layout.once ss layout.positions (position_in layout.positions i).own_end (ended_in layout.loops.items i)

unfoldable pub step_ways_opened : Unit {0}
unfolding room_to arm_room_in turns_to exit_in room_behind loop_room_in room_in skip_in back_to back_in turns_in
step_ways_opened = tt
