-- The ways that the code measures are those of the lines of a unit.
use Rattle.std.proofs.Common.{◌≡◌, ℕ, suc, ◌+◌, ◌-◌, ◌<◌, Bool, true, false, List, [], ◌∷◌, map, length, nat_eq, nat_lt, Option, Some, None, if◌then◌else◌, refl, sym, ap, subst, ◌∙◌}
use Rattle.std.specs.Prelude.{slice_get, option_map, slice_index_or}
use Rattle.f_tree.specs.declared.statements.Stmt.{Stmt}
use Rattle.f_tree.specs.Facts.{Mark, Plain, Opens, Arm, Closes, Line, ProgramUnit}
use Rattle.f_tree.specs.Places.{arm_after}
use Rattle.f_tree.specs.Nests.{Range, open_at}
use Rattle.lowering.specs.Units.{is_counted, turn_size, ended_at, start_of, own_start, own_end, block_end_of, arm_room, turns_up_to, loop_exit, range_of, loop_room, room_of, way_back}
use Rattle.statement_places.specs.declared.arms.NextArm.{NextArm}
use Rattle.statement_places.specs.declared.layout.Layout.{Layout}
use Rattle.statement_places.specs.NextArms.{end_behind}
use Rattle.statement_places.specs.StatementPlaces.{back_from, IsTurn, AreTurns}
use Rattle.statement_places.specs.StatementSizes.{is_do_at, turn_size_in, ended_in}
use Rattle.statement_places.specs.StepPositions.{position_in}
use Rattle.statement_places.specs.StepWays.{room_to, arm_room_in, turns_to, exit_in, room_behind, loop_room_in, room_in, skip_in, back_to, back_in, turns_in}
use Rattle.statement_places.proofs.ArmTheorem.{at_of}
use Rattle.statement_places.proofs.EndTheorem.{range_behind}
use Rattle.statement_places.proofs.PositionTheorem.{IsPosition}
use Rattle.statement_places.proofs.SizeTheorem.{turn_same}

abbrev pub first_of : Range → ℕ
first_of r = r.first

-- what is known of the statements is what the lines say
pub record Knows (p : ProgramUnit) (ss : List Stmt) (layout : Layout) : Type 0 where
  pub once : layout.once ≡ p.onetrip
  pub counted : (k : ℕ) → is_counted (slice_get p.lines k) ≡ is_do_at ss k
  pub position : (k : ℕ) → IsPosition p k (position_in layout.positions k)
  pub ended : (k : ℕ) → k < length p.lines → ended_in layout.loops.items k ≡ map first_of (ended_at p k)
  pub next : (k : ℕ) → k < length p.lines → option_map at_of (slice_index_or layout.arms.items k None) ≡ arm_after p k
  pub block : (k : ℕ) → k < length p.lines → end_behind k (slice_index_or layout.arms.items k None) ≡ block_end_of p k
  pub range : (k : ℕ) → k < length p.lines → range_of (open_at p (suc k)) k ≡ range_behind k (slice_index_or layout.ends.items k None)
  pub within : (k last : ℕ) → k < length p.lines → slice_index_or layout.ends.items k None ≡ Some last → last < length p.lines

-- THE WAY BACK
back_by : (b once : Bool) (from e s : ℕ) → (if b then back_to once (from + 1) e else from - s)
    ≡ (if b then (if b then (if once then from + 1 - e else from + 1 - e + 1) else from + 1 - s) else (if b then (if once then from - e else from - e + 1) else from - s))
unfolding back_to
back_by true once from e s = refl
back_by false once from e s = refl

sums_by : (b : Bool) (one other later more : ℕ) → one ≡ other → later ≡ more → (if b then one else one + later) ≡ (if b then other else other + more)
sums_by true one other later more same then' = same
sums_by false one other later more same then' = ap (λ n. n + later) same ∙ ap (λ n. other + n) then'

module _ (p : ProgramUnit) (ss : List Stmt) (layout : Layout) (known : Knows p ss layout) where
  back_same : (r : Range) (from : ℕ) → back_in layout.once ss layout.positions r.first from ≡ back_from p r from
  unfolding back_in back_from way_back
  back_same r from =
      ap (λ b. if b then back_to layout.once (from + 1) (position_in layout.positions r.first).own_end else from - (position_in layout.positions r.first).own_start) (sym (known.counted r.first))
      ∙ ap (λ n. if is_counted (slice_get p.lines r.first) then back_to layout.once (from + 1) n else from - (position_in layout.positions r.first).own_start) (known.position r.first).ends
      ∙ ap (λ n. if is_counted (slice_get p.lines r.first) then back_to layout.once (from + 1) (own_end p r.first) else from - n) (known.position r.first).begins
      ∙ ap (λ b. if is_counted (slice_get p.lines r.first) then back_to b (from + 1) (own_end p r.first) else from - own_start p r.first) known.once
      ∙ back_by (is_counted (slice_get p.lines r.first)) p.onetrip from (own_end p r.first) (own_start p r.first)

  turn_at : (r : Range) (from : ℕ) → IsTurn p from r (record { first = r.first; at = from; back = back_in layout.once ss layout.positions r.first from })
  turn_at r from = record { first = refl; at = refl; back = back_same r from }

  pub turns_are : (from : ℕ) (rs : List Range) → AreTurns p from rs (turns_in layout.once ss layout.positions from (map first_of rs))
  unfolding AreTurns turns_in
  turns_are from [] = tt
  turns_are from (r ∷ rs) = (
    turn_at r from,
    subst (λ n. AreTurns p (from + turn_size p r) rs (turns_in layout.once ss layout.positions (from + n) (map first_of rs))) (turn_same p ss known.counted r) (turns_are (from + turn_size p r) rs),
  )

  -- BEHIND A LOOP
  turns_to_same : (first : ℕ) (rs : List Range) → turns_to ss first (map first_of rs) ≡ turns_up_to p first rs
  unfolding turns_to turns_up_to
  turns_to_same first [] = refl
  turns_to_same first (r ∷ rs) =
      sums_by (nat_eq r.first first) (turn_size_in ss r.first) (turn_size p r) (turns_to ss first (map first_of rs)) (turns_up_to p first rs) (sym (turn_same p ss known.counted r)) (turns_to_same first rs)

  exit_same : (first last : ℕ) → last < length p.lines → exit_in ss layout first last ≡ loop_exit p (record { first = first; last = last })
  unfolding exit_in loop_exit
  exit_same first last h =
      ap (λ n. n + turns_to ss first (ended_in layout.loops.items last)) (known.position last).ends ∙ ap (λ ks. own_end p last + turns_to ss first ks) (known.ended last h)
      ∙ ap (λ n. own_end p last + n) (turns_to_same first (ended_at p last))

  -- ROOMS
  room_by : (b : Bool) (i last : ℕ) → last < length p.lines → (if b then exit_in ss layout i last - (position_in layout.positions i).own_end else 0)
      ≡ loop_room p i (if b then Some (record { first = i; last = last }) else None)
  unfolding loop_room
  room_by true i last h = ap (λ n. n - (position_in layout.positions i).own_end) (exit_same i last h) ∙ ap (λ n. loop_exit p (record { first = i; last = last }) - n) (known.position i).ends
  room_by false i last h = refl

  behind_same : (i : ℕ) (end : Option ℕ) → ((last : ℕ) → end ≡ Some last → last < length p.lines) → room_behind ss layout i end ≡ loop_room p i (range_behind i end)
  unfolding room_behind loop_room range_behind
  behind_same i None within = refl
  behind_same i (Some last) within = room_by (nat_lt i last) i last (within last refl)

  loop_same : (i : ℕ) → i < length p.lines → loop_room_in ss layout i ≡ loop_room p i (range_of (open_at p (suc i)) i)
  unfolding loop_room_in
  loop_same i h = behind_same i (slice_index_or layout.ends.items i None) (λ last is. known.within i last h is) ∙ ap (loop_room p i) (sym (known.range i h))

  to_same : (i : ℕ) (next : Option NextArm) → room_to layout.positions i next ≡ arm_room p i (option_map at_of next)
  unfolding room_to arm_room
  to_same i None = refl
  to_same i (Some arm) =
      ap (λ n. n - (position_in layout.positions i).own_end) (known.position arm.at).begins ∙ ap (λ n. own_start p arm.at - n) (known.position i).ends

  arm_same : (i : ℕ) → i < length p.lines → arm_room_in layout i ≡ arm_room p i (arm_after p i)
  unfolding arm_room_in
  arm_same i h = to_same i (slice_index_or layout.arms.items i None) ∙ ap (arm_room p i) (known.next i h)

  room_by_mark : (mark : Mark) (i : ℕ) → i < length p.lines → room_in ss layout mark i ≡ elim mark [
    | Opens ↦ arm_room p i (arm_after p i)
    | Arm ↦ arm_room p i (arm_after p i)
    | _ ↦ loop_room p i (range_of (open_at p (suc i)) i)
  ]
  unfolding room_in
  room_by_mark Plain i h = loop_same i h
  room_by_mark Opens i h = arm_same i h
  room_by_mark Arm i h = arm_same i h
  room_by_mark Closes i h = loop_same i h

  pub room_same : (i : ℕ) (line : Line) → i < length p.lines → room_in ss layout line.mark i ≡ room_of p i line
  unfolding room_of
  room_same i line h = room_by_mark line.mark i h

  -- PAST THE OTHER ARMS
  skip_arm : (i : ℕ) → i < length p.lines → skip_in layout Arm i ≡ start_of p (block_end_of p i) - own_start p i
  unfolding skip_in
  skip_arm i h =
      ap (λ n. n - (position_in layout.positions i).own_start) (known.position (end_behind i (slice_index_or layout.arms.items i None))).start
      ∙ ap (λ n. start_of p n - (position_in layout.positions i).own_start) (known.block i h) ∙ ap (λ n. start_of p (block_end_of p i) - n) (known.position i).begins

  pub skip_same : (mark : Mark) (i : ℕ) → i < length p.lines → mark ≡ Arm → skip_in layout mark i ≡ start_of p (block_end_of p i) - own_start p i
  skip_same mark i h is = ap (λ m. skip_in layout m i) is ∙ skip_arm i h
