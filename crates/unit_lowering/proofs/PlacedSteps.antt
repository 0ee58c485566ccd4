-- The steps of statements whose places are those of a program unit are the steps of its lines.
use Rattle.std.proofs.Common.{◌≡◌, ℕ, suc, ◌+◌, ◌-◌, Bool, true, false, List, [], ◌∷◌, ◌++◌, length, Option, Some, None, is_some, option_map, slice_get, if◌then◌else◌, append_assoc, refl, sym, ap, ◌∙◌, arith}
use Rattle.f_tree.specs.declared.statements.LoopControl.{LoopControl}
use Rattle.f_tree.specs.declared.statements.Stmt.{Stmt}
use Rattle.f_tree.specs.Attributes.{from_all}
use Rattle.f_tree.specs.Terms.{NoMore}
use Rattle.f_tree.specs.Facts.{Form, Passes, On, ToLoop, Mark, Plain, Opens, Arm, Closes, Line, ProgramUnit}
use Rattle.f_tree.specs.Lines.{Naming, control_of, form_of, mark_of, loop_label_in, line_of}
use Rattle.f_tree.specs.Nests.{Range}
use Rattle.f_tree.specs.Step.{assigned_in}
use Rattle.lowered_tree.specs.l_core.Pures.{Pures}
use Rattle.lowered_tree.specs.l_core.Steps.{Step, Skip, Again}
use Rattle.lowering.specs.Expressions.{Lowered}
use Rattle.lowering.specs.Statements.{loop_operands, turn_code, form_code}
use Rattle.lowering.specs.Units.{loop_at_line, loop_lowered, free_at, all_named, is_named, pass_code, is_counted, turn_size, ended_at, start_of, own_start, own_end, block_end_of, room_of, way_back, turn_of, turns_of, skip_code, listed, statement_code, line_code, both_codes, lines_code}
use Rattle.statement_places.specs.open_loops.ReadLines.{IsReadAs}
use Rattle.statement_places.specs.declared.places.Turn.{Turn}
use Rattle.statement_places.specs.declared.places.StatementPlace.{StatementPlace}
use Rattle.statement_places.specs.StatementPlaces.{back_from, IsTurn, AreTurns, IsStatementPlace, AreStatementPlaces}
use Rattle.unit_lowering.specs.LineForms.{control_in, control_of_line, control_at}
use Rattle.unit_lowering.specs.LineSteps.{skip_steps, turn_by, turn_steps, turns_steps, own_steps, line_steps, line_by, line_at, lines_steps}
use Rattle.unit_lowering.proofs.RowLemmas.{joined_is, joined_from, joined_all}
use Rattle.unit_lowering.proofs.LoopKinds.{LoopKind, Counted, Tested, Other, loop_kind}
use Rattle.unit_lowering.proofs.PlacedLines.{as_many, line_read, line_placed, counted_as}

-- steps of one line and those of the lines behind it
left_none : (o : Option (List Step)) → both_codes (Some []) o ≡ o
unfolding both_codes
left_none None = refl
left_none (Some xs) = refl

right_none : (o : Option (List Step)) → both_codes o (Some []) ≡ o
unfolding both_codes
right_none None = refl
right_none (Some xs) = ap Some (nothing_behind xs)
  where
    nothing_behind : (xs : List Step) → xs ++ [] ≡ xs
    nothing_behind [] = refl
    nothing_behind (x ∷ xs) = ap (λ ys. x ∷ ys) (nothing_behind xs)

both_along : (a b c : Option (List Step)) → both_codes (both_codes a b) c ≡ both_codes a (both_codes b c)
unfolding both_codes
both_along None b c = refl
both_along (Some xs) None c = refl
both_along (Some xs) (Some ys) None = refl
both_along (Some xs) (Some ys) (Some zs) = ap Some (append_assoc xs ys zs)

-- the ways past the other arms
skip_is : (p : ProgramUnit) (i n : ℕ) (mark : Mark) → (mark ≡ Arm → n ≡ start_of p (block_end_of p i) - own_start p i) → skip_steps mark n ≡ skip_code p i mark
unfolding skip_steps skip_code
skip_is p i n Plain is = refl
skip_is p i n Opens is = refl
skip_is p i n Arm is = ap (λ k. Skip k ∷ []) (is refl)
skip_is p i n Closes is = refl

-- the steps of a line, put together in one way and in another
joined_line : (o : Option (List Step)) (skip pass ends : List Step) →
    option_map (λ steps. skip ++ steps ++ ends) (option_map (λ steps. steps ++ pass) o) ≡ option_map (λ steps. skip ++ steps ++ pass ++ ends) o
joined_line None skip pass ends = refl
joined_line (Some steps) skip pass ends = ap (λ xs. Some (xs ++ ends)) (sym (append_assoc skip steps pass))

line_along : (o o' : Option (List Step)) (skip skip' pass pass' ends ends' : List Step) → o ≡ o' → skip ≡ skip' → pass ≡ pass' → ends ≡ ends' →
    option_map (λ steps. skip ++ steps ++ pass ++ ends) o ≡ option_map (λ steps. skip' ++ steps ++ pass' ++ ends') o'
line_along o o' skip skip' pass pass' ends ends' same same_skip same_pass same_ends =
    ap (λ xs. option_map (λ steps. xs ++ steps ++ pass ++ ends) o) same_skip ∙ ap (λ xs. option_map (λ steps. skip' ++ steps ++ xs ++ ends) o) same_pass
    ∙ ap (λ xs. option_map (λ steps. skip' ++ steps ++ pass' ++ xs) o) same_ends ∙ ap (option_map (λ steps. skip' ++ steps ++ pass' ++ ends')) same

-- the ends of loops, by whether they are counted
turn_counted : (p : ProgramUnit) (from : ℕ) (r : Range) → is_counted (slice_get p.lines r.first) ≡ true →
    turn_code p.onetrip (way_back p r (from + 1)) (loop_lowered p (free_at p r.first) r).value ≡ turn_of p from r
unfolding turn_of
turn_counted p from r is =
    sym (ap (λ b. if b then turn_code p.onetrip (way_back p r (from + 1)) (loop_lowered p (free_at p r.first) r).value else Again (way_back p r from) ∷ []) is)

turn_uncounted : (p : ProgramUnit) (from : ℕ) (r : Range) → is_counted (slice_get p.lines r.first) ≡ false → Again (way_back p r from) ∷ [] ≡ turn_of p from r
unfolding turn_of
turn_uncounted p from r is =
    sym (ap (λ b. if b then turn_code p.onetrip (way_back p r (from + 1)) (loop_lowered p (free_at p r.first) r).value else Again (way_back p r from) ∷ []) is)

back_counted : (p : ProgramUnit) (from : ℕ) (r : Range) → is_counted (slice_get p.lines r.first) ≡ true → back_from p r from ≡ way_back p r (from + 1)
unfolding back_from
back_counted p from r is = ap (λ b. if b then way_back p r (from + 1) else way_back p r from) is

back_uncounted : (p : ProgramUnit) (from : ℕ) (r : Range) → is_counted (slice_get p.lines r.first) ≡ false → back_from p r from ≡ way_back p r from
unfolding back_from
back_uncounted p from r is = ap (λ b. if b then way_back p r (from + 1) else way_back p r from) is

turn_by-uncounted : (once : Bool) (names : Naming) (n : ℕ) (b : Option StatementPlace) → turn_by once names n None b ≡ Again n ∷ []
unfolding turn_by
turn_by-uncounted once names n b = refl

turn_by-counted : (once : Bool) (names : Naming) (n : ℕ) (control : LoopControl) (place : StatementPlace) →
    turn_by once names n (Some control) (Some place) ≡ turn_code once n (loop_operands place.free (control_of names control)).value
unfolding turn_by
turn_by-counted once names n control place = refl

-- the operands of a statement that may be a DO
abbrev form_operands : ℕ → Form → Lowered Pures
form_operands k Passes = loop_operands k NoMore
form_operands k (On head operands) = elim head [ ToLoop label ↦ loop_operands k operands | _ ↦ loop_operands k NoMore ]

operands_at : (k : ℕ) (line : Line) → loop_at_line k (Some line) ≡ form_operands k line.form
unfolding loop_at_line
operands_at k line = refl

line_form : (names : Naming) (labels : List ℕ) (s : Stmt) → (line_of names labels s).form ≡ form_of names s.body
unfolding line_of
line_form names labels s = refl

module _ (p : ProgramUnit) (once : Bool) (names : Naming) (ss : List Stmt) (places : List StatementPlace) (told : IsReadAs p once names ss) (are : AreStatementPlaces p places)
    (assigned : List ℕ) (assigned_is : assigned_in p.lines ≡ assigned) where
  read_line : Stmt → Line
  read_line s = line_of names (from_all loop_label_in ss) s

  -- a loop that is not counted
  again_is : (from : ℕ) (r : Range) (a : Option LoopControl) (b : Option StatementPlace) → a ≡ None → is_counted (slice_get p.lines r.first) ≡ false →
      turn_by once names (back_from p r from) a b ≡ turn_of p from r
  again_is from r a b none is =
      ap (λ o. turn_by once names (back_from p r from) o b) none ∙ turn_by-uncounted once names (back_from p r from) b ∙ ap (λ n. Again n ∷ []) (back_uncounted p from r is)
      ∙ turn_uncounted p from r is

  -- the operands that the lowered loop of a DO keeps
  lowered_is : (k : ℕ) (r : Range) (s : Stmt) (label : Option ℕ) (control : LoopControl) → slice_get p.lines r.first ≡ Some (read_line s) →
      form_of names s.body ≡ On (ToLoop label) (control_of names control) → loop_operands k (control_of names control) ≡ loop_lowered p k r
  unfolding loop_lowered read_line
  lowered_is k r s label control at form =
      sym (ap (loop_at_line k) at ∙ operands_at k (read_line s) ∙ ap (form_operands k) (line_form names (from_all loop_label_in ss) s) ∙ ap (form_operands k) form)

  -- a loop that is counted
  next_is : (from : ℕ) (r : Range) (s : Stmt) (place : StatementPlace) (label : Option ℕ) (control : LoopControl) → slice_get p.lines r.first ≡ Some (read_line s) →
      form_of names s.body ≡ On (ToLoop label) (control_of names control) → place.free ≡ free_at p r.first → is_counted (slice_get p.lines r.first) ≡ true →
      turn_by once names (back_from p r from) (Some control) (Some place) ≡ turn_of p from r
  next_is from r s place label control at form free is =
      turn_by-counted once names (back_from p r from) control place
      ∙ ap (λ n. turn_code once n (loop_operands place.free (control_of names control)).value) (back_counted p from r is)
      ∙ ap (λ b. turn_code b (way_back p r (from + 1)) (loop_operands place.free (control_of names control)).value) (sym told.onetrip)
      ∙ ap (λ k. turn_code p.onetrip (way_back p r (from + 1)) (loop_operands k (control_of names control)).value) free
      ∙ ap (λ (l : Lowered Pures). turn_code p.onetrip (way_back p r (from + 1)) l.value) (lowered_is (free_at p r.first) r s label control at form)
      ∙ turn_counted p from r is

  turn_by_kind : (from : ℕ) (r : Range) (s : Stmt) → slice_get p.lines r.first ≡ Some (read_line s) → is_some (control_in s.body) ≡ is_counted (slice_get p.lines r.first) →
      LoopKind names s.body → turn_by once names (back_from p r from) (control_in s.body) (slice_get places r.first) ≡ turn_of p from r
  unfolding read_line
  turn_by_kind from r s at counted (Counted label control is kind form) =
      let found = line_placed p once names ss places told are r.first (read_line s) at in
      ap (λ o. turn_by once names (back_from p r from) o (slice_get places r.first)) is
      ∙ ap (turn_by once names (back_from p r from) (Some control)) found.stands
      ∙ next_is from r s found.place label control at form found.placed.free (sym counted ∙ ap is_some is)
  turn_by_kind from r s at counted (Tested label operands is kind form) = again_is from r (control_in s.body) (slice_get places r.first) is (sym counted ∙ ap is_some is)
  turn_by_kind from r s at counted (Other is kind none) = again_is from r (control_in s.body) (slice_get places r.first) is (sym counted ∙ ap is_some is)

  turn_by_line : (from : ℕ) (r : Range) (o : Option Stmt) → slice_get ss r.first ≡ o →
      turn_by once names (back_from p r from) (control_of_line o) (slice_get places r.first) ≡ turn_of p from r
  unfolding control_of_line control_at read_line
  turn_by_line from r None there =
      again_is from r None (slice_get places r.first) refl
      (sym (counted_as p once names ss places told are r.first) ∙ ap (λ o. is_some (control_of_line o)) there)
  turn_by_line from r (Some s) there =
      turn_by_kind from r s (line_read p once names ss places told are r.first ∙ ap (option_map read_line) there)
      (ap (λ o. is_some (control_of_line o)) (sym there) ∙ counted_as p once names ss places told are r.first) (loop_kind names s.body)

  turn_is : (from : ℕ) (r : Range) (turn : Turn) → IsTurn p from r turn → turn_steps once names ss places turn ≡ turn_of p from r
  unfolding turn_steps control_at
  turn_is from r turn is =
      ap (λ i. turn_by once names turn.back (control_at ss i) (slice_get places i)) is.first
      ∙ ap (λ n. turn_by once names n (control_at ss r.first) (slice_get places r.first)) is.back ∙ turn_by_line from r (slice_get ss r.first) refl

  turns_are : (from : ℕ) (rs : List Range) (turns : List Turn) → AreTurns p from rs turns → turns_steps once names ss places turns ≡ turns_of p from rs
  unfolding AreTurns turns_steps turns_of
  turns_are from [] [] each = refl
  turns_are from [] (turn ∷ turns) each = absurd each
  turns_are from (r ∷ rs) [] each = absurd each
  turns_are from (r ∷ rs) (turn ∷ turns) each =
      ap (λ xs. xs ++ turns_steps once names ss places turns) (turn_is from r turn each.0) ∙ ap (λ xs. turn_of p from r ++ xs) (turns_are (from + turn_size p r) rs turns each.1)

  -- the steps of a line
  line_is : (i : ℕ) (s : Stmt) (place : StatementPlace) → IsStatementPlace p i (read_line s) place → line_steps once assigned names ss places s place ≡ line_code p i (read_line s)
  unfolding line_steps own_steps line_code statement_code line_of read_line
  line_is i s place placed =
      let form = form_of names s.body in
      let own = listed assigned form in
      joined_line (form_code once place.free place.room own) (skip_steps (mark_of s.body) place.skip) (pass_code place.is_named form) (turns_steps once names ss places place.turns.items)
      ∙ line_along (form_code once place.free place.room own) (form_code p.onetrip (free_at p i) (room_of p i (read_line s)) (listed (assigned_in p.lines) form))
      (skip_steps (mark_of s.body) place.skip) (skip_code p i (mark_of s.body))
      (pass_code place.is_named form) (pass_code (is_named (all_named p.lines) s.label) form)
      (turns_steps once names ss places place.turns.items) (turns_of p (own_end p i) (ended_at p i))
      (ap (λ b. form_code b place.free place.room own) (sym told.onetrip) ∙ ap (λ k. form_code p.onetrip k place.room own) placed.free
      ∙ ap (λ n. form_code p.onetrip (free_at p i) n own) placed.room ∙ ap (λ ls. form_code p.onetrip (free_at p i) (room_of p i (read_line s)) (listed ls form)) (sym assigned_is))
      (skip_is p i place.skip (mark_of s.body) placed.skip) (ap (λ b. pass_code b form) placed.named) (turns_are (own_end p i) (ended_at p i) place.turns.items placed.turns)

  line_by-there : (s : Stmt) (place : StatementPlace) → line_by once assigned names ss places (Some s) (Some place) ≡ line_steps once assigned names ss places s place
  unfolding line_by
  line_by-there s place = refl

  line_at_is : (i : ℕ) (line : Line) → slice_get p.lines i ≡ Some line → line_at once assigned names ss places i ≡ line_code p i line
  unfolding line_at read_line
  line_at_is i line at =
      let found = line_placed p once names ss places told are i line at in
      ap (λ o. line_by once assigned names ss places o (slice_get places i)) found.there ∙ ap (line_by once assigned names ss places (Some found.s)) found.stands
      ∙ line_by-there found.s found.place ∙ line_is i found.s found.place found.placed ∙ ap (line_code p i) (sym found.is)

  lines_end : (i : ℕ) → lines_code p i [] ≡ Some []
  unfolding lines_code
  lines_end i = refl

  lines_more : (i : ℕ) (line : Line) (lines : List Line) → lines_code p i (line ∷ lines) ≡ both_codes (line_code p i line) (lines_code p (suc i) lines)
  unfolding lines_code
  lines_more i line lines = refl

  -- the steps of all lines
  pub steps_are : lines_steps once assigned names ss places (length ss) ≡ lines_code p 0 p.lines
  unfolding lines_steps
  steps_are =
      joined_is both_codes (Some []) left_none right_none both_along (line_at once assigned names ss places) (length ss)
      ∙ ap (joined_from both_codes (Some []) (line_at once assigned names ss places) 0) (as_many p once names ss places told are)
      ∙ joined_all both_codes (Some []) (line_at once assigned names ss places) (lines_code p) (line_code p) lines_end lines_more 0 p.lines
      (λ k line at. let e : 0 + k ≡ k = omega arith in ap (line_at once assigned names ss places) e ∙ line_at_is k line at ∙ ap (λ j. line_code p j line) (sym e))
