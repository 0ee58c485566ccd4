-- The marks of statements whose places are those of a program unit are the marks of its lines.
use Rattle.std.proofs.Common.{◌≡◌, ℕ, suc, ◌+◌, ◌-◌, nat_eq, Bool, true, false, List, [], ◌∷◌, ◌++◌, length, Some, None, is_some, slice_get, if◌then◌else◌, append_assoc, refl, sym, ap, ◌∙◌, arith}
use Rattle.std.proofs.lemmas.Bool.Decides.{nat_tests}
use Rattle.std.proofs.lemmas.List.{append-nil}
use Rattle.f_tree.specs.declared.statements.Body.{Body}
use Rattle.f_tree.specs.declared.statements.Stmt.{Stmt}
use Rattle.f_tree.specs.Attributes.{from_all}
use Rattle.f_tree.specs.Facts.{Form, Passes, On, ToLoop, ToTestLoop, Mark, Plain, Opens, Arm, Closes, Line, ProgramUnit}
use Rattle.f_tree.specs.Lines.{Naming, form_of, mark_of, loop_label_in, line_of}
use Rattle.f_tree.specs.Nests.{Range, loop_of}
use Rattle.lowered_tree.specs.l_core.Steps.{Marked, OpensLoop, OpensLoopOnce, OpensWhile, ClosesLoop, ClosesWhile}
use Rattle.lowered_tree.specs.l_core.Steps as step
use Rattle.lowering.specs.Units.{is_counted, turn_size, ended_at, form_size, form_size_at, start_of, own_start, own_end, marked}
use Rattle.lowering.specs.Units as unit
use Rattle.statement_places.specs.open_loops.ReadLines.{IsReadAs}
use Rattle.statement_places.specs.declared.places.Turn.{Turn}
use Rattle.statement_places.specs.declared.places.StatementPlace.{StatementPlace}
use Rattle.statement_places.specs.StatementPlaces.{IsTurn, AreTurns, IsStatementPlace, AreStatementPlaces}
use Rattle.unit_lowering.specs.declared.forms.LoopForm.{LoopForm}
use Rattle.unit_lowering.specs.declared.forms.LoopForm.TheVariants as form
use Rattle.unit_lowering.specs.LineForms.{form_in, control_at}
use Rattle.unit_lowering.specs.LineMarks.{arm_marks, card_marks, loop_marks, turn_marks, turns_marks, line_marks, line_by, line_at, lines_marks}
use Rattle.unit_lowering.proofs.RowLemmas.{joined_is, joined_from, joined_all}
use Rattle.unit_lowering.proofs.LoopKinds.{LoopKind, Counted, Tested, Other, loop_kind}
use Rattle.unit_lowering.proofs.PlacedLines.{as_many, line_placed, counted_as}

-- the marks that a statement has for the loop that it begins, by its form
abbrev form_marks : ProgramUnit → ℕ → Form → List Marked
form_marks p i Passes = []
form_marks p i (On head operands) = elim head [
  | ToLoop label ↦ if p.onetrip then marked (own_end p i) (OpensLoopOnce ∷ []) else marked (own_end p i - 1) (OpensLoop ∷ [])
  | ToTestLoop label ↦ marked (own_start p i) (OpensWhile ∷ [])
  | _ ↦ []
]

form_marked : (p : ProgramUnit) (i : ℕ) (line : Line) → unit.loop_marks p i line ≡ form_marks p i line.form
unfolding unit.loop_marks
form_marked p i line = refl

no_loop_marked : (p : ProgramUnit) (i : ℕ) (form : Form) → loop_of form ≡ None → form_marks p i form ≡ []
unfolding loop_of
no_loop_marked p i Passes none = refl
no_loop_marked p i (On (ToLoop label) operands) none = absurd (cc)
no_loop_marked p i (On (ToTestLoop label) operands) none = absurd (cc)
no_loop_marked p i (On head operands) none = refl

line_form : (names : Naming) (labels : List ℕ) (s : Stmt) → (line_of names labels s).form ≡ form_of names s.body
unfolding line_of
line_form names labels s = refl

loop_counted : (once : Bool) (place : StatementPlace) →
    loop_marks once form.Counted place ≡ (if once then marked place.own_end (OpensLoopOnce ∷ []) else marked (place.own_end - 1) (OpensLoop ∷ []))
unfolding loop_marks
loop_counted true place = refl
loop_counted false place = refl

loop_tested : (once : Bool) (place : StatementPlace) → loop_marks once form.Tested place ≡ marked place.own_start (OpensWhile ∷ [])
unfolding loop_marks
loop_tested true place = refl
loop_tested false place = refl

loop_other : (once : Bool) (place : StatementPlace) → loop_marks once form.Other place ≡ []
unfolding loop_marks
loop_other true place = refl
loop_other false place = refl

-- the marks of the nest of IF blocks
arm_marked : (p : ProgramUnit) (i : ℕ) (mark : Mark) (place : StatementPlace) → place.start ≡ start_of p i → place.own_start ≡ own_start p i → place.own_end ≡ own_end p i →
    arm_marks mark place ≡ unit.arm_marks p i mark
unfolding arm_marks unit.arm_marks
arm_marked p i Plain place start begins ends = refl
arm_marked p i Opens place start begins ends = ap (λ n. marked n (step.OpensArm ∷ [])) ends
arm_marked p i Arm place start begins ends = ap (λ n. marked n (step.NextArm ∷ [])) begins
arm_marked p i Closes place start begins ends = ap (λ n. marked n (step.ClosesArm ∷ [])) start

-- the card of a statement that has steps
size_tested : (a b n : ℕ) → b ≡ a + n → nat_eq a b ≡ nat_eq n 0
size_tested a b n is = grind (arith, nat_tests)

own_end_is : (p : ProgramUnit) (i : ℕ) (line : Line) → slice_get p.lines i ≡ Some line → own_end p i ≡ own_start p i + form_size p i line
unfolding own_end form_size_at
own_end_is p i line at = ap (λ o. own_start p i + form_size_at p i o) at

card_marked : (p : ProgramUnit) (i : ℕ) (line : Line) (place : StatementPlace) → slice_get p.lines i ≡ Some line → place.own_start ≡ own_start p i → place.own_end ≡ own_end p i →
    card_marks line.card place ≡ unit.card_mark p i line
unfolding card_marks unit.card_mark
card_marked p i line place at begins ends =
    ap (λ b. if b then [] else marked place.own_start (step.Card line.card ∷ []))
    (size_tested place.own_start place.own_end (form_size p i line)
    (ends ∙ own_end_is p i line at ∙ ap (λ n. n + form_size p i line) (sym begins)))
    ∙ ap (λ n. if nat_eq (form_size p i line) 0 then [] else marked n (step.Card line.card ∷ [])) begins

module _ (p : ProgramUnit) (once : Bool) (names : Naming) (ss : List Stmt) (places : List StatementPlace) (told : IsReadAs p once names ss) (are : AreStatementPlaces p places) where
  read_line : Stmt → Line
  read_line s = line_of names (from_all loop_label_in ss) s

  -- the mark of the loop that a statement begins
  loop_by_kind : (i : ℕ) (b : Body) (place : StatementPlace) → place.own_start ≡ own_start p i → place.own_end ≡ own_end p i → LoopKind names b →
      loop_marks once (form_in b) place ≡ form_marks p i (form_of names b)
  loop_by_kind i b place begins ends (Counted label control is kind form) =
      ap (λ (f : LoopForm). loop_marks once f place) kind ∙ loop_counted once place
      ∙ ap (λ n. if once then marked n (OpensLoopOnce ∷ []) else marked (n - 1) (OpensLoop ∷ [])) ends
      ∙ ap (λ b. if b then marked (own_end p i) (OpensLoopOnce ∷ []) else marked (own_end p i - 1) (OpensLoop ∷ [])) (sym told.onetrip)
      ∙ sym (ap (form_marks p i) form)
  loop_by_kind i b place begins ends (Tested label operands is kind form) =
      ap (λ (f : LoopForm). loop_marks once f place) kind ∙ loop_tested once place ∙ ap (λ n. marked n (OpensWhile ∷ [])) begins ∙ sym (ap (form_marks p i) form)
  loop_by_kind i b place begins ends (Other is kind none) =
      ap (λ (f : LoopForm). loop_marks once f place) kind ∙ loop_other once place ∙ sym (no_loop_marked p i (form_of names b) none)

  loop_marked : (i : ℕ) (s : Stmt) (place : StatementPlace) → place.own_start ≡ own_start p i → place.own_end ≡ own_end p i →
      loop_marks once (form_in s.body) place ≡ unit.loop_marks p i (read_line s)
  unfolding read_line
  loop_marked i s place begins ends =
      loop_by_kind i s.body place begins ends (loop_kind names s.body)
      ∙ sym (form_marked p i (read_line s) ∙ ap (form_marks p i) (line_form names (from_all loop_label_in ss) s))

  -- the marks of the ends of loops
  turn_marked : (from : ℕ) (r : Range) (turn : Turn) → IsTurn p from r turn →
      turn_marks ss turn ≡ marked from ((if is_counted (slice_get p.lines r.first) then ClosesLoop else ClosesWhile) ∷ [])
  unfolding turn_marks
  turn_marked from r turn is =
      ap (λ n. marked n ((if is_some (control_at ss turn.first) then ClosesLoop else ClosesWhile) ∷ [])) is.at
      ∙ ap (λ b. marked from ((if b then ClosesLoop else ClosesWhile) ∷ []))
      (ap (λ i. is_some (control_at ss i)) is.first ∙ counted_as p once names ss places told are r.first)

  turns_marked : (from : ℕ) (rs : List Range) (turns : List Turn) → AreTurns p from rs turns → turns_marks ss turns ≡ unit.turn_marks p from rs
  unfolding AreTurns turns_marks unit.turn_marks
  turns_marked from [] [] each = refl
  turns_marked from [] (turn ∷ turns) each = absurd each
  turns_marked from (r ∷ rs) [] each = absurd each
  turns_marked from (r ∷ rs) (turn ∷ turns) each =
      ap (λ xs. xs ++ turns_marks ss turns) (turn_marked from r turn each.0)
      ∙ ap (λ xs. marked from ((if is_counted (slice_get p.lines r.first) then ClosesLoop else ClosesWhile) ∷ []) ++ xs)
      (turns_marked (from + turn_size p r) rs turns each.1)

  -- the marks of a line
  line_marked : (i : ℕ) (s : Stmt) (place : StatementPlace) → slice_get p.lines i ≡ Some (read_line s) → IsStatementPlace p i (read_line s) place →
      line_marks once ss s place ≡ unit.line_marks p i (read_line s)
  unfolding line_marks unit.line_marks read_line line_of
  line_marked i s place at placed =
      let line = read_line s in
      let arms = unit.arm_marks p i (mark_of s.body) in
      let cards = unit.card_mark p i line in
      let loops = unit.loop_marks p i line in
      ap (λ xs. xs ++ card_marks s.card place ++ loop_marks once (form_in s.body) place ++ turns_marks ss place.turns.items)
      (arm_marked p i (mark_of s.body) place placed.start placed.begins placed.ends)
      ∙ ap (λ xs. arms ++ xs ++ loop_marks once (form_in s.body) place ++ turns_marks ss place.turns.items) (card_marked p i line place at placed.begins placed.ends)
      ∙ ap (λ xs. arms ++ cards ++ xs ++ turns_marks ss place.turns.items) (loop_marked i s place placed.begins placed.ends)
      ∙ ap (λ xs. arms ++ cards ++ loops ++ xs) (turns_marked (own_end p i) (ended_at p i) place.turns.items placed.turns)

  line_by-there : (s : Stmt) (place : StatementPlace) → line_by once ss (Some s) (Some place) ≡ line_marks once ss s place
  unfolding line_by
  line_by-there s place = refl

  line_at_is : (i : ℕ) (line : Line) → slice_get p.lines i ≡ Some line → line_at once ss places i ≡ unit.line_marks p i line
  unfolding line_at read_line
  line_at_is i line at =
      let found = line_placed p once names ss places told are i line at in
      ap (λ o. line_by once ss o (slice_get places i)) found.there ∙ ap (line_by once ss (Some found.s)) found.stands
      ∙ line_by-there found.s found.place ∙ line_marked i found.s found.place (at ∙ ap Some found.is) found.placed ∙ ap (unit.line_marks p i) (sym found.is)

  marks_end : (i : ℕ) → unit.lines_marks p i [] ≡ []
  unfolding unit.lines_marks
  marks_end i = refl

  marks_more : (i : ℕ) (line : Line) (lines : List Line) → unit.lines_marks p i (line ∷ lines) ≡ unit.line_marks p i line ++ unit.lines_marks p (suc i) lines
  unfolding unit.lines_marks
  marks_more i line lines = refl

  -- the marks of all lines
  pub marks_are : lines_marks once ss places (length ss) ≡ unit.lines_marks p 0 p.lines
  unfolding lines_marks
  marks_are =
      let join = λ (before : List Marked) (here : List Marked). before ++ here in
      joined_is join [] (λ xs. refl) append-nil append_assoc (line_at once ss places) (length ss)
      ∙ ap (joined_from join [] (line_at once ss places) 0) (as_many p once names ss places told are)
      ∙ joined_all join [] (line_at once ss places) (unit.lines_marks p) (unit.line_marks p) marks_end marks_more 0 p.lines
      (λ k line at. let e : 0 + k ≡ k = omega arith in ap (line_at once ss places) e ∙ line_at_is k line at ∙ ap (λ j. unit.line_marks p j line) (sym e))
