-- The marks of statements, as they are appended.
use Rattle.std.proofs.Common.{◌≡◌, ℕ, ◌+◌, Bool, List, [], ◌∷◌, ◌++◌, Option, Some, None, slice_get, append_assoc, refl, sym, ap, ◌∙◌}
use Rattle.std.proofs.lemmas.List.{append-nil}
use Rattle.f_tree.specs.declared.statements.Stmt.{Stmt}
use Rattle.f_tree.specs.Lines.{mark_of}
use Rattle.lowered_tree.specs.l_core.Steps.{Marked}
use Rattle.statement_places.specs.declared.places.Turn.{Turn}
use Rattle.statement_places.specs.declared.places.StatementPlace.{StatementPlace}
use Rattle.unit_lowering.specs.LineForms.{form_in}
use Rattle.unit_lowering.specs.LineMarks.{arm_marks, card_marks, loop_marks, turn_marks, turns_marks, line_marks, line_by, line_at, lines_marks}
use Rattle.unit_lowering.proofs.RowLemmas.{joined_none, joined_more}

-- the ends of loops, one behind the other
pub turns_marks-none : (ss : List Stmt) → turns_marks ss [] ≡ []
unfolding turns_marks
turns_marks-none ss = refl

pub turns_marks-more : (ss : List Stmt) (turn : Turn) (turns : List Turn) → turns_marks ss (turn ∷ turns) ≡ turn_marks ss turn ++ turns_marks ss turns
unfolding turns_marks
turns_marks-more ss turn turns = refl

-- the marks of a statement, one behind the other
pub line_put : (once : Bool) (ss : List Stmt) (s : Stmt) (place : StatementPlace) (start behind_arm behind_card behind_loop after arm card loop : List Marked) (turns : List Turn) →
    behind_arm ≡ start ++ arm → arm ≡ arm_marks (mark_of s.body) place → behind_card ≡ behind_arm ++ card → card ≡ card_marks s.card place →
    behind_loop ≡ behind_card ++ loop → loop ≡ loop_marks once (form_in s.body) place → turns ≡ place.turns.items → after ≡ behind_loop ++ turns_marks ss turns →
    after ≡ start ++ line_marks once ss s place
unfolding line_marks
line_put once ss s place start behind_arm behind_card behind_loop after arm card loop turns put_arm is_arm put_card is_card put_loop is_loop is_turns put_turns =
    let arms = arm_marks (mark_of s.body) place in
    let cards = card_marks s.card place in
    let loops = loop_marks once (form_in s.body) place in
    let ends = turns_marks ss place.turns.items in
    put_turns ∙ ap (λ ts. behind_loop ++ turns_marks ss ts) is_turns
    ∙ ap (λ xs. xs ++ ends)
    (put_loop
    ∙ ap (λ xs. xs ++ loop) (put_card ∙ ap (λ xs. xs ++ card) (put_arm ∙ ap (λ xs. start ++ xs) is_arm) ∙ ap (λ xs. (start ++ arms) ++ xs) is_card ∙ append_assoc start arms cards)
    ∙ ap (λ xs. (start ++ (arms ++ cards)) ++ xs) is_loop ∙ append_assoc start (arms ++ cards) loops)
    ∙ append_assoc start ((arms ++ cards) ++ loops) ends

-- no statement, or no place
none_without : (once : Bool) (ss : List Stmt) (o : Option Stmt) → line_by once ss o None ≡ []
unfolding line_by
none_without once ss None = refl
none_without once ss (Some s) = refl

pub line_at-there : (once : Bool) (ss : List Stmt) (places : List StatementPlace) (i : ℕ) (s : Stmt) (place : StatementPlace) →
    Some s ≡ slice_get ss i → Some place ≡ slice_get places i → line_marks once ss s place ≡ line_at once ss places i
unfolding line_at line_by
line_at-there once ss places i s place there stands = ap (λ o. line_by once ss o (Some place)) there ∙ ap (line_by once ss (slice_get ss i)) stands

pub line_at-no_statement : (once : Bool) (ss : List Stmt) (places : List StatementPlace) (i : ℕ) (xs : List Marked) → None ≡ slice_get ss i → xs ≡ xs ++ line_at once ss places i
unfolding line_at line_by
line_at-no_statement once ss places i xs none = sym (ap (λ ys. xs ++ ys) (ap (λ s. line_by once ss s (slice_get places i)) (sym none)) ∙ append-nil xs)

pub line_at-no_place : (once : Bool) (ss : List Stmt) (places : List StatementPlace) (i : ℕ) (xs : List Marked) → None ≡ slice_get places i → xs ≡ xs ++ line_at once ss places i
unfolding line_at
line_at-no_place once ss places i xs none =
    sym (ap (λ ys. xs ++ ys) (ap (line_by once ss (slice_get ss i)) (sym none) ∙ none_without once ss (slice_get ss i)) ∙ append-nil xs)

-- the first statements, and one more
pub lines_marks-none : (once : Bool) (ss : List Stmt) (places : List StatementPlace) → lines_marks once ss places 0 ≡ []
unfolding lines_marks
lines_marks-none once ss places = joined_none (λ before here. before ++ here) [] (line_at once ss places)

pub lines_marks-more : (once : Bool) (ss : List Stmt) (places : List StatementPlace) (i : ℕ) →
    lines_marks once ss places (i + 1) ≡ lines_marks once ss places i ++ line_at once ss places i
unfolding lines_marks
lines_marks-more once ss places i = joined_more (λ before here. before ++ here) [] (line_at once ss places) i
