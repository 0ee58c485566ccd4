-- Where the terminal statement of a loop is, by the range of the loop, and whether the range ends.
use Rattle.std.proofs.Common.{◌≡◌, ℕ, ◌&&◌, List, [], ◌∷◌, length, Option, Some, None, refl, sym, ap, ◌∙◌}
use Rattle.f_tree.specs.declared.statements.Body.{Body}
use Rattle.f_tree.specs.declared.statements.Stmt.{Stmt}
use Rattle.f_tree.specs.Facts.{ProgramUnit}
use Rattle.f_tree.specs.Places.{terminal_of}
use Rattle.declaration_rows.specs.UnitRows.{Range, range_to, range_in, is_behind, may_end}
use Rattle.loop_ranges.specs.LoopForms.{begun_by, form_of}
use Rattle.loop_ranges.proofs.FormLemmas.{range_by, range_by_form}
use Rattle.statements_judge.specs.UnitLoops.{may_end_form, range_ends}

last_of : List Range → Option ℕ
last_of [] = None
last_of (r ∷ rs) = Some r.last

last_to : (i : ℕ) (at : Option ℕ) → last_of (range_to i at) ≡ at
unfolding range_to last_of
last_to i None = refl
last_to i (Some k) = refl

range_begun : (p : ProgramUnit) (i : ℕ) (label : Option ℕ) → range_by p i (begun_by label) ≡ range_to i (terminal_of p i label)
unfolding range_by begun_by terminal_of
range_begun p i None = refl
range_begun p i (Some label) = refl

terminal_is : (p : ProgramUnit) (i : ℕ) (b : Body) (label at : Option ℕ) → form_of b ≡ begun_by label → range_to i at ≡ range_in p i b → terminal_of p i label ≡ at
terminal_is p i b label at form range =
    sym (last_to i (terminal_of p i label))
    ∙ ap last_of (sym (range_begun p i label) ∙ ap (range_by p i) (sym form) ∙ sym (range_by_form p i b) ∙ sym range)
    ∙ last_to i at

ends_begun : (ss : List Stmt) (i : ℕ) (label at : Option ℕ) → (is_behind i (length ss) at && may_end ss label at) ≡ range_ends ss (begun_by label) i at
unfolding range_ends may_end_form begun_by may_end
ends_begun ss i None at = refl
ends_begun ss i (Some label) at = refl

pub loop_ends : (ss : List Stmt) (p : ProgramUnit) (i : ℕ) (b : Body) (at : Option ℕ) → range_to i at ≡ range_in p i b → (label : Option ℕ) → form_of b ≡ begun_by label
    → (is_behind i (length ss) (terminal_of p i label) && may_end ss label (terminal_of p i label)) ≡ range_ends ss (form_of b) i at
loop_ends ss p i b at range label form =
    ap (λ o. is_behind i (length ss) o && may_end ss label o) (terminal_is p i b label at form range) ∙ ends_begun ss i label at ∙ ap (λ f. range_ends ss f i at) (sym form)
