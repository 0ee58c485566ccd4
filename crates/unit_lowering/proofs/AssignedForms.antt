-- The labels that ASSIGN statements name, by the forms of statements.
use Rattle.std.proofs.Common.{◌≡◌, ℕ, Bool, List, [], ◌∷◌, ◌++◌, map, Some, None, refl, sym, ap, ◌∙◌}
use Rattle.std.proofs.lemmas.List.{append-nil}
use Rattle.f_tree.specs.Values.{Bytes}
use Rattle.f_tree.specs.declared.expressions.Expr.{Expr}
use Rattle.f_tree.specs.declared.statements.Body as whole
use Rattle.f_tree.specs.declared.statements.Body.{Body, IfOne', more_of-Body, end_of-Body}
use Rattle.f_tree.specs.declared.statements.Body.TheVariants as body
use Rattle.f_tree.specs.declared.statements.Stmt.{Stmt}
use Rattle.f_tree.specs.Attributes.{from_all}
use Rattle.f_tree.specs.Folds.{folds_opened, fold_body}
use Rattle.f_tree.specs.Facts.{ProgramUnit}
use Rattle.f_tree.specs.Lines.{Naming, return_form, transfer_form, auxiliary_form, layer_form, form_of, loop_label_in, line_of}
use Rattle.f_tree.specs.Step.{assigned_by, assigned_in}
use Rattle.statement_places.specs.open_loops.ReadLines.{IsReadAs}
use Rattle.statement_places.proofs.BodyForms.{of_assign}
use Rattle.unit_lowering.specs.AssignedLabels.{layer_assigned, assigned_of}

-- EACH FORM
pub assigned-AssignLabel : (label : ℕ) (x : Bytes) → assigned_of (body.AssignLabel label x) ≡ label ∷ []
unfolding folds_opened assigned_of layer_assigned
assigned-AssignLabel label x = refl

pub assigned-IfOne : (e : Expr) (b : Body) → assigned_of (body.IfOne e b) ≡ assigned_of b
unfolding folds_opened assigned_of layer_assigned
assigned-IfOne e b = refl

pub assigned-other : (b : Body) → ((label : ℕ) (x : Bytes) → b ≡ body.AssignLabel label x → ⊥) → ((e : Expr) (inner : Body) → b ≡ body.IfOne e inner → ⊥) → assigned_of b ≡ []
unfolding assigned_of layer_assigned folds_opened
assigned-other (whole.AssignLabel label x) h0 h1 = absurd (h0 label x refl)
assigned-other (IfOne' e s (more_of-Body b end_of-Body)) h0 h1 = absurd (h1 e b refl)
assigned-other _ h0 h1 = refl

pub ruleset assigned_forms = (assigned-AssignLabel, assigned-IfOne)

-- ONE STATEMENT BEHIND ANOTHER
pub nothing_added : (xs ys : List ℕ) → ys ≡ [] → xs ≡ xs ++ ys
nothing_added xs ys is = sym (append-nil xs) ∙ ap (λ zs. xs ++ zs) (sym is)

pub assigned_step : (s : Stmt) (ss : List Stmt) → from_all assigned_of (s ∷ ss) ≡ assigned_of s.body ++ from_all assigned_of ss
unfolding from_all
assigned_step s ss = refl

pub assigned_none : from_all assigned_of [] ≡ []
unfolding from_all
assigned_none = refl

-- THE LINES OF STATEMENTS name the same
assigned_form : (names : Naming) (b : Body) → assigned_by (form_of names b) ≡ assigned_of b
unfolding fold_body form_of layer_form return_form transfer_form auxiliary_form assigned_of layer_assigned assigned_by
assigned_form names (whole.Assign target e) = of_assign (λ form. assigned_by form ≡ []) refl (λ ts. refl) (λ ts. refl) names target e
assigned_form names (IfOne' e s (more_of-Body b r)) = assigned_form names b
assigned_form names (whole.Return None) = refl
assigned_form names (whole.Return (Some e)) = refl
assigned_form names _ = refl

assigned_lines : (names : Naming) (labels : List ℕ) (ss : List Stmt) → assigned_in (map (line_of names labels) ss) ≡ from_all assigned_of ss
unfolding assigned_in from_all line_of
assigned_lines names labels [] = refl
assigned_lines names labels (s ∷ ss) =
    ap (λ ls. ls ++ assigned_in (map (line_of names labels) ss)) (assigned_form names s.body) ∙ ap (λ ls. assigned_of s.body ++ ls) (assigned_lines names labels ss)

pub assigned_read : (p : ProgramUnit) (once : Bool) (names : Naming) (ss : List Stmt) → IsReadAs p once names ss → assigned_in p.lines ≡ from_all assigned_of ss
assigned_read p once names ss told = ap assigned_in told.lines ∙ assigned_lines names (from_all loop_label_in ss) ss
