-- How statements stand to loops, and what their forms tell.
use Rattle.std.proofs.Common.{◌≡◌, ℕ, suc, Bool, List, [], drop, Option, Some, None, if◌then◌else◌, refl}
use Rattle.f_tree.specs.declared.expressions.Expr.{Expr}
use Rattle.f_tree.specs.declared.statements.Body.{Body, IfOne', more_of-Body}
use Rattle.f_tree.specs.declared.statements.Body as whole
use Rattle.f_tree.specs.declared.statements.Body.TheVariants as body
use Rattle.f_tree.specs.declared.statements.LoopControl.{LoopControl}
use Rattle.f_tree.specs.Folds.{folds_opened, layer_of}
use Rattle.f_tree.specs.Facts.{LoopMark, NoLoop, OpensLoop, ClosesLoop, ProgramUnit}
use Rattle.f_tree.specs.Places.{place_of_label, loop_end_from, terminal_of}
use Rattle.f_tree.specs.Attributes.{option_list}
use Rattle.f_tree.specs.Lines.{loop_label_in, opens_loop, is_loop_label, loop_mark_of}
use Rattle.found_rows.specs.declaration_rows.UnitRows.{Range, range_to, range_in}
use Rattle.loop_ranges.specs.declared.forms.LoopForm.{LoopForm}
use Rattle.loop_ranges.specs.declared.forms.LoopForm.TheVariants as form
use Rattle.loop_ranges.specs.LoopForms.{begun_by, form_of, named_label}

pub form-Do : (label : Option ℕ) (control : LoopControl) → form_of (body.Do label control) ≡ begun_by label
unfolding form_of folds_opened
form-Do label control = refl

pub form-DoWhile : (label : Option ℕ) (e : Expr) → form_of (body.DoWhile label e) ≡ begun_by label
unfolding form_of folds_opened
form-DoWhile label e = refl

pub form-EndDo : form_of body.EndDo ≡ form.EndDo
unfolding form_of folds_opened
form-EndDo = refl

pub form-other : (b : Body) → ((label : Option ℕ) (control : LoopControl) → b ≡ body.Do label control → ⊥) → ((label : Option ℕ) (e : Expr) → b ≡ body.DoWhile label e → ⊥)
    → (b ≡ body.EndDo → ⊥) → form.Other ≡ form_of b
unfolding form_of layer_of
form-other (whole.Do label control) h0 h1 h2 = absurd (h0 label control refl)
form-other (whole.DoWhile label e) h0 h1 h2 = absurd (h1 label e refl)
form-other whole.EndDo h0 h1 h2 = absurd (h2 refl)
form-other (IfOne' e s (more_of-Body b r)) h0 h1 h2 = refl
form-other _ h0 h1 h2 = refl

pub ruleset body_forms = (form-Do, form-DoWhile, form-EndDo, form-other)

-- the label that a loop names
pub label_by_form : (b : Body) → loop_label_in b ≡ named_label (form_of b)
unfolding loop_label_in option_list form_of begun_by named_label layer_of
label_by_form (whole.Do None control) = refl
label_by_form (whole.Do (Some label) control) = refl
label_by_form (whole.DoWhile None e) = refl
label_by_form (whole.DoWhile (Some label) e) = refl
label_by_form (IfOne' e s (more_of-Body b r)) = refl
label_by_form _ = refl

-- how a statement stands in the nest of the loops that END DO ends
unfoldable pub mark_by : LoopForm → Bool → LoopMark
mark_by (form.ToLabel label) terminal = NoLoop
mark_by form.ToEndDo terminal = OpensLoop
mark_by form.EndDo terminal = if terminal then NoLoop else ClosesLoop
mark_by form.Other terminal = NoLoop

pub mark_by_form : (labels : List ℕ) (label : Option ℕ) (b : Body) → loop_mark_of labels label b ≡ mark_by (form_of b) (is_loop_label labels label)
unfolding loop_mark_of opens_loop form_of begun_by mark_by layer_of
mark_by_form labels label (whole.Do None control) = refl
mark_by_form labels label (whole.Do (Some terminal) control) = refl
mark_by_form labels label (whole.DoWhile None e) = refl
mark_by_form labels label (whole.DoWhile (Some terminal) e) = refl
mark_by_form labels label (IfOne' e s (more_of-Body b r)) = refl
mark_by_form labels label _ = refl

-- the range of the loop that a statement at a place begins
unfoldable pub range_by : ProgramUnit → ℕ → LoopForm → List Range
range_by p i (form.ToLabel label) = range_to i (place_of_label p label)
range_by p i form.ToEndDo = range_to i (loop_end_from (suc i) 0 (drop (suc i) p.lines))
range_by p i form.EndDo = []
range_by p i form.Other = []

pub range_by_form : (p : ProgramUnit) (i : ℕ) (b : Body) → range_in p i b ≡ range_by p i (form_of b)
unfolding range_in terminal_of form_of begun_by range_by layer_of
range_by_form p i (whole.Do None control) = refl
range_by_form p i (whole.Do (Some label) control) = refl
range_by_form p i (whole.DoWhile None e) = refl
range_by_form p i (whole.DoWhile (Some label) e) = refl
range_by_form p i (IfOne' e s (more_of-Body b r)) = refl
range_by_form p i _ = refl
