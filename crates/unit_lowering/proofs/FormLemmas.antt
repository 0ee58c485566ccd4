-- How statements stand to blocks and loops, by their forms.
use Rattle.std.proofs.Common.{◌≡◌, ℕ, Option, Some, None, refl}
use Rattle.f_tree.specs.declared.expressions.Expr.{Expr}
use Rattle.f_tree.specs.declared.statements.Body.{Body, IfOne', more_of-Body}
use Rattle.f_tree.specs.declared.statements.Body as whole
use Rattle.f_tree.specs.declared.statements.Body.TheVariants as body
use Rattle.f_tree.specs.declared.statements.LoopControl.{LoopControl}
use Rattle.f_tree.specs.Folds.{folds_opened, layer_of}
use Rattle.f_tree.specs.Lines.{mark_of}
use Rattle.unit_lowering.specs.declared.forms.ArmForm.TheVariants as arm
use Rattle.unit_lowering.specs.declared.forms.LoopForm.TheVariants as form
use Rattle.unit_lowering.specs.LineForms.{mark_by, form_in, control_in}

-- blocks
pub mark-IfThen : (e : Expr) → mark_by arm.Opens ≡ mark_of (body.IfThen e)
unfolding mark_by mark_of folds_opened
mark-IfThen e = refl

pub mark-ElseIf : (e : Expr) → mark_by arm.Arm ≡ mark_of (body.ElseIf e)
unfolding mark_by mark_of folds_opened
mark-ElseIf e = refl

pub mark-Else : mark_by arm.Arm ≡ mark_of body.Else
unfolding mark_by mark_of folds_opened
mark-Else = refl

pub mark-EndIf : mark_by arm.Closes ≡ mark_of body.EndIf
unfolding mark_by mark_of folds_opened
mark-EndIf = refl

pub mark-other : (b : Body) → ((e : Expr) → b ≡ body.IfThen e → ⊥) → ((e : Expr) → b ≡ body.ElseIf e → ⊥) → (b ≡ body.Else → ⊥) → (b ≡ body.EndIf → ⊥)
    → mark_by arm.Plain ≡ mark_of b
unfolding mark_by mark_of layer_of
mark-other (whole.IfThen e) h0 h1 h2 h3 = absurd (h0 e refl)
mark-other (whole.ElseIf e) h0 h1 h2 h3 = absurd (h1 e refl)
mark-other whole.Else h0 h1 h2 h3 = absurd (h2 refl)
mark-other whole.EndIf h0 h1 h2 h3 = absurd (h3 refl)
mark-other (IfOne' e s (more_of-Body b r)) h0 h1 h2 h3 = refl
mark-other _ h0 h1 h2 h3 = refl

pub ruleset arm_forms = (mark-IfThen, mark-ElseIf, mark-Else, mark-EndIf, mark-other)

-- loops
pub form-Do : (label : Option ℕ) (control : LoopControl) → form_in (body.Do label control) ≡ form.Counted
unfolding form_in folds_opened
form-Do label control = refl

pub form-DoWhile : (label : Option ℕ) (e : Expr) → form_in (body.DoWhile label e) ≡ form.Tested
unfolding form_in folds_opened
form-DoWhile label e = refl

pub form-other : (b : Body) → ((label : Option ℕ) (control : LoopControl) → b ≡ body.Do label control → ⊥) → ((label : Option ℕ) (e : Expr) → b ≡ body.DoWhile label e → ⊥)
    → form.Other ≡ form_in b
unfolding form_in layer_of
form-other (whole.Do label control) h0 h1 = absurd (h0 label control refl)
form-other (whole.DoWhile label e) h0 h1 = absurd (h1 label e refl)
form-other (IfOne' e s (more_of-Body b r)) h0 h1 = refl
form-other _ h0 h1 = refl

pub ruleset loop_forms = (form-Do, form-DoWhile, form-other)

-- the control of a DO
pub control-Do : (label : Option ℕ) (control : LoopControl) → control_in (body.Do label control) ≡ Some control
unfolding control_in folds_opened
control-Do label control = refl

pub control-other : (b : Body) → ((label : Option ℕ) (control : LoopControl) → b ≡ body.Do label control → ⊥) → None ≡ control_in b
unfolding control_in layer_of
control-other (whole.Do label control) h = absurd (h label control refl)
control-other (IfOne' e s (more_of-Body b r)) h = refl
control-other _ h = refl

pub ruleset control_forms = (control-Do, control-other)
