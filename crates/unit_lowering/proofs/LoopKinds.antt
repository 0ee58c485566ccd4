-- Which loop a statement begins, by its tree and by its form.
use Rattle.std.proofs.Common.{◌≡◌, ℕ, Bool, true, false, Option, Some, None, if◌then◌else◌, refl}
use Rattle.f_tree.specs.declared.expressions.Expr.{Expr}
use Rattle.f_tree.specs.declared.statements.Body.{Body, IfOne', more_of-Body}
use Rattle.f_tree.specs.declared.statements.Body as whole
use Rattle.f_tree.specs.declared.statements.LoopControl.{LoopControl}
use Rattle.f_tree.specs.Folds.{layer_of, fold_body}
use Rattle.f_tree.specs.Reading.{read}
use Rattle.f_tree.specs.Terms.{Terms, refers}
use Rattle.f_tree.specs.Facts.{Form, Passes, On, ToLoop, ToTestLoop}
use Rattle.f_tree.specs.Uses.{heading_of}
use Rattle.f_tree.specs.Lines.{Naming, control_of, is_statement_function, is_text, value_assignment, text_assignment, assignment, assign_form, return_form, transfer_form, auxiliary_form, layer_form, form_of}
use Rattle.f_tree.specs.Nests.{loop_of}
use Rattle.unit_lowering.specs.declared.forms.LoopForm.TheVariants as form
use Rattle.unit_lowering.specs.LineForms.{form_in, control_in}

pub data LoopKind (names : Naming) (b : Body) : Type 0 where
  -- that of a DO
  Counted : (label : Option ℕ) (control : LoopControl) → control_in b ≡ Some control → form_in b ≡ form.Counted → form_of names b ≡ On (ToLoop label) (control_of names control) → LoopKind names b
  -- that of a DO WHILE
  Tested : (label : Option ℕ) (operands : Terms) → control_in b ≡ None → form_in b ≡ form.Tested → form_of names b ≡ On (ToTestLoop label) operands → LoopKind names b
  Other : control_in b ≡ None → form_in b ≡ form.Other → loop_of (form_of names b) ≡ None → LoopKind names b

text_no_loop : (b : Bool) (one other : Form) → loop_of one ≡ None → loop_of other ≡ None → loop_of (if b then one else other) ≡ None
text_no_loop true one other first second = first
text_no_loop false one other first second = second

assigned_no_loop : (names : Naming) (target e : Expr) → loop_of (assign_form names target e) ≡ None
unfolding assign_form assignment text_assignment value_assignment loop_of
assigned_no_loop names target e =
    text_no_loop (is_statement_function names (heading_of target).applied) Passes (assignment names (read names target) (read names e)) refl
    (text_no_loop (is_text names (read names target).base) (text_assignment (read names target) (read names e)) (value_assignment (read names target) (read names e))
    (text_no_loop (refers (read names target).actual) (value_assignment (read names target) (read names e)) _ refl refl) refl)

returned_no_loop : (names : Naming) (e : Option Expr) → loop_of (return_form names e) ≡ None
unfolding return_form loop_of
returned_no_loop names None = refl
returned_no_loop names (Some e) = refl

pub loop_kind : (names : Naming) (b : Body) → LoopKind names b
unfolding control_in form_in form_of layer_form transfer_form auxiliary_form loop_of fold_body layer_of
loop_kind names (whole.Do label control) = Counted label control refl refl refl
loop_kind names (whole.DoWhile label e) = Tested label _ refl refl refl
loop_kind names (whole.Assign target e) = Other refl refl (assigned_no_loop names target e)
loop_kind names (whole.Return e) = Other refl refl (returned_no_loop names e)
loop_kind names (IfOne' e s (more_of-Body b r)) = Other refl refl refl
loop_kind names _ = Other refl refl refl
