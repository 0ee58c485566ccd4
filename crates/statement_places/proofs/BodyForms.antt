-- What statements are, by their forms.
use Rattle.std.proofs.Common.{◌≡◌, ℕ, Bool, true, false, [], ◌∷◌, ◌++◌, Option, Some, None, if◌then◌else◌, refl}
use Rattle.f_tree.specs.declared.expressions.Expr.{Expr}
use Rattle.f_tree.specs.declared.statements.Body as whole
use Rattle.f_tree.specs.declared.statements.Body.{Body, IfOne', more_of-Body}
use Rattle.f_tree.specs.declared.statements.Body.TheOpen as body
use Rattle.f_tree.specs.declared.statements.LoopControl.{LoopControl}
use Rattle.f_tree.specs.Folds.{fold_body, layer_of}
use Rattle.f_tree.specs.Facts.{ToSet, ToSetText, ToLoop, Form, Passes, On}
use Rattle.f_tree.specs.Nests.{loop_of}
use Rattle.f_tree.specs.Reading.{Read, read}
use Rattle.f_tree.specs.Terms.{Terms, terms, refers}
use Rattle.f_tree.specs.Uses.{heading_of}
use Rattle.f_tree.specs.Lines.{Naming, transfer_form, auxiliary_form, is_statement_function, is_text, value_assignment, text_assignment, assignment, assign_form, return_form, layer_form, form_of}
use Rattle.statement_places.specs.StatementSizes.{is_do}

-- what holds of an assignment, whatever is assigned
module _ (P : Form → Type 0) (passes : P Passes) (sets : (ts : Terms) → P (On ToSet ts)) (sets_text : (ts : Terms) → P (On ToSetText ts)) where
  of_value : (target e : Read) → P (value_assignment target e)
  unfolding value_assignment
  of_value target e = sets _

  of_text_by : (b : Bool) (target e : Read) (ts : Terms) → P (if b then value_assignment target e else On ToSetText ts)
  of_text_by true target e ts = of_value target e
  of_text_by false target e ts = sets_text ts

  of_text : (target e : Read) → P (text_assignment target e)
  unfolding text_assignment
  of_text target e = of_text_by (refers target.actual) target e (terms (e.pieces ++ target.actual ∷ []))

  of_either : (b : Bool) (target e : Read) → P (if b then text_assignment target e else value_assignment target e)
  of_either true target e = of_text target e
  of_either false target e = of_value target e

  of_assignment : (names : Naming) (target e : Read) → P (assignment names target e)
  unfolding assignment
  of_assignment names target e = of_either (is_text names target.base) target e

  of_assign_by : (b : Bool) (names : Naming) (target e : Read) → P (if b then Passes else assignment names target e)
  of_assign_by true names target e = passes
  of_assign_by false names target e = of_assignment names target e

  pub of_assign : (names : Naming) (target e : Expr) → P (assign_form names target e)
  unfolding assign_form
  of_assign names target e = of_assign_by (is_statement_function names (heading_of target).applied) names (read names target) (read names e)

-- DO STATEMENTS
pub do-other : (b : Body) → ((label : Option ℕ) (control : LoopControl) → b ≡ whole.Do label control → ⊥) → false ≡ is_do b
unfolding is_do layer_of
do-other (whole.Do label control) other = absurd (other label control refl)
do-other (IfOne' e s (more_of-Body b r)) other = refl
do-other _ other = refl

abbrev pub counts : Form → Bool
counts form = elim form [ Passes ↦ false | On head operands ↦ elim head [ ToLoop label ↦ true | _ ↦ false ] ]

pub counts_form : (names : Naming) (b : Body) → counts (form_of names b) ≡ is_do b
unfolding form_of fold_body layer_form is_do layer_of return_form transfer_form auxiliary_form
counts_form names (whole.Assign target e) = of_assign (λ form. counts form ≡ false) refl (λ ts. refl) (λ ts. refl) names target e
counts_form names (IfOne' e s (more_of-Body b r)) = refl
counts_form names (whole.Return None) = refl
counts_form names (whole.Return (Some e)) = refl
counts_form names _ = refl

-- the label that a loop names, if a statement begins one
abbrev pub loop_in : Body → Option (Option ℕ)
loop_in b = elim (layer_of b) [ body.Do label control ↦ Some label | body.DoWhile label e ↦ Some label | _ ↦ None ]

pub loop_of_form : (names : Naming) (b : Body) → loop_of (form_of names b) ≡ loop_in b
unfolding form_of fold_body layer_form loop_of layer_of return_form transfer_form auxiliary_form
loop_of_form names (whole.Assign target e) = of_assign (λ form. loop_of form ≡ None) refl (λ ts. refl) (λ ts. refl) names target e
loop_of_form names (IfOne' e s (more_of-Body b r)) = refl
loop_of_form names (whole.Return None) = refl
loop_of_form names (whole.Return (Some e)) = refl
loop_of_form names _ = refl
