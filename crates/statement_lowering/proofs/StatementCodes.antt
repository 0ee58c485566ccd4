-- The steps of each form, by its operands.
use Rattle.std.specs.Prelude.{◌≡◌, ℕ, pos, Bool, List, [], ◌∷◌, length, map, Option, Some, None}
use Rattle.std.proofs.Common.{refl, ap}
use Rattle.f_tree.specs.declared.expressions.Expr.{Expr}
use Rattle.f_tree.specs.Values.{Bytes, IsInt}
use Rattle.f_tree.specs.Terms.{IsLess, IsEqual, NoMore, More, any_refers}
use Rattle.f_tree.specs.Reading.{read}
use Rattle.f_tree.specs.Lines.{Naming, value_of, value_assignment, return_form}
use Rattle.lowered_tree.specs.l_core.Pures as core
use Rattle.lowered_tree.specs.l_core.Steps as act
use Rattle.lowering.specs.Expressions as low
use Rattle.lowering.specs.Expressions.{expressions_opened}
use Rattle.lowering.specs.Statements.{behind_operands, with_operands, put_code, put_label_code, each_once, jump_by_code, guard_code, select_code, sign_code, unless_code, back_code, form_code, head_code}
use Rattle.statement_lowering.specs.StatementForms as form

pub code-passing : (once : Bool) (k n : ℕ) (names : Naming) → form_code once k n (form.passing names) ≡ Some []
unfolding form_code form.passing
code-passing once k n names = refl

pub code-going : (once : Bool) (k n label : ℕ) (names : Naming) → form_code once k n (form.going label names) ≡ Some (act.Jump label ∷ [])
unfolding form_code head_code form.going
code-going once k n label names = refl

pub code-ending : (once : Bool) (k n : ℕ) (names : Naming) → form_code once k n (form.ending names) ≡ Some (act.Back ∷ [])
unfolding form_code head_code form.ending
code-ending once k n names = refl

pub code-stopping : (once : Bool) (k n : ℕ) (text : Bytes) (names : Naming) → form_code once k n (form.stopping text names) ≡ Some (act.Halt text ∷ [])
unfolding form_code head_code form.stopping
code-stopping once k n text names = refl

pub code-picking : (once : Bool) (k n : ℕ) (labels : List ℕ) (e : Expr) (names : Naming) →
    form_code once k n (form.picking labels e names) ≡ with_operands (low.lower_all core.NoPure low.ForUse k (More (value_of names e) NoMore)) (select_code labels)
unfolding form_code head_code form.picking
code-picking once k n labels e names = refl

pub code-entering : (once : Bool) (k n : ℕ) (e : Expr) (names : Naming) →
    form_code once k n (form.entering e names) ≡ with_operands (low.lower_all core.NoPure low.ForUse k (More (value_of names e) NoMore)) (unless_code n [])
unfolding form_code head_code form.entering
code-entering once k n e names = refl

pub code-testing : (once : Bool) (k n : ℕ) (label : Option ℕ) (e : Expr) (names : Naming) →
    form_code once k n (form.testing label e names) ≡ with_operands (low.lower_all core.NoPure low.ForUse k (More (value_of names e) NoMore)) (unless_code n [])
unfolding form_code head_code form.testing
code-testing once k n label e names = refl

pub code-going_by_sign : (once : Bool) (k n : ℕ) (e : Expr) (below at above : ℕ) (names : Naming) →
    form_code once k n (form.going_by_sign e below at above names) ≡ with_operands (low.lower_all core.NoPure low.ForLater k (More (value_of names e) NoMore)) (sign_code below at above)
unfolding form_code head_code form.going_by_sign
code-going_by_sign once k n e below at above names = refl

pub code-returning : (once : Bool) (k n : ℕ) (e : Expr) (names : Naming) →
    form_code once k n (form.returning (Some e) names) ≡ with_operands (low.lower_all core.NoPure low.ForUse k (More (value_of names e) NoMore)) back_code
unfolding form_code head_code form.returning return_form
code-returning once k n e names = refl

pub closes-select : (labels : List ℕ) (p : core.Pure) → select_code labels (core.AndPure p core.NoPure) ≡ Some (act.Select p (length labels) ∷ map act.Jump labels)
unfolding select_code
closes-select labels p = refl

pub closes-unless : (n : ℕ) (under : List act.Step) (p : core.Pure) → unless_code n under (core.AndPure p core.NoPure) ≡ Some (act.Unless p n ∷ under)
unfolding unless_code
closes-unless n under p = refl

pub closes-back : (p : core.Pure) → back_code (core.AndPure p core.NoPure) ≡ Some (act.BackBy p ∷ [])
unfolding back_code
closes-back p = refl

pub code-going_assigned : (once : Bool) (k n : ℕ) (x : Bytes) (labels : List ℕ) (names : Naming) →
    form_code once k n (form.going_assigned x labels names) ≡ Some (act.JumpBy (core.Name x) (each_once labels) ∷ map act.Jump (each_once labels))
unfolding form_code head_code form.going_assigned with_operands behind_operands jump_by_code expressions_opened any_refers
code-going_assigned once k n x labels names = refl

pub code-assigning_label : (once : Bool) (k n label : ℕ) (x : Bytes) (names : Naming) →
    form_code once k n (form.assigning_label label x names) ≡ Some (act.PutLabel (core.Name x) label ∷ [])
unfolding form_code head_code form.assigning_label with_operands behind_operands put_label_code expressions_opened any_refers
code-assigning_label once k n label x names = refl

pub code-answering : (once : Bool) (k n : ℕ) (names : Naming) → form_code once k n (form.returning None names) ≡ Some (act.Back ∷ [])
unfolding form_code head_code form.returning return_form with_operands behind_operands back_code expressions_opened
code-answering once k n names = refl

pub code-guarding : (once : Bool) (k n : ℕ) (e : Expr) (forms : form.Forms) (under : List act.Step) (names : Naming) → form_code once k 0 (forms names) ≡ Some under →
    form_code once k n (form.guarding e forms names) ≡ with_operands (low.lower_all core.NoPure low.ForUse k (More (value_of names e) NoMore)) (unless_code (length under) under)
unfolding form_code head_code form.guarding guard_code
code-guarding once k n e forms under names is = ap (guard_code (low.lower_all core.NoPure low.ForUse k (More (value_of names e) NoMore))) is

pub code-setting : (once : Bool) (k n : ℕ) (target e : Expr) (names : Naming) →
    form_code once k n (form.setting target e names) ≡ with_operands (low.lower_all core.NoPure low.ForUse k (More (read names e).value (More (read names target).actual NoMore))) put_code
unfolding form_code head_code form.setting value_assignment
code-setting once k n target e names = refl

pub code-while : (once : Bool) (k n : ℕ) (label : Option ℕ) (e : Expr) (names : Naming) → form_code once k n (form.testing label e names) ≡ form_code once k n (form.entering e names)
unfolding form_code head_code form.testing form.entering
code-while once k n label e names = refl

pub closes-put : (p place : core.Pure) → put_code (core.AndPure p (core.AndPure place core.NoPure)) ≡ Some (act.Put place p ∷ [])
unfolding put_code
closes-put p place = refl

pub closes-sign : (below at above : ℕ) (p : core.Pure) → sign_code below at above (core.AndPure p core.NoPure)
    ≡ Some (act.Unless (core.Operated IsLess p (core.Constant (IsInt (pos 0)))) 1 ∷ act.Jump below ∷ act.Unless (core.Operated IsEqual p (core.Constant (IsInt (pos 0)))) 1 ∷ act.Jump at ∷ act.Jump above ∷ [])
unfolding sign_code
closes-sign below at above p = refl
