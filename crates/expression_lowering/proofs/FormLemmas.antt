-- A form of an expression from what its parts are lowered to, as the code meets it.
use Rattle.std.specs.declared.alloc.AllocError.{AllocError}
use Rattle.std.specs.Prelude.{◌≡◌, ℕ, Bool, true, false, ◌&&◌, List, [], Result, IfOk}
use Rattle.std.proofs.Common.{refl, subst}
use Rattle.f_tree.specs.declared.expressions.Expr.{Expr}
use Rattle.f_tree.specs.Values.{Bytes}
use Rattle.f_tree.specs.Terms.{Prefix, Operator, Function, Power}
use Rattle.lowered_tree.specs.l_core.Pures as core
use Rattle.lowering.specs.Expressions as low
use Rattle.lowered_tree.specs.declared.steps.Step.{Step}
use Rattle.lowered_tree.specs.declared.pures.Operator.{Operator as CodeOperator}
use Rattle.lowered_tree.specs.Shapes.{operator_of, pure_of, pures_of, steps_of}
use Rattle.name_facts.specs.declared.table.NameFacts.{NameFacts}
use Rattle.name_facts.specs.GivenFacts.{fact_in}
use Rattle.expression_lowering.specs.declared.purpose.Aspect.TheVariants.{Value, Actual}
use Rattle.expression_lowering.specs.declared.operators.BinaryForm.{BinaryForm}
use Rattle.expression_lowering.specs.declared.operators.BinaryForm.TheVariants as form
use Rattle.expression_lowering.specs.declared.operators.Plan.{Plan}
use Rattle.expression_lowering.specs.declared.operators.Plan.TheVariants as plan
use Rattle.expression_lowering.specs.declared.answers.Lowered.{Lowered}
use Rattle.expression_lowering.specs.declared.answers.Operands.{Operands}
use Rattle.expression_lowering.specs.LoweredForms.{lowered, lowered_list, has_reference, takes_any_step, prefixed_form, function_form, callee_of_fact, reference_form, place_form, element_form, two_operands, power_form, operated_form, guarded_form, decided_form, between_form, is_form, binary_form, plan_between, plan_of, left_for, right_for, start_for, planned_form}
use Rattle.expression_lowering.specs.Outcomes.{IsLowered, AreLowered, IsPlain, IsClosed, IsGuarded, IsJoined}
use Rattle.expression_lowering.proofs.Closings.{one-lowered, list-lowered, behind-lowered, guard-lowered, place-lowered}

pub of-prefixed : (table : NameFacts) (op : Prefix) (q : low.Purpose) (k : ℕ) (e : Expr) (before between after : List Step) (l : Lowered) (r : Result Lowered AllocError) →
    IsLowered (lowered table Value low.ForUse k e) before between l → IfOk r (IsClosed (low.AsBefore op) q k l.free (core.AndPure (pure_of l.value) core.NoPure) between after) →
    IfOk r (IsLowered (prefixed_form table op q k e) before after)
unfolding prefixed_form
of-prefixed table op q k e before between after l r is h =
    one-lowered (low.AsBefore op) q k l.free (pure_of l.value) (lowered table Value low.ForUse k e) before between after l r is refl refl h

pub of-function : (table : NameFacts) (f : Function) (wanted q : low.Purpose) (k : ℕ) (es : List Expr) (before between after : List Step) (l : Operands) (r : Result Lowered AllocError) →
    wanted ≡ low.for_function (low.is_library f) → AreLowered (lowered_list table Value wanted k es) before between l →
    IfOk r (IsClosed (low.AsFunction f) q k l.free (pures_of l.values) between after) → IfOk r (IsLowered (function_form table q k f es) before after)
unfolding function_form
of-function table f wanted q k es before between after l r as_wanted are h =
    list-lowered (low.AsFunction f) q k (lowered_list table Value (low.for_function (low.is_library f)) k es) before between after l r
    (subst (λ (p : low.Purpose). AreLowered (lowered_list table Value p k es) before between l) as_wanted are) h

pub of-reference : (table : NameFacts) (x : Bytes) (q : low.Purpose) (k : ℕ) (es : List Expr) (before between after : List Step) (l : Operands) (r : Result Lowered AllocError) →
    AreLowered (lowered_list table Actual low.ForCall k es) before between l →
    IfOk r (IsClosed (low.AsReference (callee_of_fact x (fact_in table x))) q k l.free (pures_of l.values) between after) →
    IfOk r (IsLowered (reference_form table q k x es) before after)
unfolding reference_form
of-reference table x q k es before between after l r are h =
    list-lowered (low.AsReference (callee_of_fact x (fact_in table x))) q k (lowered_list table Actual low.ForCall k es) before between after l r are h

pub of-place : (table : NameFacts) (x : Bytes) (wanted q : low.Purpose) (k : ℕ) (es : List Expr) (before after : List Step) (l : Operands) (r : Result Lowered AllocError) →
    wanted ≡ low.for_place q → AreLowered (lowered_list table Value wanted k es) before after l →
    IfOk r (IsPlain (core.ElementOf x (pures_of l.values)) l.free) → IfOk r (IsLowered (place_form table q k x es) before after)
unfolding place_form
of-place table x wanted q k es before after l r as_wanted are h =
    place-lowered x q k (lowered_list table Value (low.for_place q) k es) before after l r
    (subst (λ (p : low.Purpose). AreLowered (lowered_list table Value p k es) before after l) as_wanted are) h

pub of-loaded : (table : NameFacts) (x : Bytes) (q : low.Purpose) (k : ℕ) (es : List Expr) (before between after : List Step) (l : Lowered) (r : Result Lowered AllocError) →
    IsLowered (place_form table low.ForUse k x es) before between l → IfOk r (IsClosed low.AsFetch q k l.free (core.AndPure (pure_of l.value) core.NoPure) between after) →
    IfOk r (IsLowered (element_form table Value q k x es) before after)
unfolding element_form
of-loaded table x q k es before between after l r is h =
    one-lowered low.AsFetch q k l.free (pure_of l.value) (place_form table low.ForUse k x es) before between after l r is refl refl h

pub of-guarded : (table : NameFacts) (op : Operator) (k : ℕ) (a b : Expr) (before between none behind after : List Step) (one other : Lowered) (r : Result Lowered AllocError) →
    none ≡ [] → IsLowered (lowered table Value low.ForUse k a) before between one → IsLowered (lowered table Value low.ForUse k b) none behind other →
    IfOk r (IsGuarded op k (pure_of one.value) (steps_of behind) (pure_of other.value) between after) → IfOk r (IsLowered (guarded_form table op k a b) before after)
unfolding guarded_form
of-guarded table op k a b before between none behind after one other r is_none first second h =
    guard-lowered op k (pure_of one.value) (pure_of other.value) (lowered table Value low.ForUse k a) (lowered table Value low.ForUse k b) before between behind after one other r
    first (subst (λ (ss : List Step). IsLowered (lowered table Value low.ForUse k b) ss behind other) is_none second) refl refl h

-- two operands as they are planned
pub of-planned : (p : Plan) (table : NameFacts) (q : low.Purpose) (k : ℕ) (a b : Expr) (before between behind after : List Step) (one other : Lowered) (r : Result Lowered AllocError) →
    IsLowered (lowered table Value (left_for p (has_reference table b)) k a) before between one →
    IsLowered (lowered table Value (right_for p) (start_for p k one.free) b) [] behind other →
    IfOk r (IsJoined p q k other.free (pure_of one.value) (steps_of behind) (pure_of other.value) between after) →
    IfOk r (IsLowered (planned_form table p q k a b) before after)
unfolding left_for right_for start_for planned_form IsJoined operated_form power_form two_operands
of-planned (plan.Guarded op) table q k a b before between behind after one other r first second h =
    of-guarded table (operator_of op) k a b before between [] behind after one other r refl first second h
of-planned (plan.Between op) table q k a b before between behind after one other r first second h =
    behind-lowered (low.AsBetween (operator_of op)) q k (lowered table Value (low.ahead low.ForUse (has_reference table b)) k a) (λ n. lowered table Value low.ForUse n b) before between behind after
    one other r first second h
of-planned plan.Power table q k a b before between behind after one other r first second h =
    behind-lowered (low.AsFunction Power) q k (lowered table Value (low.ahead low.ForReading (has_reference table b)) k a) (λ n. lowered table Value low.ForReading n b) before between behind after
    one other r first second h

-- the plan of a form makes that form
power-planned : (table : NameFacts) (q : low.Purpose) (k : ℕ) (a b : Expr) → planned_form table plan.Power q k a b ≡ power_form table q k a b
unfolding planned_form
power-planned table q k a b = refl

between-planned : (g : Bool) (table : NameFacts) (op : CodeOperator) (q : low.Purpose) (k : ℕ) (a b : Expr) →
    planned_form table (plan_between g op) q k a b ≡ decided_form g table (operator_of op) q k a b
unfolding planned_form plan_between decided_form
between-planned true table op q k a b = refl
between-planned false table op q k a b = refl

pub form-planned : (f : BinaryForm) (table : NameFacts) (q : low.Purpose) (k : ℕ) (a b : Expr) → is_form f ≡ true → planned_form table (plan_of table f b) q k a b ≡ binary_form table f q k a b
unfolding plan_of binary_form between_form is_form
form-planned form.Power table q k a b h = power-planned table q k a b
form-planned (form.Operator op) table q k a b h = between-planned (low.may_decide (operator_of op) && takes_any_step table b) table op q k a b
form-planned form.Concatenation table q k a b h = absurd (cc)
