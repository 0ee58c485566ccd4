use Rattle.std.proofs.Common.{◌≡◌, ℕ, ◌+◌, ◌-◌, ◌⊎◌, inl, inr, List, length, drop, take, refl, ap, sym, subst, ◌∙◌, option_map, Ok, rules, arith}
use Rattle.std.proofs.lemmas.Grind.{common_steps}
use Rattle.lowered_tree.specs.declared.pures.Pure.{Pure}
use Rattle.lowered_tree.specs.declared.steps.Step.{Step}
use Rattle.expression_lowering.specs.declared.operators.BinaryForm.{BinaryForm}
use Rattle.expression_lowering.specs.declared.operators.Plan.{Plan}
use Rattle.expression_lowering.specs.Outcomes.{IsLowered}
use Rattle.expression_lowering.proofs.Walks.{IsOnward, onward-start, onward-more, onward-done, covered-first, covered-rest}
use Rattle.f_tree.specs.declared.names.Class.{Class}
use Rattle.f_tree.specs.declared.names.Class.TheVariants as class
use Rattle.f_tree.specs.declared.expressions.Expr.{Expr}
use Rattle.f_tree.specs.declared.expressions.Expr as tree
use Rattle.f_tree.specs.Values.{Bytes, IsInt, IsLog, IsText, IsLabel}
use Rattle.f_tree.specs.Terms.{Negate, Complement}
use Rattle.f_tree.specs.Reading.{function_named}
use Rattle.lowered_tree.specs.l_core.Pures as core
use Rattle.lowering.specs.Expressions as low
use Rattle.lowered_tree.specs.Shapes.{prefix_of, function_of}
use Rattle.name_facts.specs.declared.table.NameFacts.{NameFacts}
use Rattle.name_facts.specs.GivenFacts.{fact_in, datum_of}
use Rattle.expression_lowering.specs.declared.purpose.Aspect.TheVariants.{Value}
use Rattle.expression_lowering.specs.declared.purpose.Aspect.{Aspect}
use Rattle.expression_lowering.specs.Purposes.{purpose_of}
use Rattle.expression_lowering.specs.TableNames.{is_lowered_value, name_lowers}
use Rattle.expression_lowering.specs.LoweredForms as spec
use Rattle.expression_lowering.proofs.CoveredForms.{covered-Minus, covered-Plus, covered-Not, covered-Paren, covered-Name, operand-one, operand-either, operands-read, name-read, left-read, right-read}
use Rattle.expression_lowering.proofs.LoweredForms as forms
use Rattle.expression_lowering.proofs.Closings.{leaf-lowered, as-lowered}
use Rattle.expression_lowering.proofs.FormLemmas.{of-prefixed, of-function, of-reference, of-place, of-loaded, of-planned, form-planned}
use Rattle.expression_lowering.proofs.expressions.+lower.Goals as goal

pub lower_prefixed-returns : goal.lower_prefixed-returns
lower_prefixed-returns t c =
    of-prefixed c.args.table.now (prefix_of c.args.op) (purpose_of c.args.purpose) c.args.free c.args.operand.now c.args.steps.now.items c.lower.new.steps.items
    c.prefix.new.steps.items c.in_ok-value.value c.prefix.result c.in_ok-value.ensures c.prefix.ensures

pub lower_function-returns : goal.lower_function-returns
lower_function-returns t c =
    of-function c.args.table.now (function_of c.args.function) (purpose_of c.for_function-wanted.result) (purpose_of c.args.purpose) c.args.free c.args.es.now
    c.args.steps.now.items c.lower_list.new.steps.items c.apply.new.steps.items c.in_ok-operands.operands c.apply.result
    (c.for_function-wanted.ensures ∙ ap low.for_function c.is_library.ensures) c.in_ok-operands.ensures c.apply.ensures

pub lower_reference-returns : goal.lower_reference-returns
lower_reference-returns t c =
    of-reference c.args.table.now c.args.name.now (purpose_of c.args.purpose) c.args.free c.args.es.now
    c.args.steps.now.items c.lower_list.new.steps.items c.call.new.steps.items c.in_ok-operands.operands c.call.result c.in_ok-operands.ensures c.call.ensures

pub lower_place-returns : goal.lower_place-returns
lower_place-returns t c =
    of-place c.args.table.now c.args.name.now (purpose_of c.for_place-wanted.result) (purpose_of c.args.purpose) c.args.free c.args.es.now
    c.args.steps.now.items c.lower_list.new.steps.items c.in_ok-operands.operands c.element.result c.for_place-wanted.ensures c.in_ok-operands.ensures c.element.ensures

pub lower_element-returns-in_ok-place-in-Value : goal.lower_element-returns-in_ok-place-in-Value
lower_element-returns-in_ok-place-in-Value t c =
    let T = c.args.table.now in
    let q = purpose_of c.args.purpose in
    let k = c.args.free in
    let x = c.args.name.now in
    let es = c.args.es.now in
    as-lowered (spec.element_form T Value q k x es) (spec.element_form T c.args.aspect q k x es) c.args.steps.now.items c.load.new.steps.items c.load.result
    (ap (λ a. spec.element_form T a q k x es) (sym c.in-Value.is))
    (of-loaded T x q k es c.args.steps.now.items c.lower_place.new.steps.items c.load.new.steps.items c.in_ok-place-in-Value.place c.load.result
    c.in_ok-place-in-Value.ensures c.load.ensures)

pub lower_element-returns-in-Actual : goal.lower_element-returns-in-Actual
unfolding spec.element_form
lower_element-returns-in-Actual t c =
    let T = c.args.table.now in
    let q = purpose_of c.args.purpose in
    let k = c.args.free in
    let x = c.args.name.now in
    let es = c.args.es.now in
    as-lowered (spec.place_form T q k x es) (spec.element_form T c.args.aspect q k x es) c.args.steps.now.items c.lower_place-in-Actual.new.steps.items c.lower_place-in-Actual.result
    (ap (λ a. spec.element_form T a q k x es) (sym c.in-Actual.is)) c.lower_place-in-Actual.ensures

pub lower_intrinsic-returns-in-None : goal.lower_intrinsic-returns-in-None
unfolding spec.intrinsic_form
lower_intrinsic-returns-in-None t c =
    let form = spec.intrinsic_form c.args.table.now (purpose_of c.args.purpose) c.args.free c.args.name.now in
    as-lowered (spec.reference_form c.args.table.now (purpose_of c.args.purpose) c.args.free c.args.name.now c.args.es.now) (form (function_named c.args.name.now) c.args.es.now)
    c.args.steps.now.items c.lower_reference.new.steps.items c.lower_reference.result (ap (λ o. form o c.args.es.now) c.in-None.ensures) c.lower_reference.ensures

pub lower_intrinsic-returns-in-Some : goal.lower_intrinsic-returns-in-Some
unfolding spec.intrinsic_form
lower_intrinsic-returns-in-Some t c =
    let form = spec.intrinsic_form c.args.table.now (purpose_of c.args.purpose) c.args.free c.args.name.now in
    as-lowered (spec.function_form c.args.table.now (purpose_of c.args.purpose) c.args.free (function_of c.in-Some.function) c.args.es.now) (form (function_named c.args.name.now) c.args.es.now)
    c.args.steps.now.items c.lower_function.new.steps.items c.lower_function.result (ap (λ o. form o c.args.es.now) c.in-Some.ensures) c.lower_function.ensures

pub lower-returns-in-Int : goal.lower-returns-in-Int
lower-returns-in-Int t c =
    let form = spec.lowered c.args.table.now c.args.aspect (purpose_of c.args.purpose) c.args.free in
    leaf-lowered (core.Constant (IsInt c.in-Int.number)) c.args.free (form c.args.e.now) c.args.steps.now.items (Ok c.integer.result)
    (sym (ap form c.in-Int.is ∙ forms.lowered-Int c.args.table.now c.args.aspect (purpose_of c.args.purpose) c.args.free c.in-Int.number)) c.integer.ensures

pub lower-returns-in-Logical : goal.lower-returns-in-Logical
lower-returns-in-Logical t c =
    let form = spec.lowered c.args.table.now c.args.aspect (purpose_of c.args.purpose) c.args.free in
    leaf-lowered (core.Constant (IsLog c.in-Logical.truth)) c.args.free (form c.args.e.now) c.args.steps.now.items (Ok c.logical.result)
    (sym (ap form c.in-Logical.is ∙ forms.lowered-Logical c.args.table.now c.args.aspect (purpose_of c.args.purpose) c.args.free c.in-Logical.truth)) c.logical.ensures

pub lower-returns-in-AltReturn : goal.lower-returns-in-AltReturn
lower-returns-in-AltReturn t c =
    let form = spec.lowered c.args.table.now c.args.aspect (purpose_of c.args.purpose) c.args.free in
    leaf-lowered (core.Constant (IsLabel c.in-AltReturn.at)) c.args.free (form c.args.e.now) c.args.steps.now.items (Ok c.label.result)
    (sym (ap form c.in-AltReturn.is ∙ forms.lowered-AltReturn c.args.table.now c.args.aspect (purpose_of c.args.purpose) c.args.free c.in-AltReturn.at)) c.label.ensures

pub lower-returns-in-Text : goal.lower-returns-in-Text
lower-returns-in-Text t c =
    let form = spec.lowered c.args.table.now c.args.aspect (purpose_of c.args.purpose) c.args.free in
    let read = c.as_slice.result.now in
    leaf-lowered (core.Constant (IsText read)) c.args.free (form c.args.e.now) c.args.steps.now.items c.text.result
    (ap (λ cs. low.plain (core.Constant (IsText cs)) c.args.free) c.as_slice.ensures
    ∙ sym (ap form c.in-Text.is ∙ forms.lowered-Text c.args.table.now c.args.aspect (purpose_of c.args.purpose) c.args.free c.in-Text.characters)) c.text.ensures

pub lower-returns-in-Name : goal.lower-returns-in-Name
lower-returns-in-Name t c =
    let T = c.args.table.now in
    let form = spec.lowered T c.args.aspect (purpose_of c.args.purpose) c.args.free in
    let named = λ (x : Bytes). spec.name_form c.args.aspect (purpose_of c.args.purpose) c.args.free x (fact_in T x).class (option_map datum_of (fact_in T x).constant) in
    as-lowered (named c.as_slice-in-Name.result.now) (form c.args.e.now) c.args.steps.now.items c.lower_name.new.steps.items c.lower_name.result
    (ap named c.as_slice-in-Name.ensures ∙ sym (ap form c.in-Name.is ∙ forms.lowered-Name T c.args.aspect (purpose_of c.args.purpose) c.args.free c.in-Name.name)) c.lower_name.ensures

pub lower-returns-in-Apply : goal.lower-returns-in-Apply
lower-returns-in-Apply t c =
    let T = c.args.table.now in
    let q = purpose_of c.args.purpose in
    let form = spec.lowered T c.args.aspect q c.args.free in
    let named = λ (x : Bytes) (es : List Expr). spec.applied_form T c.args.aspect q c.args.free x (fact_in T x).class es in
    as-lowered (named c.as_slice-in-Apply.result.now c.as_slice-in-Apply-2.result.now) (form c.args.e.now) c.args.steps.now.items c.lower_applied.new.steps.items c.lower_applied.result
    (ap (λ x. named x c.as_slice-in-Apply-2.result.now) c.as_slice-in-Apply.ensures ∙ ap (named c.in-Apply.name) c.as_slice-in-Apply-2.ensures
    ∙ sym (ap form c.in-Apply.is ∙ forms.lowered-Apply T c.args.aspect q c.args.free c.in-Apply.name c.in-Apply.es (ap (is_lowered_value T) (sym c.in-Apply.is) ∙ c.requires)))
    c.lower_applied.ensures

pub lower-returns-in-Minus : goal.lower-returns-in-Minus
lower-returns-in-Minus t c =
    let T = c.args.table.now in
    let q = purpose_of c.args.purpose in
    let form = spec.lowered T c.args.aspect q c.args.free in
    as-lowered (spec.prefixed_form T Negate q c.args.free c.get.result.now) (form c.args.e.now) c.args.steps.now.items c.lower_prefixed.new.steps.items c.lower_prefixed.result
    (ap (spec.prefixed_form T Negate q c.args.free) c.get.ensures ∙ sym (ap form c.in-Minus.is ∙ forms.lowered-Minus T c.args.aspect q c.args.free c.in-Minus.operand))
    c.lower_prefixed.ensures

pub lower-returns-in-Not : goal.lower-returns-in-Not
lower-returns-in-Not t c =
    let T = c.args.table.now in
    let q = purpose_of c.args.purpose in
    let form = spec.lowered T c.args.aspect q c.args.free in
    as-lowered (spec.prefixed_form T Complement q c.args.free c.get-in-Not.result.now) (form c.args.e.now) c.args.steps.now.items c.lower_prefixed-in-Not.new.steps.items
    c.lower_prefixed-in-Not.result
    (ap (spec.prefixed_form T Complement q c.args.free) c.get-in-Not.ensures ∙ sym (ap form c.in-Not.is ∙ forms.lowered-Not T c.args.aspect q c.args.free c.in-Not.operand))
    c.lower_prefixed-in-Not.ensures

reference-class : (T : NameFacts) (a : Aspect) (q : low.Purpose) (k : ℕ) (x : Bytes) (es : List Expr) (c : Class) →
    (c ≡ class.Procedure) ⊎ ((c ≡ class.DummyProcedure) ⊎ (c ≡ class.Result)) → spec.reference_form T q k x es ≡ spec.applied_form T a q k x c es
unfolding spec.applied_form
reference-class T a q k x es c (inl e) = ap (λ c. spec.applied_form T a q k x c es) (sym e)
reference-class T a q k x es c (inr (inl e)) = ap (λ c. spec.applied_form T a q k x c es) (sym e)
reference-class T a q k x es c (inr (inr e)) = ap (λ c. spec.applied_form T a q k x c es) (sym e)

element-class : (T : NameFacts) (a : Aspect) (q : low.Purpose) (k : ℕ) (x : Bytes) (es : List Expr) (c : Class) →
    (c ≡ class.Constant) ⊎ ((c ≡ class.Stored) ⊎ ((c ≡ class.Dummy) ⊎ (c ≡ class.Unit))) → spec.element_form T a q k x es ≡ spec.applied_form T a q k x c es
unfolding spec.applied_form
element-class T a q k x es c (inl e) = ap (λ c. spec.applied_form T a q k x c es) (sym e)
element-class T a q k x es c (inr (inl e)) = ap (λ c. spec.applied_form T a q k x c es) (sym e)
element-class T a q k x es c (inr (inr (inl e))) = ap (λ c. spec.applied_form T a q k x c es) (sym e)
element-class T a q k x es c (inr (inr (inr e))) = ap (λ c. spec.applied_form T a q k x c es) (sym e)

pub lower_applied-returns-in-Intrinsic : goal.lower_applied-returns-in-Intrinsic
unfolding spec.applied_form
lower_applied-returns-in-Intrinsic t c =
    let T = c.args.table.now in
    let q = purpose_of c.args.purpose in
    let k = c.args.free in
    let x = c.args.name.now in
    let es = c.args.es.now in
    as-lowered (spec.intrinsic_form T q k x (function_named x) es) (spec.applied_form T c.args.aspect q k x (fact_in T x).class es) c.args.steps.now.items
    c.lower_intrinsic.new.steps.items c.lower_intrinsic.result (ap (λ cl. spec.applied_form T c.args.aspect q k x cl es) c.in-Intrinsic.ensures) c.lower_intrinsic.ensures

pub lower_applied-returns-in-Procedure : goal.lower_applied-returns-in-Procedure
lower_applied-returns-in-Procedure t c =
    let T = c.args.table.now in
    let q = purpose_of c.args.purpose in
    let k = c.args.free in
    let x = c.args.name.now in
    let es = c.args.es.now in
    as-lowered (spec.reference_form T q k x es) (spec.applied_form T c.args.aspect q k x (fact_in T x).class es) c.args.steps.now.items
    c.lower_reference.new.steps.items c.lower_reference.result
    (reference-class T c.args.aspect q k x es c.class.result c.in-Procedure.is ∙ ap (λ cl. spec.applied_form T c.args.aspect q k x cl es) c.class.ensures) c.lower_reference.ensures

pub lower_applied-returns-in-Constant : goal.lower_applied-returns-in-Constant
lower_applied-returns-in-Constant t c =
    let T = c.args.table.now in
    let q = purpose_of c.args.purpose in
    let k = c.args.free in
    let x = c.args.name.now in
    let es = c.args.es.now in
    as-lowered (spec.element_form T c.args.aspect q k x es) (spec.applied_form T c.args.aspect q k x (fact_in T x).class es) c.args.steps.now.items
    c.lower_element.new.steps.items c.lower_element.result
    (element-class T c.args.aspect q k x es c.class.result c.in-Constant.is ∙ ap (λ cl. spec.applied_form T c.args.aspect q k x cl es) c.class.ensures) c.lower_element.ensures

pub lower-lower_name-requires : goal.lower-lower_name-requires
lower-lower_name-requires t c =
    ap (λ x. name_lowers (fact_in c.args.table.now x).class) c.as_slice-in-Name.ensures ∙ sym (covered-Name c.args.table.now c.in-Name.name)
    ∙ ap (is_lowered_value c.args.table.now) (sym c.in-Name.is) ∙ c.requires

pub lower-lower_applied-requires : goal.lower-lower_applied-requires
lower-lower_applied-requires t c = (
  search (rules, tree.the_lemmas),
  (
    name-read c.args.table.now c.args.e.now c.in-Apply.name c.as_slice-in-Apply.result.now c.in-Apply.es c.in-Apply.is c.as_slice-in-Apply.ensures c.requires,
    operands-read c.args.table.now c.args.e.now c.in-Apply.name c.in-Apply.es c.as_slice-in-Apply-2.result.now c.in-Apply.is c.as_slice-in-Apply-2.ensures c.requires,
  ),
)

pub lower-lower_prefixed-requires : goal.lower-lower_prefixed-requires
lower-lower_prefixed-requires t c = (
  search (rules, tree.the_lemmas),
  operand-one c.args.table.now tree.Minus (covered-Minus c.args.table.now) c.args.e.now c.in-Minus.operand c.get.result.now c.in-Minus.is c.get.ensures c.requires,
)

pub lower-lower_prefixed-requires-in-Not : goal.lower-lower_prefixed-requires-in-Not
lower-lower_prefixed-requires-in-Not t c = (
  search (rules, tree.the_lemmas),
  operand-one c.args.table.now tree.Not (covered-Not c.args.table.now) c.args.e.now c.in-Not.operand c.get-in-Not.result.now c.in-Not.is c.get-in-Not.ensures c.requires,
)

pub lower-lower-requires : goal.lower-lower-requires
lower-lower-requires t c = (
  search (rules, tree.the_lemmas),
  left-read c.args.table.now c.args.e.now c.in-Binary.op c.in-Binary.left c.in-Binary.right c.get-in-Binary-3.result.now c.in-Binary.is c.get-in-Binary-3.ensures c.requires,
)

pub lower-lower-requires-in-Binary : goal.lower-lower-requires-in-Binary
lower-lower-requires-in-Binary t c = (
  search (rules, tree.the_lemmas),
  right-read c.args.table.now c.args.e.now c.in-Binary.op c.in-Binary.left c.in-Binary.right c.get-in-Binary-4.result.now c.in-Binary.is c.get-in-Binary-4.ensures c.requires,
)

pub lower-lower-requires-in-Plus : goal.lower-lower-requires-in-Plus
lower-lower-requires-in-Plus t c = (
  search (rules, tree.the_lemmas),
  operand-either c.args.table.now tree.Plus tree.Paren (covered-Plus c.args.table.now) (covered-Paren c.args.table.now) c.args.e.now c.in-Plus.operand c.get-in-Plus.result.now
      c.in-Plus.is c.get-in-Plus.ensures c.requires,
)

pub lower-refers-requires : goal.lower-refers-requires
lower-refers-requires t c =
    right-read c.args.table.now c.args.e.now c.in-Binary.op c.in-Binary.left c.in-Binary.right c.get-in-Binary-2.result.now c.in-Binary.is c.get-in-Binary-2.ensures c.requires

pub lower-plan-plan-requires-clause-form : goal.lower-plan-plan-requires-clause-form
lower-plan-plan-requires-clause-form t c =
    ap spec.is_form c.form_of.ensures
    ∙ forms.form-Binary c.args.table.now c.in-Binary.op c.in-Binary.left c.in-Binary.right (ap (is_lowered_value c.args.table.now) (sym c.in-Binary.is) ∙ c.requires)

pub lower-returns-in_ok-other-in-Binary : goal.lower-returns-in_ok-other-in-Binary
lower-returns-in_ok-other-in-Binary t c =
    let T = c.args.table.now in
    let q = purpose_of c.args.purpose in
    let k = c.args.free in
    let before = c.args.steps.now.items in
    let between = c.lower.new.steps.items in
    let behind = c.lower-in-Binary.new.steps.items in
    let one = c.in_ok-one-in-Binary.one in
    let other = c.in_ok-other-in-Binary.other in
    let p = c.plan-plan.result in
    let o = c.in-Binary.op in
    let a = c.in-Binary.left in
    let b = c.in-Binary.right in
    let form = spec.lowered T c.args.aspect q k in
    let covered = ap (is_lowered_value T) (sym c.in-Binary.is) ∙ c.requires in
    let planned =
    ap (λ (p : Plan). spec.planned_form T p q k a b)
    (c.plan-plan.ensures ∙ ap (λ (f : BinaryForm). spec.plan_of T f c.get-in-Binary.result.now) c.form_of.ensures ∙ ap (spec.plan_of T (spec.form_of o)) c.get-in-Binary.ensures)
    ∙ form-planned (spec.form_of o) T q k a b (forms.form-Binary T o a b covered)
    ∙ sym (ap form c.in-Binary.is ∙ forms.lowered-Binary T c.args.aspect q k o a b covered) in
    let left_purpose = c.left_for-wanted.ensures ∙ ap (spec.left_for p) (c.refers.ensures ∙ ap (spec.has_reference T) c.get-in-Binary-2.ensures) in
    let left_form =
    ap (λ (w : low.Purpose). spec.lowered T Value w k c.get-in-Binary-3.result.now) left_purpose
    ∙ ap (spec.lowered T Value (spec.left_for p (spec.has_reference T b)) k) c.get-in-Binary-3.ensures in
    let right_form =
    ap (λ (w : low.Purpose). spec.lowered T Value w c.start_for-start.result c.get-in-Binary-4.result.now) c.right_for-wanted.ensures
    ∙ ap (λ (n : ℕ). spec.lowered T Value (spec.right_for p) n c.get-in-Binary-4.result.now) c.start_for-start.ensures
    ∙ ap (spec.lowered T Value (spec.right_for p) (spec.start_for p k one.free)) c.get-in-Binary-4.ensures in
    let first = subst (λ (l : low.Lowered core.Pure). IsLowered l before between one) left_form c.in_ok-one-in-Binary.ensures in
    let second = subst (λ (l : low.Lowered core.Pure). IsLowered l c.new-behind.result.items behind other) right_form c.in_ok-other-in-Binary.ensures in
    as-lowered (spec.planned_form T p q k a b) (form c.args.e.now) before c.join.new.steps.items c.join.result planned
    (of-planned p T q k a b before between behind c.join.new.steps.items one other c.join.result first
    (subst (λ (ss : List Step). IsLowered (spec.lowered T Value (spec.right_for p) (spec.start_for p k one.free) b) ss behind other) c.new-behind.ensures.items second) c.join.ensures)

either-lowered : (T : NameFacts) (a : Aspect) (q : low.Purpose) (k : ℕ) (e o : Expr) → (e ≡ tree.Plus o) ⊎ (e ≡ tree.Paren o) → spec.lowered T Value q k o ≡ spec.lowered T a q k e
either-lowered T a q k e o (inl is) = sym (ap (spec.lowered T a q k) is ∙ forms.lowered-Plus T a q k o)
either-lowered T a q k e o (inr is) = sym (ap (spec.lowered T a q k) is ∙ forms.lowered-Paren T a q k o)

pub lower-returns-in-Plus : goal.lower-returns-in-Plus
lower-returns-in-Plus t c =
    let T = c.args.table.now in
    let q = purpose_of c.args.purpose in
    as-lowered (spec.lowered T Value q c.args.free c.get-in-Plus.result.now) (spec.lowered T c.args.aspect q c.args.free c.args.e.now) c.args.steps.now.items
    c.lower-in-Plus.new.steps.items c.lower-in-Plus.result
    (ap (spec.lowered T Value q c.args.free) c.get-in-Plus.ensures ∙ either-lowered T c.args.aspect q c.args.free c.args.e.now c.in-Plus.operand c.in-Plus.is) c.lower-in-Plus.ensures

later-read : (es : List Expr) (at : ℕ) → take (length es - (at + 1)) (drop (at + 1) es) ≡ drop (at + 1) es
later-read es at = grind (arith, common_steps)

pub lower_list-any_refers-requires : goal.lower_list-any_refers-requires
lower_list-any_refers-requires t c =
    covered-rest c.args.table.now c.args.es.now c.loop-at.at c.index-es-at.result _ c.loop-at-test.true c.index-es-at.is (later-read c.args.es.now c.loop-at.at)
    c.loop-at.invariant.covered

pub lower_list-lower-requires : goal.lower_list-lower-requires
lower_list-lower-requires t c = (
  search (rules, tree.the_lemmas),
  covered-first c.args.table.now c.args.es.now c.loop-at.at c.index-es-at.result c.loop-at-test.true c.index-es-at.is c.loop-at.invariant.covered,
)

pub lower_list-loop-at-preserved : goal.lower_list-loop-at-preserved
lower_list-loop-at-preserved t c =
    let T = c.args.table.now in
    let es = c.args.es.now in
    let q = purpose_of c.args.purpose in
    let whole = spec.lowered_list T c.args.aspect q c.args.first es in
    let rest = spec.lowered_list T c.args.aspect q c.in_ok-one.one.free (drop (c.loop-at.at + 1) es) in
    record {
      covered = covered-rest T es c.loop-at.at c.index-es-at.result (drop (c.loop-at.at + 1) es) c.loop-at-test.true c.index-es-at.is refl c.loop-at.invariant.covered;
      onward =
          subst (λ (vs : List Pure). IsOnward whole rest c.args.steps.now.items c.lower.new.steps.items vs) (sym c.in_ok-push.ensures.ok)
          (onward-more T c.args.aspect q (purpose_of c.ahead-wanted.result) c.loop-at.free es c.loop-at.at c.index-es-at.result _ whole
          c.args.steps.now.items c.loop-at.steps.items c.lower.new.steps.items c.loop-at.values c.in_ok-one.one c.loop-at-test.true c.index-es-at.is (later-read es c.loop-at.at)
          (c.ahead-wanted.ensures ∙ ap (low.ahead q) c.any_refers.ensures) c.loop-at.invariant.onward c.in_ok-one.ensures);
    }

pub lower_list-loop-at-init : goal.lower_list-loop-at-init
lower_list-loop-at-init t c =
    let whole = spec.lowered_list c.args.table.now c.args.aspect (purpose_of c.args.purpose) c.args.first c.args.es.now in
    record {
      covered = c.requires;
      onward = subst (λ (vs : List Pure). IsOnward whole whole c.args.steps.now.items c.args.steps.now.items vs) (sym c.new-values.ensures) (onward-start whole c.args.steps.now.items);
    }

pub lower_list-returns : goal.lower_list-returns
lower_list-returns t c =
    onward-done c.args.table.now c.args.aspect (purpose_of c.args.purpose) c.args.es.now c.loop-at.at
    (spec.lowered_list c.args.table.now c.args.aspect (purpose_of c.args.purpose) c.args.first c.args.es.now) c.args.steps.now.items c.loop-at.steps.items _
    c.loop-at-test.false c.loop-at.invariant.onward
