-- What each form of an expression is lowered to, by the lowered forms of its parts. ANSI X3.9-1978, sections 5.4, 6, 15.2 to 15.5 and 15.10.
use Rattle.std.specs.Prelude.{ℕ, Bool, true, false, ◌&&◌, ◌||◌, List, [], ◌∷◌, map, Option, Some, None}
use Rattle.f_tree.specs.declared.names.Class.{Class}
use Rattle.f_tree.specs.declared.names.Class.TheVariants as class
use Rattle.f_tree.specs.declared.expressions.BinaryOp.{BinaryOp}
use Rattle.f_tree.specs.declared.expressions.BinaryOp.TheVariants as op
use Rattle.f_tree.specs.declared.expressions.Expr.{Expr}
use Rattle.f_tree.specs.Values.{Bytes, Datum, Nothing}
use Rattle.f_tree.specs.Terms.{Prefix, Operator, Function, Power, Callee, AsFunction, terms, refers}
use Rattle.f_tree.specs.Reading.{function_named, width_or_zero}
use Rattle.lowered_tree.specs.l_core.Pures.{Pure, Pures, Constant, Name, NoPure}
use Rattle.lowering.specs.Expressions as low
use Rattle.lowered_tree.specs.declared.pures.Operator.{Operator as CodeOperator}
use Rattle.lowered_tree.specs.declared.pures.Operator.TheVariants as operator
use Rattle.lowered_tree.specs.Shapes.{operator_of}
use Rattle.name_facts.specs.declared.fact.NameFact.{NameFact}
use Rattle.name_facts.specs.declared.table.NameFacts.{NameFacts}
use Rattle.name_facts.specs.GivenFacts.{fact_in}
use Rattle.expression_lowering.specs.declared.purpose.Aspect.{Aspect}
use Rattle.expression_lowering.specs.declared.purpose.Aspect.TheVariants.{Value, Actual}
use Rattle.expression_lowering.specs.declared.operators.BinaryForm.{BinaryForm}
use Rattle.expression_lowering.specs.declared.operators.BinaryForm.TheVariants as form
use Rattle.expression_lowering.specs.declared.operators.Plan.{Plan}
use Rattle.expression_lowering.specs.declared.operators.Plan.TheVariants as plan
use Rattle.expression_lowering.specs.Purposes.{aspect_term}
use Rattle.expression_lowering.specs.TableNames.{reading}

-- an expression lowered, by its value or as an actual argument
unfoldable pub lowered : NameFacts → Aspect → low.Purpose → ℕ → Expr → low.Lowered Pure
lowered table a purpose k e = low.lower NoPure purpose k (aspect_term a (reading table e))

-- a list of expressions lowered
unfoldable pub lowered_list : NameFacts → Aspect → low.Purpose → ℕ → List Expr → low.Lowered Pures
lowered_list table a purpose k es = low.lower_all NoPure purpose k (terms (map (λ e. aspect_term a (reading table e)) es))

-- has an expression a reference to a function
unfoldable pub has_reference : NameFacts → Expr → Bool
has_reference table e = refers (reading table e).value

-- has any of a list
unfoldable pub any_reference : NameFacts → List Expr → Bool
any_reference table [] = false
any_reference table (e ∷ es) = has_reference table e || any_reference table es

-- does an expression take steps where its value is used at once
unfoldable pub takes_any_step : NameFacts → Expr → Bool
takes_any_step table e = low.takes_steps low.ForUse (reading table e).value

-- is a name with a list a reference to a function
unfoldable pub is_unknown : Option Function → Bool
is_unknown None = true
is_unknown (Some f) = false

-- a name with a list that is a procedure, or an intrinsic function that is unknown, is a reference
unfoldable pub is_reference : Bytes → Class → Bool
is_reference x class.Intrinsic = is_unknown (function_named x)
is_reference x class.Procedure = true
is_reference x class.DummyProcedure = true
is_reference x class.Result = true
is_reference x class.StatementFunction = true
is_reference x _ = false

-- does a name with a list take a step of its own
unfoldable pub function_calls : Option Function → Bool
function_calls None = true
function_calls (Some f) = low.is_library f

-- a name with a list that is a procedure, or a function of the library, takes a step of its own
unfoldable pub makes_call : Bytes → Class → Bool
makes_call x class.Intrinsic = function_calls (function_named x)
makes_call x class.Procedure = true
makes_call x class.DummyProcedure = true
makes_call x class.Result = true
makes_call x class.StatementFunction = true
makes_call x _ = false

-- does an operator take a step of its own
unfoldable pub operator_calls : BinaryOp → Bool
operator_calls op.Power = true
operator_calls _ = false

-- does any of a list
unfoldable pub any_takes_step : NameFacts → List Expr → Bool
any_takes_step table [] = false
any_takes_step table (e ∷ es) = takes_any_step table e || any_takes_step table es

-- NAMES ALONE
-- a constant is its value
unfoldable pub constant_pure : Bytes → Option Datum → Pure
constant_pure x None = Name x
constant_pure x (Some d) = Constant d

-- a variable is loaded, or passed as it is
unfoldable pub variable_form : Aspect → low.Purpose → ℕ → Bytes → low.Lowered Pure
variable_form Value purpose k x = low.shaped low.AsFetch purpose k (low.and_then (low.plain (Name x) k) low.no_operand)
variable_form Actual purpose k x = low.plain (Name x) k

-- a name alone by its class: a constant, a variable, or itself
unfoldable pub name_form : Aspect → low.Purpose → ℕ → Bytes → Class → Option Datum → low.Lowered Pure
name_form a purpose k x class.Constant d = low.plain (constant_pure x d) k
name_form a purpose k x class.Procedure d = low.plain (Name x) k
name_form a purpose k x class.DummyProcedure d = low.plain (Name x) k
name_form a purpose k x class.Intrinsic d = low.plain (Name x) k
name_form a purpose k x class.StatementFunction d = low.plain (Name x) k
name_form a purpose k x _ d = variable_form a purpose k x

-- NAMES WITH A LIST
-- a function of its operands
unfoldable pub function_form : NameFacts → low.Purpose → ℕ → Function → List Expr → low.Lowered Pure
function_form table purpose k f es =
    low.shaped (low.AsFunction f) purpose k (lowered_list table Value (low.for_function (low.is_library f)) k es)

-- what is called by a name
unfoldable pub callee_of_fact : Bytes → NameFact → Callee
callee_of_fact x fact = record { name = x; want = AsFunction fact.basic (width_or_zero fact.width) }

-- a reference to a function
unfoldable pub reference_form : NameFacts → low.Purpose → ℕ → Bytes → List Expr → low.Lowered Pure
reference_form table purpose k x es =
    low.shaped (low.AsReference (callee_of_fact x (fact_in table x))) purpose k (lowered_list table Actual low.ForCall k es)

-- an element of an array as a place
unfoldable pub place_form : NameFacts → low.Purpose → ℕ → Bytes → List Expr → low.Lowered Pure
place_form table purpose k x es = low.shaped (low.AsElement x) purpose k (lowered_list table Value (low.for_place purpose) k es)

-- an element of an array is loaded, or passed as it is
unfoldable pub element_form : NameFacts → Aspect → low.Purpose → ℕ → Bytes → List Expr → low.Lowered Pure
element_form table Value purpose k x es =
    low.shaped low.AsFetch purpose k (low.and_then (place_form table low.ForUse k x es) low.no_operand)
element_form table Actual purpose k x es = place_form table purpose k x es

-- an intrinsic function, or a reference where none has the name
unfoldable pub intrinsic_form : NameFacts → low.Purpose → ℕ → Bytes → Option Function → List Expr → low.Lowered Pure
intrinsic_form table purpose k x None es = reference_form table purpose k x es
intrinsic_form table purpose k x (Some f) es = function_form table purpose k f es

-- a name with a list by its class: a function, a reference or an element
unfoldable pub applied_form : NameFacts → Aspect → low.Purpose → ℕ → Bytes → Class → List Expr → low.Lowered Pure
applied_form table a purpose k x class.Intrinsic es = intrinsic_form table purpose k x (function_named x) es
applied_form table a purpose k x class.StatementFunction es = reference_form table purpose k x es
applied_form table a purpose k x class.Procedure es = reference_form table purpose k x es
applied_form table a purpose k x class.DummyProcedure es = reference_form table purpose k x es
applied_form table a purpose k x class.Result es = reference_form table purpose k x es
applied_form table a purpose k x _ es = element_form table a purpose k x es

-- OPERATORS
-- an operator before its operand
unfoldable pub prefixed_form : NameFacts → Prefix → low.Purpose → ℕ → Expr → low.Lowered Pure
prefixed_form table op purpose k e = low.shaped (low.AsBefore op) purpose k (low.and_then (lowered table Value low.ForUse k e) low.no_operand)

-- two operands from left to right, the first being kept where the second has a reference
unfoldable pub two_operands : NameFacts → low.Purpose → ℕ → Expr → Expr → low.Lowered Pures
two_operands table purpose k a b =
    low.and_then (lowered table Value (low.ahead purpose (has_reference table b)) k a)
    (λ n. low.and_then (lowered table Value purpose n b) low.no_operand)

-- a power is a function of its two operands
unfoldable pub power_form : NameFacts → low.Purpose → ℕ → Expr → Expr → low.Lowered Pure
power_form table purpose k a b = low.shaped (low.AsFunction Power) purpose k (two_operands table low.ForReading k a b)

-- an operator between two operands that are both valued
unfoldable pub operated_form : NameFacts → Operator → low.Purpose → ℕ → Expr → Expr → low.Lowered Pure
operated_form table op purpose k a b = low.shaped (low.AsBetween op) purpose k (two_operands table low.ForUse k a b)

-- a right operand that takes steps is passed where the left one decides
unfoldable pub guarded_form : NameFacts → Operator → ℕ → Expr → Expr → low.Lowered Pure
guarded_form table op k a b = low.guarded op k (lowered table Value low.ForUse k a) (lowered table Value low.ForUse k b)

-- two operands, given whether the right one is guarded
unfoldable pub decided_form : Bool → NameFacts → Operator → low.Purpose → ℕ → Expr → Expr → low.Lowered Pure
decided_form true table op purpose k a b = guarded_form table op k a b
decided_form false table op purpose k a b = operated_form table op purpose k a b

-- an operator between two operands: the right one is guarded where the left one may decide and it takes steps
unfoldable pub between_form : NameFacts → Operator → low.Purpose → ℕ → Expr → Expr → low.Lowered Pure
between_form table op purpose k a b = decided_form (low.may_decide op && takes_any_step table b) table op purpose k a b

-- the form that an operator of an expression makes
unfoldable pub form_of : BinaryOp → BinaryForm
form_of op.Power = form.Power
form_of op.Times = form.Operator operator.Multiply
form_of op.Divide = form.Operator operator.Divide
form_of op.Plus = form.Operator operator.Add
form_of op.Minus = form.Operator operator.Subtract
form_of op.Concatenate = form.Concatenation
form_of op.Less = form.Operator operator.IsLess
form_of op.LessOrEqual = form.Operator operator.IsLessOrEqual
form_of op.Equal = form.Operator operator.IsEqual
form_of op.NotEqual = form.Operator operator.IsNotEqual
form_of op.Greater = form.Operator operator.IsGreater
form_of op.GreaterOrEqual = form.Operator operator.IsGreaterOrEqual
form_of op.And = form.Operator operator.Both
form_of op.Or = form.Operator operator.Either
form_of op.Equivalent = form.Operator operator.Same
form_of op.NotEquivalent = form.Operator operator.Different

-- is it a form that is lowered
unfoldable pub is_form : BinaryForm → Bool
is_form form.Concatenation = false
is_form _ = true

-- the two operands in their form; a concatenation is not lowered
unfoldable pub binary_form : NameFacts → BinaryForm → low.Purpose → ℕ → Expr → Expr → low.Lowered Pure
binary_form table form.Power purpose k a b = power_form table purpose k a b
binary_form table (form.Operator op) purpose k a b = between_form table (operator_of op) purpose k a b
binary_form table form.Concatenation purpose k a b = low.plain (Constant Nothing) k

-- how two operands are lowered
unfoldable pub plan_between : Bool → CodeOperator → Plan
plan_between true op = plan.Guarded op
plan_between false op = plan.Between op

-- how two operands of a form are lowered; a concatenation has no plan of its own
unfoldable pub plan_of : NameFacts → BinaryForm → Expr → Plan
plan_of table form.Power b = plan.Power
plan_of table (form.Operator op) b = plan_between (low.may_decide (operator_of op) && takes_any_step table b) op
plan_of table form.Concatenation b = plan.Power

-- what the left operand is for, given whether the right one has a reference
unfoldable pub left_for : Plan → Bool → low.Purpose
left_for (plan.Guarded op) refers' = low.ForUse
left_for (plan.Between op) refers' = low.ahead low.ForUse refers'
left_for plan.Power refers' = low.ahead low.ForReading refers'

-- what the right operand is for
unfoldable pub right_for : Plan → low.Purpose
right_for plan.Power = low.ForReading
right_for _ = low.ForUse

-- the first temporary of the right operand, given those that are free before the left one and behind it
unfoldable pub start_for : Plan → ℕ → ℕ → ℕ
start_for (plan.Guarded op) before behind = before
start_for _ before behind = behind

-- two operands as they are planned
unfoldable pub planned_form : NameFacts → Plan → low.Purpose → ℕ → Expr → Expr → low.Lowered Pure
planned_form table (plan.Guarded op) purpose k a b = guarded_form table (operator_of op) k a b
planned_form table (plan.Between op) purpose k a b = operated_form table (operator_of op) purpose k a b
planned_form table plan.Power purpose k a b = power_form table purpose k a b

unfoldable pub lowered_forms_opened : Unit {0}
unfolding lowered lowered_list has_reference any_reference takes_any_step any_takes_step is_unknown is_reference function_calls makes_call operator_calls constant_pure variable_form name_form function_form callee_of_fact reference_form place_form element_form intrinsic_form applied_form prefixed_form two_operands power_form operated_form guarded_form decided_form between_form form_of is_form binary_form plan_between plan_of left_for right_for start_for planned_form
lowered_forms_opened = tt
