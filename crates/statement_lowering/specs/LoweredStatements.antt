-- Which statements are lowered, by what the table tells of their names. ANSI X3.9-1978, sections 10 to 12 and 15.
use Rattle.std.specs.Prelude.{Bool, true, false, not, ◌&&◌, ◌||◌, Option, Some, None}
use Rattle.f_tree.specs.declared.expressions.Expr.{Expr}
use Rattle.f_tree.specs.declared.statements.Body.{Body}
use Rattle.f_tree.specs.declared.statements.Body.TheOpen as body
use Rattle.f_tree.specs.declared.statements.LoopControl.{LoopControl}
use Rattle.f_tree.specs.declared.names.Basic.{Basic}
use Rattle.f_tree.specs.declared.names.Class.{Class}
use Rattle.f_tree.specs.declared.names.Class.TheVariants as class
use Rattle.f_tree.specs.declared.expressions.Expr.TheOpen as expr
use Rattle.f_tree.specs.Values.{Bytes}
use Rattle.f_tree.specs.Folds.{fold_expr, fold_body}
use Rattle.f_tree.specs.Uses.{heading_of}
use Rattle.f_tree.specs.Lines.{is_character}
use Rattle.name_facts.specs.declared.table.NameFacts.{NameFacts}
use Rattle.name_facts.specs.GivenFacts.{fact_in}
use Rattle.expression_lowering.specs.TableNames.{is_lowered_value}
use Rattle.statement_lowering.specs.LoweredTransfers.{controls_lower, transfer_lowers, call_lowers}

-- is it the class of a statement function
unfoldable pub is_function_class : Class → Bool
is_function_class class.StatementFunction = true
is_function_class _ = false

-- is a name that of a statement function
unfoldable pub names_function : NameFacts → Option Bytes → Bool
names_function table None = false
names_function table (Some x) = is_function_class (fact_in table x).class

-- does the assignment to a target define a statement function
unfoldable pub is_definition : NameFacts → Expr → Bool
is_definition table target = names_function table (heading_of target).applied

-- is a name alone a variable or an array of type CHARACTER, given its class and its type
unfoldable pub variable_is_text : Class → Basic → Bool
variable_is_text class.Constant basic = false
variable_is_text class.Procedure basic = false
variable_is_text class.DummyProcedure basic = false
variable_is_text class.StatementFunction basic = false
variable_is_text class.Intrinsic basic = false
variable_is_text _ basic = is_character basic

-- is a name with a list an element of type CHARACTER
unfoldable pub element_is_text : Class → Basic → Bool
element_is_text class.Result basic = false
element_is_text class.Procedure basic = false
element_is_text class.DummyProcedure basic = false
element_is_text class.StatementFunction basic = false
element_is_text class.Intrinsic basic = false
element_is_text _ basic = is_character basic

-- is one layer of an expression a variable of type CHARACTER or a part of one, given whether its parts are
unfoldable pub layer_text : NameFacts → expr.Expr-F Bool → Bool
layer_text table (expr.Name x) = variable_is_text (fact_in table x).class (fact_in table x).basic
layer_text table (expr.Apply x bs) = element_is_text (fact_in table x).class (fact_in table x).basic
layer_text table (expr.Part b from to) = b
layer_text table _ = false

-- is the target of an assignment a text
unfoldable pub is_text_target : NameFacts → Expr → Bool
is_text_target table target = fold_expr (layer_text table) target

-- are both expressions lowered
unfoldable pub both_lower : NameFacts → Expr → Expr → Bool
both_lower table a b = is_lowered_value table a && is_lowered_value table b

-- is an assignment lowered: one of a text is not
unfoldable pub assigned_lowers : NameFacts → Expr → Expr → Bool
assigned_lowers table target e = not (is_text_target table target) && both_lower table e target

-- is an assignment lowered, or the definition of a statement function
unfoldable pub assignment_lowers : NameFacts → Expr → Expr → Bool
assignment_lowers table target e = is_definition table target || assigned_lowers table target e

-- is an expression lowered, where one is written
unfoldable pub optional_lowers : NameFacts → Option Expr → Bool
optional_lowers table None = true
optional_lowers table (Some e) = is_lowered_value table e

-- is the control of a loop lowered
unfoldable pub control_lowers : NameFacts → LoopControl → Bool
control_lowers table control = is_lowered_value table control.first && (is_lowered_value table control.limit && optional_lowers table control.step)

-- is one layer of a statement lowered, given whether the statement of a logical IF is
unfoldable pub layer_lowers : NameFacts → body.Body-F Bool → Bool
layer_lowers table (body.Assign target e) = assignment_lowers table target e
layer_lowers table (body.GotoList labels e) = is_lowered_value table e
layer_lowers table (body.IfSign e below at above) = is_lowered_value table e
layer_lowers table (body.IfOne e b) = b && is_lowered_value table e
layer_lowers table (body.IfThen e) = is_lowered_value table e
layer_lowers table (body.ElseIf e) = is_lowered_value table e
layer_lowers table (body.Do label control) = control_lowers table control
layer_lowers table (body.DoWhile label e) = is_lowered_value table e
layer_lowers table (body.Call x es) = call_lowers table es
layer_lowers table (body.Return e) = optional_lowers table e
layer_lowers table (body.Transfer way controls items) = transfer_lowers table way controls items
layer_lowers table (body.Auxiliary which controls) = controls_lower table controls
layer_lowers table _ = true

-- is a statement of a form that is lowered
unfoldable pub is_lowered_statement : NameFacts → Body → Bool
is_lowered_statement table b = fold_body (layer_lowers table) b

unfoldable pub lowered_statements_opened : Unit {0}
unfolding is_function_class names_function is_definition variable_is_text element_is_text layer_text is_text_target both_lower assigned_lowers assignment_lowers optional_lowers control_lowers layer_lowers is_lowered_statement
lowered_statements_opened = tt
