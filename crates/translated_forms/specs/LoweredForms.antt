-- Which statements of a unit are lowered, by what its names are. ANSI X3.9-1978, sections 6, 10 to 12 and 15.
use Rattle.std.specs.List.{list_all}
use Rattle.std.specs.Prelude.{Bool, true, false, not, ◌&&◌, ◌||◌, List, Option, Some, None}
use Rattle.statement_lowering.specs.f_tree.declared.expressions.Expr.{Expr}
use Rattle.statement_lowering.specs.f_tree.declared.expressions.Expr.TheOpen as expr
use Rattle.statement_lowering.specs.f_tree.declared.statements.Body.{Body}
use Rattle.statement_lowering.specs.f_tree.declared.statements.Body.TheOpen as body
use Rattle.statement_lowering.specs.f_tree.declared.statements.Control.{Control}
use Rattle.statement_lowering.specs.f_tree.declared.statements.ControlValue.{ControlValue}
use Rattle.statement_lowering.specs.f_tree.declared.statements.ControlValue.TheVariants as value
use Rattle.statement_lowering.specs.f_tree.declared.statements.ListItem.{ListItem}
use Rattle.statement_lowering.specs.f_tree.declared.statements.ListItem.TheOpen as item
use Rattle.statement_lowering.specs.f_tree.declared.statements.LoopControl.{LoopControl}
use Rattle.statement_lowering.specs.f_tree.declared.statements.Stmt.{Stmt}
use Rattle.statement_lowering.specs.f_tree.Values.{Bytes}
use Rattle.statement_lowering.specs.f_tree.Folds.{fold_expr, fold_item, fold_body}
use Rattle.statement_lowering.specs.f_tree.Lines.{Naming}
use Rattle.statement_lowering.specs.f_tree.Uses.{heading_of}
use Rattle.statement_lowering.specs.expression_lowering.TableNames.{name_lowers, applied_lowers, operator_lowers, all_lower}
use Rattle.statement_lowering.specs.LoweredStatements.{is_function_class, variable_is_text, element_is_text}

-- ## Expressions

-- one layer of an expression, given whether its parts are lowered: no statement function, no LEN, no concatenation and no substring
unfoldable pub layer_lowers : Naming → expr.Expr-F Bool → Bool
layer_lowers names (expr.Int z) = true
layer_lowers names (expr.Logical b) = true
layer_lowers names (expr.Text cs) = true
layer_lowers names (expr.Name x) = name_lowers (names x).class
layer_lowers names (expr.Apply x bs) = applied_lowers x (names x).class && all_lower bs
layer_lowers names (expr.Part b from to) = false
layer_lowers names (expr.Minus b) = b
layer_lowers names (expr.Plus b) = b
layer_lowers names (expr.Not b) = b
layer_lowers names (expr.Paren b) = b
layer_lowers names (expr.Binary op a b) = operator_lowers op && (a && b)
layer_lowers names (expr.AltReturn label) = true
layer_lowers names (expr.Bind bs b) = false
layer_lowers names (expr.Bound k) = false

unfoldable pub value_lowers : Naming → Expr → Bool
value_lowers names e = fold_expr (layer_lowers names) e

-- an expression that may be left out
unfoldable pub optional_lowers : Naming → Option Expr → Bool
optional_lowers names None = true
optional_lowers names (Some e) = value_lowers names e

-- ## Assignments

-- is the target of an assignment a text
unfoldable pub layer_text : Naming → expr.Expr-F Bool → Bool
layer_text names (expr.Name x) = variable_is_text (names x).class (names x).basic
layer_text names (expr.Apply x bs) = element_is_text (names x).class (names x).basic
layer_text names (expr.Part b from to) = b
layer_text names _ = false

unfoldable pub is_text_target : Naming → Expr → Bool
is_text_target names target = fold_expr (layer_text names) target

-- is it the definition of a statement function
unfoldable pub names_function : Naming → Option Bytes → Bool
names_function names None = false
names_function names (Some x) = is_function_class (names x).class

unfoldable pub assignment_lowers : Naming → Expr → Expr → Bool
assignment_lowers names target e =
    names_function names (heading_of target).applied || (not (is_text_target names target) && (value_lowers names e && value_lowers names target))

-- ## Statements

unfoldable pub control_lowers : Naming → LoopControl → Bool
control_lowers names control = value_lowers names control.first && (value_lowers names control.limit && optional_lowers names control.step)

unfoldable pub word_lowers : Naming → ControlValue → Bool
word_lowers names value.Star = true
word_lowers names (value.Label l) = true
word_lowers names (value.Value e) = value_lowers names e

unfoldable pub words_lower : Naming → List Control → Bool
words_lower names controls = list_all (λ (c : Control). word_lowers names c.value) controls

-- an item, which is no implied DO
unfoldable pub layer_item : Naming → item.ListItem-F Bool → Bool
layer_item names (item.Item e) = value_lowers names e
layer_item names (item.Loop bs control) = false

unfoldable pub item_lowers : Naming → ListItem → Bool
item_lowers names i = fold_item (layer_item names) i

-- one layer of a statement, given whether the statement of a logical IF is lowered
unfoldable pub layer_statement : Naming → body.Body-F Bool → Bool
layer_statement names (body.Assign target e) = assignment_lowers names target e
layer_statement names (body.GotoList labels e) = value_lowers names e
layer_statement names (body.IfSign e below even above) = value_lowers names e
layer_statement names (body.IfOne e b) = b && value_lowers names e
layer_statement names (body.IfThen e) = value_lowers names e
layer_statement names (body.ElseIf e) = value_lowers names e
layer_statement names (body.Do label control) = control_lowers names control
layer_statement names (body.DoWhile label e) = value_lowers names e
layer_statement names (body.Call x es) = list_all (value_lowers names) es
layer_statement names (body.Return e) = optional_lowers names e
layer_statement names (body.Transfer way controls items) = words_lower names controls && list_all (item_lowers names) items
layer_statement names (body.Auxiliary which controls) = words_lower names controls
layer_statement names _ = true

unfoldable pub statement_lowers : Naming → Body → Bool
statement_lowers names b = fold_body (layer_statement names) b

-- are all statements lowered
unfoldable pub statements_lower : Naming → List Stmt → Bool
statements_lower names ss = list_all (λ (s : Stmt). statement_lowers names s.body) ss

unfoldable pub lowered_forms_opened : Unit {0}
unfolding layer_lowers value_lowers optional_lowers layer_text is_text_target names_function assignment_lowers control_lowers word_lowers words_lower layer_item item_lowers layer_statement statement_lowers statements_lower
lowered_forms_opened = tt
