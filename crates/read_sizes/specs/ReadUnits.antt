-- Program units whose statements refer to no statement function, and that they have few nodes as they are read. ANSI X3.9-1978, sections 6, 10 to 12 and 15.4.
use Rattle.std.specs.List.{list_all}
use Rattle.std.specs.Prelude.{◌≡◌, ◌*◌, ◌≤◌, Bool, true, false, ◌&&◌, ◌||◌, List, [], ◌∷◌, length, Option, Some, None}
use Rattle.tree_nodes.specs.f_tree.declared.expressions.Expr.{Expr}
use Rattle.tree_nodes.specs.f_tree.declared.expressions.Expr.TheOpen as expr
use Rattle.tree_nodes.specs.f_tree.declared.names.Class.{Class}
use Rattle.tree_nodes.specs.f_tree.declared.names.Class.TheVariants as class
use Rattle.tree_nodes.specs.f_tree.declared.names.Options.{Options}
use Rattle.tree_nodes.specs.f_tree.declared.statements.Body.{Body}
use Rattle.tree_nodes.specs.f_tree.declared.statements.Body.TheOpen as body
use Rattle.tree_nodes.specs.f_tree.declared.statements.Control.{Control}
use Rattle.tree_nodes.specs.f_tree.declared.statements.ControlValue.{ControlValue}
use Rattle.tree_nodes.specs.f_tree.declared.statements.ControlValue.TheVariants as value
use Rattle.tree_nodes.specs.f_tree.declared.statements.ListItem.{ListItem}
use Rattle.tree_nodes.specs.f_tree.declared.statements.ListItem.TheOpen as item
use Rattle.tree_nodes.specs.f_tree.declared.statements.LoopControl.{LoopControl}
use Rattle.tree_nodes.specs.f_tree.declared.statements.Stmt.{Stmt}
use Rattle.tree_nodes.specs.f_tree.declared.units.Unit.{Unit as GivenUnit}
use Rattle.tree_nodes.specs.f_tree.Folds.{fold_expr, fold_item, fold_body}
use Rattle.tree_nodes.specs.f_tree.Uses.{heading_of}
use Rattle.tree_nodes.specs.f_tree.Lines.{Naming, is_statement_function, unit_read}
use Rattle.tree_nodes.specs.declaration_rows.ExpansionRows.{functions_of}
use Rattle.tree_nodes.specs.declaration_rows.NameRows.{given_names}
use Rattle.tree_nodes.specs.TreeNodes.{statements_nodes}
use Rattle.lowered_sizes.specs.ReadNodes.{lines_nodes}

-- ## Expressions

unfoldable pub is_other_class : Class → Bool
is_other_class class.StatementFunction = false
is_other_class other = true

unfoldable pub all_lack : List Bool → Bool
all_lack [] = true
all_lack (b ∷ bs) = b && all_lack bs

unfoldable pub if_written : Option Bool → Bool
if_written None = true
if_written (Some b) = b

-- one layer of an expression, given whether its parts refer to no statement function
unfoldable pub layer_lacks : Naming → expr.Expr-F Bool → Bool
layer_lacks names (expr.Int z) = true
layer_lacks names (expr.Logical b) = true
layer_lacks names (expr.Text cs) = true
layer_lacks names (expr.Name x) = is_other_class (names x).class
layer_lacks names (expr.Apply x bs) = is_other_class (names x).class && all_lack bs
layer_lacks names (expr.Part b from to) = b && (if_written from && if_written to)
layer_lacks names (expr.Minus b) = b
layer_lacks names (expr.Plus b) = b
layer_lacks names (expr.Not b) = b
layer_lacks names (expr.Paren b) = b
layer_lacks names (expr.Binary op a b) = a && b
layer_lacks names (expr.AltReturn label) = true
layer_lacks names (expr.Bind bs b) = all_lack bs && b
layer_lacks names (expr.Bound k) = true

unfoldable pub value_lacks : Naming → Expr → Bool
value_lacks names e = fold_expr (layer_lacks names) e

unfoldable pub optional_lacks : Naming → Option Expr → Bool
optional_lacks names None = true
optional_lacks names (Some e) = value_lacks names e

-- ## Statements

unfoldable pub control_lacks : Naming → LoopControl → Bool
control_lacks names control = value_lacks names control.first && (value_lacks names control.limit && optional_lacks names control.step)

unfoldable pub word_lacks : Naming → ControlValue → Bool
word_lacks names value.Star = true
word_lacks names (value.Label l) = true
word_lacks names (value.Value e) = value_lacks names e

unfoldable pub words_lack : Naming → List Control → Bool
words_lack names controls = list_all (λ (c : Control). word_lacks names c.value) controls

unfoldable pub layer_item_lacks : Naming → item.ListItem-F Bool → Bool
layer_item_lacks names (item.Item e) = value_lacks names e
layer_item_lacks names (item.Loop bs control) = all_lack bs && control_lacks names control

unfoldable pub item_lacks : Naming → ListItem → Bool
item_lacks names i = fold_item (layer_item_lacks names) i

-- one layer of a statement, given whether the statement of a logical IF refers to none; a definition is no reference
unfoldable pub layer_statement_lacks : Naming → body.Body-F Bool → Bool
layer_statement_lacks names (body.Assign target e) = is_statement_function names (heading_of target).applied || (value_lacks names target && value_lacks names e)
layer_statement_lacks names (body.GotoList labels e) = value_lacks names e
layer_statement_lacks names (body.IfSign e below even above) = value_lacks names e
layer_statement_lacks names (body.IfOne e b) = value_lacks names e && b
layer_statement_lacks names (body.IfThen e) = value_lacks names e
layer_statement_lacks names (body.ElseIf e) = value_lacks names e
layer_statement_lacks names (body.Do label control) = control_lacks names control
layer_statement_lacks names (body.DoWhile label e) = value_lacks names e
layer_statement_lacks names (body.Call x es) = list_all (value_lacks names) es
layer_statement_lacks names (body.Return e) = optional_lacks names e
layer_statement_lacks names (body.Transfer way controls items) = words_lack names controls && list_all (item_lacks names) items
layer_statement_lacks names (body.Auxiliary which controls) = words_lack names controls
layer_statement_lacks names other = true

unfoldable pub statement_lacks : Naming → Body → Bool
statement_lacks names b = fold_body (layer_statement_lacks names) b

unfoldable pub statements_lack : Naming → List Stmt → Bool
statements_lack names ss = list_all (λ (s : Stmt). statement_lacks names s.body) ss

-- ## The unit

-- a line for each statement, and few nodes
pub record IsReadWithin (options : Options) (u : GivenUnit) : Type 0 where
  pub lines : length (unit_read options u).lines ≡ length u.statements
  pub nodes : lines_nodes (unit_read options u).lines ≤ 4 * statements_nodes (functions_of u) u.statements

-- LAW
abbrev pub EachUnitIsReadWithin : Type 0
EachUnitIsReadWithin = (options : Options) (u : GivenUnit) → statements_lack (given_names u) u.statements ≡ true → IsReadWithin options u

unfoldable pub read_units_opened : Unit {0}
unfolding is_other_class all_lack if_written layer_lacks value_lacks optional_lacks control_lacks word_lacks words_lack layer_item_lacks item_lacks layer_statement_lacks statement_lacks statements_lack
read_units_opened = tt
