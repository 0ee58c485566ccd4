-- How many nodes the tree of a program unit has: one for the unit, for each statement and what it says, for each expression and each part of one, and for each
-- item, control, declaration, name or label of a list. A reference of a statement function has besides the nodes of its arguments those of the function's
-- expression, in which each reference is expanded too. ANSI X3.9-1978, sections 3.5, 6, 8 to 13 and 15.4.
use Rattle.std.specs.Prelude.{ℕ, suc, ◌+◌, max, Bool, false, List, [], ◌∷◌, length, Option, Some, None, is_some, if◌then◌else◌}
use Rattle.declaration_rows.specs.f_tree.declared.expressions.Expr.{Expr}
use Rattle.declaration_rows.specs.f_tree.declared.statements.Body.{Body}
use Rattle.declaration_rows.specs.f_tree.declared.statements.Body.TheOpen as body
use Rattle.declaration_rows.specs.f_tree.declared.statements.ListItem.{ListItem}
use Rattle.declaration_rows.specs.f_tree.declared.statements.ListItem.TheOpen as item
use Rattle.declaration_rows.specs.f_tree.declared.statements.LoopControl.{LoopControl}
use Rattle.declaration_rows.specs.f_tree.declared.statements.Control.{Control}
use Rattle.declaration_rows.specs.f_tree.declared.statements.ControlValue.{ControlValue}
use Rattle.declaration_rows.specs.f_tree.declared.statements.ControlValue.TheVariants as value
use Rattle.declaration_rows.specs.f_tree.declared.statements.TypeSpec.{TypeSpec}
use Rattle.declaration_rows.specs.f_tree.declared.statements.LengthSpec.{LengthSpec}
use Rattle.declaration_rows.specs.f_tree.declared.statements.LengthSpec.TheVariants as length'
use Rattle.declaration_rows.specs.f_tree.declared.statements.Dimension.{Dimension}
use Rattle.declaration_rows.specs.f_tree.declared.statements.UpperBound.{UpperBound}
use Rattle.declaration_rows.specs.f_tree.declared.statements.UpperBound.TheVariants as upper
use Rattle.declaration_rows.specs.f_tree.declared.statements.ArrayDeclarator.{ArrayDeclarator}
use Rattle.declaration_rows.specs.f_tree.declared.statements.Declarator.{Declarator}
use Rattle.declaration_rows.specs.f_tree.declared.statements.CommonGroup.{CommonGroup}
use Rattle.declaration_rows.specs.f_tree.declared.statements.EquivalenceGroup.{EquivalenceGroup}
use Rattle.declaration_rows.specs.f_tree.declared.statements.ImplicitGroup.{ImplicitGroup}
use Rattle.declaration_rows.specs.f_tree.declared.statements.ConstantDefinition.{ConstantDefinition}
use Rattle.declaration_rows.specs.f_tree.declared.statements.DataGroup.{DataGroup}
use Rattle.declaration_rows.specs.f_tree.declared.statements.DataValue.{DataValue}
use Rattle.declaration_rows.specs.f_tree.declared.statements.UnitKind.{UnitKind}
use Rattle.declaration_rows.specs.f_tree.declared.statements.UnitKind.TheVariants as kind
use Rattle.declaration_rows.specs.f_tree.declared.statements.Stmt.{Stmt}
use Rattle.declaration_rows.specs.f_tree.declared.units.Unit.{Unit as GivenUnit}
use Rattle.declaration_rows.specs.f_tree.declared.units.File.{File}
use Rattle.declaration_rows.specs.f_tree.Folds.{fold_item, fold_body}
use Rattle.declaration_rows.specs.f_tree.Uses.{heading_of}
use Rattle.declaration_rows.specs.f_tree.Values.{Bytes}
use Rattle.declaration_rows.specs.ExpansionRows.{Sized, nodes_of_function, nodes_of, functions_of}

-- ## Lists and what may be left out

unfoldable pub total_by : {A : Type 0} → (A → ℕ) → List A → ℕ
total_by nodes [] = 0
total_by nodes (a ∷ later) = nodes a + total_by nodes later

unfoldable pub if_there : {A : Type 0} → (A → ℕ) → Option A → ℕ
if_there nodes None = 0
if_there nodes (Some a) = nodes a

-- ## Expressions

-- given the statement functions of the unit, each with the nodes of its expanded expression (15.4)
unfoldable pub expression_nodes : List Sized → Expr → ℕ
expression_nodes functions e = (nodes_of functions e).count

unfoldable pub expressions_nodes : List Sized → List Expr → ℕ
expressions_nodes functions es = total_by (expression_nodes functions) es

-- is a name that of one of these functions
unfoldable pub names_one : List Sized → Option Bytes → Bool
names_one functions None = false
names_one functions (Some x) = is_some (nodes_of_function x functions)

-- the left side of an assignment; the heading of a definition is no reference
unfoldable pub target_nodes : List Sized → Expr → ℕ
target_nodes functions target = if names_one functions (heading_of target).applied then expression_nodes [] target else expression_nodes functions target

-- ## Declarations

unfoldable pub length_nodes : List Sized → LengthSpec → ℕ
length_nodes functions (length'.Value e) = suc (expression_nodes functions e)
length_nodes functions length'.Star = 1

unfoldable pub type_nodes : List Sized → TypeSpec → ℕ
type_nodes functions t = suc (if_there (length_nodes functions) t.length)

unfoldable pub upper_nodes : List Sized → UpperBound → ℕ
upper_nodes functions (upper.Value e) = suc (expression_nodes functions e)
upper_nodes functions upper.Star = 1

unfoldable pub dimension_nodes : List Sized → Dimension → ℕ
dimension_nodes functions d = suc (if_there (expression_nodes functions) d.lower + upper_nodes functions d.upper)

unfoldable pub array_nodes : List Sized → ArrayDeclarator → ℕ
array_nodes functions d = suc (total_by (dimension_nodes functions) d.dimensions)

unfoldable pub declarator_nodes : List Sized → Declarator → ℕ
declarator_nodes functions d = suc (total_by (dimension_nodes functions) d.dimensions + if_there (length_nodes functions) d.length)

unfoldable pub common_nodes : List Sized → CommonGroup → ℕ
common_nodes functions g = suc (total_by (array_nodes functions) g.items)

unfoldable pub equivalence_nodes : List Sized → EquivalenceGroup → ℕ
equivalence_nodes functions g = suc (expressions_nodes functions g.places)

unfoldable pub implicit_nodes : List Sized → ImplicitGroup → ℕ
implicit_nodes functions g = suc (type_nodes functions g.spec + length g.letters)

unfoldable pub constant_nodes : List Sized → ConstantDefinition → ℕ
constant_nodes functions c = suc (expression_nodes functions c.value)

unfoldable pub kind_nodes : List Sized → UnitKind → ℕ
kind_nodes functions (kind.Function spec) = suc (type_nodes functions spec)
kind_nodes functions other = 1

-- ## Lists of input and output, and loops

unfoldable pub control_nodes : List Sized → LoopControl → ℕ
control_nodes functions c = suc (expression_nodes functions c.first + (expression_nodes functions c.limit + if_there (expression_nodes functions) c.step))

unfoldable pub layer_item_nodes : List Sized → item.ListItem-F ℕ → ℕ
layer_item_nodes functions (item.Item e) = suc (expression_nodes functions e)
layer_item_nodes functions (item.Loop ns control) = suc (total_by (λ n. n) ns + control_nodes functions control)

unfoldable pub item_nodes : List Sized → ListItem → ℕ
item_nodes functions i = fold_item (layer_item_nodes functions) i

unfoldable pub items_nodes : List Sized → List ListItem → ℕ
items_nodes functions is = total_by (item_nodes functions) is

unfoldable pub data_value_nodes : List Sized → DataValue → ℕ
data_value_nodes functions v = suc (if_there (expression_nodes functions) v.count + expression_nodes functions v.value)

unfoldable pub data_nodes : List Sized → DataGroup → ℕ
data_nodes functions g = suc (items_nodes functions g.places + total_by (data_value_nodes functions) g.values)

unfoldable pub word_nodes : List Sized → ControlValue → ℕ
word_nodes functions value.Star = 1
word_nodes functions (value.Label l) = 1
word_nodes functions (value.Value e) = suc (expression_nodes functions e)

unfoldable pub words_nodes : List Sized → List Control → ℕ
words_nodes functions controls = total_by (λ (c : Control). suc (word_nodes functions c.value)) controls

-- ## Statements

-- one layer of a statement, given the nodes of the statement of a logical IF
unfoldable pub layer_body_nodes : List Sized → body.Body-F ℕ → ℕ
layer_body_nodes functions (body.Header kind name dummies) = suc (kind_nodes functions kind + length dummies)
layer_body_nodes functions (body.Declare type items) = suc (type_nodes functions type + total_by (declarator_nodes functions) items)
layer_body_nodes functions (body.Dimension items) = suc (total_by (array_nodes functions) items)
layer_body_nodes functions (body.Common groups) = suc (total_by (common_nodes functions) groups)
layer_body_nodes functions (body.Equivalence groups) = suc (total_by (equivalence_nodes functions) groups)
layer_body_nodes functions (body.Implicit groups) = suc (total_by (implicit_nodes functions) groups)
layer_body_nodes functions (body.Parameter items) = suc (total_by (constant_nodes functions) items)
layer_body_nodes functions (body.External xs) = suc (length xs)
layer_body_nodes functions (body.Intrinsic xs) = suc (length xs)
layer_body_nodes functions (body.Save items) = suc (length items)
layer_body_nodes functions (body.Init groups) = suc (total_by (data_nodes functions) groups)
layer_body_nodes functions (body.Entry name dummies) = suc (length dummies)
layer_body_nodes functions (body.Assign target e) = suc (target_nodes functions target + expression_nodes functions e)
layer_body_nodes functions (body.GotoList labels e) = suc (length labels + expression_nodes functions e)
layer_body_nodes functions (body.GotoName x labels) = suc (length labels)
layer_body_nodes functions (body.IfSign e below even above) = suc (expression_nodes functions e)
layer_body_nodes functions (body.IfOne e n) = suc (expression_nodes functions e + n)
layer_body_nodes functions (body.IfThen e) = suc (expression_nodes functions e)
layer_body_nodes functions (body.ElseIf e) = suc (expression_nodes functions e)
layer_body_nodes functions (body.Do label control) = suc (control_nodes functions control)
layer_body_nodes functions (body.DoWhile label e) = suc (expression_nodes functions e)
layer_body_nodes functions (body.Call x es) = suc (expressions_nodes functions es)
layer_body_nodes functions (body.Return e) = suc (if_there (expression_nodes functions) e)
layer_body_nodes functions (body.Transfer way controls items) = suc (words_nodes functions controls + items_nodes functions items)
layer_body_nodes functions (body.Auxiliary which controls) = suc (words_nodes functions controls)
layer_body_nodes functions other = 1

unfoldable pub body_nodes : List Sized → Body → ℕ
body_nodes functions b = fold_body (layer_body_nodes functions) b

unfoldable pub statements_nodes : List Sized → List Stmt → ℕ
statements_nodes functions ss = total_by (λ (s : Stmt). suc (body_nodes functions s.body)) ss

-- ## Units

unfoldable pub unit_nodes : GivenUnit → ℕ
unit_nodes u = suc (kind_nodes (functions_of u) u.kind + (length u.dummies + statements_nodes (functions_of u) u.statements))

unfoldable pub most_of : List GivenUnit → ℕ
most_of [] = 0
most_of (u ∷ us) = max (unit_nodes u) (most_of us)

-- the greatest number of nodes of a unit of some files
unfoldable pub greatest_nodes : List File → ℕ
greatest_nodes [] = 0
greatest_nodes (f ∷ fs) = max (most_of f.units) (greatest_nodes fs)

unfoldable pub tree_nodes_opened : Unit {0}
unfolding total_by if_there expression_nodes expressions_nodes names_one target_nodes length_nodes type_nodes upper_nodes dimension_nodes array_nodes declarator_nodes common_nodes equivalence_nodes implicit_nodes constant_nodes kind_nodes control_nodes layer_item_nodes item_nodes items_nodes data_value_nodes data_nodes word_nodes words_nodes layer_body_nodes body_nodes statements_nodes unit_nodes most_of greatest_nodes
tree_nodes_opened = tt
