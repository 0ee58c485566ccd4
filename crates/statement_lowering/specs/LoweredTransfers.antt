-- Which statements of input and output and which CALLs are lowered, by what the table tells of their names, and what the code answers of their
-- operands. ANSI X3.9-1978, sections 12.8, 12.10 and 15.6.
use Rattle.std.specs.Prelude.{◌≡◌, ℕ, Bool, true, false, ◌&&◌, List, [], ◌∷◌, ◌++◌, map, Option, Some, None}
use Rattle.f_tree.specs.declared.names.Class.{Class}
use Rattle.f_tree.specs.declared.names.Class.TheVariants as class
use Rattle.f_tree.specs.declared.expressions.Expr.{Expr}
use Rattle.f_tree.specs.declared.expressions.Expr.TheOpen as expr
use Rattle.f_tree.specs.declared.statements.Control.{Control}
use Rattle.f_tree.specs.declared.statements.ControlValue.{ControlValue}
use Rattle.f_tree.specs.declared.statements.ControlValue.TheVariants as value
use Rattle.f_tree.specs.declared.statements.ListItem.{ListItem}
use Rattle.f_tree.specs.declared.statements.ListItem.TheOpen as item
use Rattle.f_tree.specs.declared.statements.Direction.{Direction}
use Rattle.f_tree.specs.Folds.{fold_expr, fold_item}
use Rattle.f_tree.specs.Terms.{Term, terms}
use Rattle.f_tree.specs.Lines.{Naming}
use Rattle.lowered_tree.specs.l_core.Pures as core
use Rattle.lowering.specs.Expressions as low
use Rattle.lowering.specs.Units.{label_in}
use Rattle.lowered_tree.specs.declared.pures.Pure.{Pure}
use Rattle.lowered_tree.specs.declared.steps.Step.{Step}
use Rattle.lowered_tree.specs.Shapes.{pures_of, steps_of}
use Rattle.name_facts.specs.declared.fact.ConstantValue.{ConstantValue}
use Rattle.name_facts.specs.declared.fact.ConstantValue.TheVariants as constant
use Rattle.name_facts.specs.declared.table.NameFacts.{NameFacts}
use Rattle.name_facts.specs.GivenFacts.{fact_in}
use Rattle.expression_lowering.specs.declared.answers.Lowered.{Lowered}
use Rattle.expression_lowering.specs.TableNames.{AreFactsOf, is_lowered_value, all_lower}
use Rattle.expression_lowering.specs.Outcomes.{IsLowered}
use Rattle.statement_lowering.specs.TransferForms.{Meant}

-- WHICH ARE LOWERED
-- is what stands after a control word lowered
unfoldable pub value_lowers : NameFacts → ControlValue → Bool
value_lowers table value.Star = true
value_lowers table (value.Label l) = true
value_lowers table (value.Value e) = is_lowered_value table e

-- is a list of control words lowered: all its expressions are
unfoldable pub controls_lower : NameFacts → List Control → Bool
controls_lower table controls = all_lower (map (λ c. value_lowers table c.value) controls)

-- is an item of a list lowered: an implied DO is not
unfoldable pub layer_item : NameFacts → item.ListItem-F Bool → Bool
layer_item table (item.Item e) = is_lowered_value table e
layer_item table (item.Loop bs control) = false

unfoldable pub item_lowers : NameFacts → ListItem → Bool
item_lowers table i = fold_item (layer_item table) i

-- are all items of a list lowered
unfoldable pub items_lower : NameFacts → List ListItem → Bool
items_lower table items = all_lower (map (item_lowers table) items)

-- is a READ, WRITE or PRINT lowered: all its expressions are, and it has no implied DO
unfoldable pub transfer_lowers : NameFacts → Direction → List Control → List ListItem → Bool
transfer_lowers table way controls items = controls_lower table controls && items_lower table items

-- is a CALL lowered: all its arguments are
unfoldable pub call_lowers : NameFacts → List Expr → Bool
call_lowers table es = all_lower (map (is_lowered_value table) es)

-- PLACES
-- is a name alone a place whose value is fetched
unfoldable pub is_variable : Class → Bool
is_variable class.Constant = false
is_variable class.Procedure = false
is_variable class.DummyProcedure = false
is_variable class.StatementFunction = false
is_variable class.Intrinsic = false
is_variable _ = true

-- is a name with a list an element
unfoldable pub is_element : Class → Bool
is_element class.Result = false
is_element class.Procedure = false
is_element class.DummyProcedure = false
is_element class.StatementFunction = false
is_element class.Intrinsic = false
is_element _ = true

-- is an expression a variable, an array or a part of one
unfoldable pub layer_placed : NameFacts → expr.Expr-F Bool → Bool
layer_placed table (expr.Name x) = is_variable (fact_in table x).class
layer_placed table (expr.Apply x bs) = is_element (fact_in table x).class
layer_placed table (expr.Part b from to) = b
layer_placed table _ = false

unfoldable pub is_placed : NameFacts → Expr → Bool
is_placed table e = fold_expr (layer_placed table) e

-- is the value of an expression fetched from a place: parentheses and a sign + leave it so
unfoldable pub layer_fetched : NameFacts → expr.Expr-F Bool → Bool
layer_fetched table (expr.Name x) = is_variable (fact_in table x).class
layer_fetched table (expr.Apply x bs) = is_element (fact_in table x).class
layer_fetched table (expr.Part b from to) = true
layer_fetched table (expr.Plus b) = b
layer_fetched table (expr.Paren b) = b
layer_fetched table _ = false

unfoldable pub is_fetched : NameFacts → Expr → Bool
is_fetched table e = fold_expr (layer_fetched table) e

-- LABELS THAT ARE PASSED
-- the label that is the value of a constant
unfoldable pub label_valued : ConstantValue → Option ℕ
label_valued (constant.Label l) = Some l
label_valued _ = None

unfoldable pub constant_label : Option ConstantValue → Option ℕ
constant_label None = None
constant_label (Some v) = label_valued v

-- the label that is the value of a name alone: that of a constant
unfoldable pub name_label : Class → Option ConstantValue → Option ℕ
name_label class.Constant o = constant_label o
name_label _ o = None

-- the label that is the value of an argument: parentheses and a sign + leave it so
unfoldable pub layer_label : NameFacts → expr.Expr-F (Option ℕ) → Option ℕ
layer_label table (expr.Name x) = name_label (fact_in table x).class (fact_in table x).constant
layer_label table (expr.AltReturn l) = Some l
layer_label table (expr.Plus o) = o
layer_label table (expr.Paren o) = o
layer_label table _ = None

unfoldable pub label_passed : NameFacts → Expr → Option ℕ
label_passed table e = fold_expr (layer_label table) e

-- those of all arguments, in their order
unfoldable pub labels_passed : NameFacts → List Expr → List ℕ
labels_passed table [] = []
labels_passed table (e ∷ es) = label_in (label_passed table e) ++ labels_passed table es

-- WHAT IS ANSWERED
-- a term is lowered, whatever the names are of which the table tells
pub record IsLoweredTerm (table : NameFacts) (meant : Meant) (purpose : low.Purpose) (k : ℕ) (before after : List Step) (l : Lowered) : Type 0 where
  pub is : (names : Naming) → AreFactsOf names table → IsLowered (low.lower core.NoPure purpose k (meant names)) before after l

-- operands are lowered, with their values
pub record AreLoweredOperands (are : low.Lowered core.Pures) (before after : List Step) (vs : List Pure) : Type 0 where
  pub steps : steps_of after ≡ steps_of before ++ are.steps
  pub values : pures_of vs ≡ are.value

pub record AreLoweredTerms (table : NameFacts) (meant : Naming → List Term) (purpose : low.Purpose) (k : ℕ) (before after : List Step) (vs : List Pure) : Type 0 where
  pub are : (names : Naming) → AreFactsOf names table → AreLoweredOperands (low.lower_all core.NoPure purpose k (terms (meant names))) before after vs

-- an operand is lowered, where there is one
unfoldable pub IsLoweredIf : Option Term → low.Purpose → ℕ → List Step → List Step → Option Lowered → Type 0
IsLoweredIf None purpose k before after None = after ≡ before
IsLoweredIf (Some t) purpose k before after (Some l) = IsLowered (low.lower core.NoPure purpose k t) before after l
IsLoweredIf _ purpose k before after _ = ⊥

-- its value stands behind others, and what is free is what it leaves free
unfoldable pub IsAddedIf : Option Lowered → ℕ → List Pure → List Pure → ℕ → Type 0
IsAddedIf None k before after n = (after ≡ before) × (n ≡ k)
IsAddedIf (Some l) k before after n = (after ≡ before ++ l.value ∷ []) × (n ≡ l.free)

unfoldable pub lowered_transfers_opened : Unit {0}
unfolding value_lowers controls_lower layer_item item_lowers items_lower transfer_lowers call_lowers is_variable is_element layer_placed is_placed layer_fetched is_fetched label_valued constant_label name_label layer_label label_passed labels_passed
lowered_transfers_opened = tt
