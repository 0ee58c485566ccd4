-- Whether the value of an item is fetched, and whether an item is lowered, by its form.
use Rattle.std.specs.Prelude.{◌≡◌, ℕ, ℤ, Bool, true, false, List, Option, Some, None}
use Rattle.std.proofs.Common.{refl}
use Rattle.f_tree.specs.Values.{Bytes}
use Rattle.f_tree.specs.declared.expressions.BinaryOp.{BinaryOp}
use Rattle.f_tree.specs.declared.expressions.Expr.{Expr}
use Rattle.f_tree.specs.declared.expressions.Expr as tree
use Rattle.f_tree.specs.declared.statements.ListItem.{ListItem}
use Rattle.f_tree.specs.declared.statements.ListItem as items
use Rattle.f_tree.specs.declared.statements.LoopControl.{LoopControl}
use Rattle.f_tree.specs.Facts as fact
use Rattle.f_tree.specs.Folds.{folds_opened}
use Rattle.f_tree.specs.Lines.{Naming, item_of, layer_job, job_of}
use Rattle.name_facts.specs.declared.table.NameFacts.{NameFacts}
use Rattle.name_facts.specs.GivenFacts.{fact_in}
use Rattle.expression_lowering.specs.TableNames.{is_lowered_value}
use Rattle.statement_lowering.specs.LoweredTransfers.{is_variable, is_element, layer_fetched, is_fetched, layer_item, item_lowers}

-- WHETHER ITS VALUE IS FETCHED
pub fetched-Int : (table : NameFacts) (z : ℤ) → is_fetched table (tree.Int z) ≡ false
unfolding is_fetched layer_fetched folds_opened
fetched-Int table z = refl

pub fetched-Logical : (table : NameFacts) (b : Bool) → is_fetched table (tree.Logical b) ≡ false
unfolding is_fetched layer_fetched folds_opened
fetched-Logical table b = refl

pub fetched-Text : (table : NameFacts) (cs : Bytes) → is_fetched table (tree.Text cs) ≡ false
unfolding is_fetched layer_fetched folds_opened
fetched-Text table cs = refl

pub fetched-Name : (table : NameFacts) (x : Bytes) → is_fetched table (tree.Name x) ≡ is_variable (fact_in table x).class
unfolding is_fetched layer_fetched folds_opened
fetched-Name table x = refl

pub fetched-Apply : (table : NameFacts) (x : Bytes) (es : List Expr) → is_fetched table (tree.Apply x es) ≡ is_element (fact_in table x).class
unfolding is_fetched layer_fetched folds_opened
fetched-Apply table x es = refl

pub fetched-Part : (table : NameFacts) (e : Expr) (from to : Option Expr) → is_fetched table (tree.Part e from to) ≡ true
unfolding is_fetched layer_fetched folds_opened
fetched-Part table e None None = refl
fetched-Part table e None (Some b) = refl
fetched-Part table e (Some a) None = refl
fetched-Part table e (Some a) (Some b) = refl

pub fetched-Minus : (table : NameFacts) (e : Expr) → is_fetched table (tree.Minus e) ≡ false
unfolding is_fetched layer_fetched folds_opened
fetched-Minus table e = refl

pub fetched-Plus : (table : NameFacts) (e : Expr) → is_fetched table (tree.Plus e) ≡ is_fetched table e
unfolding is_fetched layer_fetched folds_opened
fetched-Plus table e = refl

pub fetched-Not : (table : NameFacts) (e : Expr) → is_fetched table (tree.Not e) ≡ false
unfolding is_fetched layer_fetched folds_opened
fetched-Not table e = refl

pub fetched-Paren : (table : NameFacts) (e : Expr) → is_fetched table (tree.Paren e) ≡ is_fetched table e
unfolding is_fetched layer_fetched folds_opened
fetched-Paren table e = refl

pub fetched-Binary : (table : NameFacts) (op : BinaryOp) (a b : Expr) → is_fetched table (tree.Binary op a b) ≡ false
unfolding is_fetched layer_fetched folds_opened
fetched-Binary table op a b = refl

pub fetched-AltReturn : (table : NameFacts) (label : ℕ) → is_fetched table (tree.AltReturn label) ≡ false
unfolding is_fetched layer_fetched folds_opened
fetched-AltReturn table label = refl

pub fetched-Bind : (table : NameFacts) (es : List Expr) (e : Expr) → is_fetched table (tree.Bind es e) ≡ false
unfolding is_fetched layer_fetched folds_opened
fetched-Bind table es e = refl

pub fetched-Bound : (table : NameFacts) (k : ℕ) → is_fetched table (tree.Bound k) ≡ false
unfolding is_fetched layer_fetched folds_opened
fetched-Bound table k = refl

pub ruleset fetched_forms = (fetched-Int, fetched-Logical, fetched-Text, fetched-Name, fetched-Apply, fetched-Part, fetched-Minus, fetched-Plus, fetched-Not, fetched-Paren, fetched-Binary, fetched-AltReturn, fetched-Bind, fetched-Bound)

-- ITEMS
pub item-Item : (table : NameFacts) (e : Expr) → item_lowers table (items.Item e) ≡ is_lowered_value table e
unfolding item_lowers layer_item folds_opened
item-Item table e = refl

pub item-Loop : (table : NameFacts) (is : List ListItem) (control : LoopControl) → item_lowers table (items.Loop is control) ≡ false
unfolding item_lowers layer_item folds_opened
item-Loop table is control = refl

pub ruleset item_forms = (item-Item, item-Loop)

-- the work of an item that is an expression
pub job-Item : (way : fact.Direction) (layout : fact.Layout) (names : Naming) (e : Expr) → job_of way layout names (items.Item e) ≡ fact.Item (item_of way layout names e)
unfolding job_of layer_job folds_opened
job-Item way layout names e = refl
