-- The label that is the value of an argument, by its form.
use Rattle.std.specs.Prelude.{◌≡◌, ℕ, ℤ, Bool, List, Option, Some, None}
use Rattle.std.proofs.Common.{refl}
use Rattle.f_tree.specs.Values.{Bytes}
use Rattle.f_tree.specs.declared.expressions.BinaryOp.{BinaryOp}
use Rattle.f_tree.specs.declared.expressions.Expr.{Expr}
use Rattle.f_tree.specs.declared.expressions.Expr as tree
use Rattle.f_tree.specs.Folds.{folds_opened}
use Rattle.name_facts.specs.declared.table.NameFacts.{NameFacts}
use Rattle.name_facts.specs.GivenFacts.{fact_in}
use Rattle.statement_lowering.specs.LoweredTransfers.{name_label, layer_label, label_passed}

pub labelled-Int : (table : NameFacts) (z : ℤ) → label_passed table (tree.Int z) ≡ None
unfolding label_passed layer_label folds_opened
labelled-Int table z = refl

pub labelled-Logical : (table : NameFacts) (b : Bool) → label_passed table (tree.Logical b) ≡ None
unfolding label_passed layer_label folds_opened
labelled-Logical table b = refl

pub labelled-Text : (table : NameFacts) (cs : Bytes) → label_passed table (tree.Text cs) ≡ None
unfolding label_passed layer_label folds_opened
labelled-Text table cs = refl

pub labelled-Name : (table : NameFacts) (x : Bytes) → label_passed table (tree.Name x) ≡ name_label (fact_in table x).class (fact_in table x).constant
unfolding label_passed layer_label folds_opened
labelled-Name table x = refl

pub labelled-Apply : (table : NameFacts) (x : Bytes) (es : List Expr) → label_passed table (tree.Apply x es) ≡ None
unfolding label_passed layer_label folds_opened
labelled-Apply table x es = refl

pub labelled-Part : (table : NameFacts) (e : Expr) (from to : Option Expr) → label_passed table (tree.Part e from to) ≡ None
unfolding label_passed layer_label folds_opened
labelled-Part table e None None = refl
labelled-Part table e None (Some b) = refl
labelled-Part table e (Some a) None = refl
labelled-Part table e (Some a) (Some b) = refl

pub labelled-Minus : (table : NameFacts) (e : Expr) → label_passed table (tree.Minus e) ≡ None
unfolding label_passed layer_label folds_opened
labelled-Minus table e = refl

pub labelled-Plus : (table : NameFacts) (e : Expr) → label_passed table (tree.Plus e) ≡ label_passed table e
unfolding label_passed layer_label folds_opened
labelled-Plus table e = refl

pub labelled-Not : (table : NameFacts) (e : Expr) → label_passed table (tree.Not e) ≡ None
unfolding label_passed layer_label folds_opened
labelled-Not table e = refl

pub labelled-Paren : (table : NameFacts) (e : Expr) → label_passed table (tree.Paren e) ≡ label_passed table e
unfolding label_passed layer_label folds_opened
labelled-Paren table e = refl

pub labelled-Binary : (table : NameFacts) (op : BinaryOp) (a b : Expr) → label_passed table (tree.Binary op a b) ≡ None
unfolding label_passed layer_label folds_opened
labelled-Binary table op a b = refl

pub labelled-AltReturn : (table : NameFacts) (label : ℕ) → label_passed table (tree.AltReturn label) ≡ Some label
unfolding label_passed layer_label folds_opened
labelled-AltReturn table label = refl

pub labelled-Bind : (table : NameFacts) (es : List Expr) (e : Expr) → label_passed table (tree.Bind es e) ≡ None
unfolding label_passed layer_label folds_opened
labelled-Bind table es e = refl

pub labelled-Bound : (table : NameFacts) (k : ℕ) → label_passed table (tree.Bound k) ≡ None
unfolding label_passed layer_label folds_opened
labelled-Bound table k = refl

pub ruleset labelled_forms = (labelled-Int, labelled-Logical, labelled-Text, labelled-Name, labelled-Apply, labelled-Part, labelled-Minus, labelled-Plus, labelled-Not, labelled-Paren, labelled-Binary, labelled-AltReturn, labelled-Bind, labelled-Bound)
