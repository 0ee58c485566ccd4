-- The name that an expression is, and whether it is a place, by its form.
use Rattle.std.specs.Prelude.{◌≡◌, ℕ, ℤ, Bool, true, false, List, Option, Some, None}
use Rattle.std.proofs.Common.{refl}
use Rattle.f_tree.specs.Values.{Bytes}
use Rattle.f_tree.specs.Uses.{heading_of, layer_heading, no_heading}
use Rattle.f_tree.specs.declared.expressions.BinaryOp.{BinaryOp}
use Rattle.f_tree.specs.declared.expressions.Expr.{Expr}
use Rattle.f_tree.specs.declared.expressions.Expr as tree
use Rattle.f_tree.specs.Folds.{folds_opened}
use Rattle.name_facts.specs.declared.table.NameFacts.{NameFacts}
use Rattle.name_facts.specs.GivenFacts.{fact_in}
use Rattle.statement_lowering.specs.LoweredTransfers.{is_variable, is_element, layer_placed, is_placed}

-- THE NAME THAT STANDS ALONE
pub alone-Int : (z : ℤ) → (heading_of (tree.Int z)).alone ≡ None
unfolding heading_of layer_heading no_heading folds_opened
alone-Int z = refl

pub alone-Logical : (b : Bool) → (heading_of (tree.Logical b)).alone ≡ None
unfolding heading_of layer_heading no_heading folds_opened
alone-Logical b = refl

pub alone-Text : (cs : Bytes) → (heading_of (tree.Text cs)).alone ≡ None
unfolding heading_of layer_heading no_heading folds_opened
alone-Text cs = refl

pub alone-Name : (x : Bytes) → (heading_of (tree.Name x)).alone ≡ Some x
unfolding heading_of layer_heading no_heading folds_opened
alone-Name x = refl

pub alone-Apply : (x : Bytes) (es : List Expr) → (heading_of (tree.Apply x es)).alone ≡ None
unfolding heading_of layer_heading no_heading folds_opened
alone-Apply x es = refl

pub alone-Part : (e : Expr) (from to : Option Expr) → (heading_of (tree.Part e from to)).alone ≡ None
unfolding heading_of layer_heading no_heading folds_opened
alone-Part e from to = refl

pub alone-Minus : (e : Expr) → (heading_of (tree.Minus e)).alone ≡ None
unfolding heading_of layer_heading no_heading folds_opened
alone-Minus e = refl

pub alone-Plus : (e : Expr) → (heading_of (tree.Plus e)).alone ≡ None
unfolding heading_of layer_heading no_heading folds_opened
alone-Plus e = refl

pub alone-Not : (e : Expr) → (heading_of (tree.Not e)).alone ≡ None
unfolding heading_of layer_heading no_heading folds_opened
alone-Not e = refl

pub alone-Paren : (e : Expr) → (heading_of (tree.Paren e)).alone ≡ None
unfolding heading_of layer_heading no_heading folds_opened
alone-Paren e = refl

pub alone-Binary : (op : BinaryOp) (a b : Expr) → (heading_of (tree.Binary op a b)).alone ≡ None
unfolding heading_of layer_heading no_heading folds_opened
alone-Binary op a b = refl

pub alone-AltReturn : (label : ℕ) → (heading_of (tree.AltReturn label)).alone ≡ None
unfolding heading_of layer_heading no_heading folds_opened
alone-AltReturn label = refl

pub alone-Bind : (es : List Expr) (e : Expr) → (heading_of (tree.Bind es e)).alone ≡ None
unfolding heading_of layer_heading no_heading folds_opened
alone-Bind es e = refl

pub alone-Bound : (k : ℕ) → (heading_of (tree.Bound k)).alone ≡ None
unfolding heading_of layer_heading no_heading folds_opened
alone-Bound k = refl

pub ruleset alone_forms = (alone-Int, alone-Logical, alone-Text, alone-Name, alone-Apply, alone-Part, alone-Minus, alone-Plus, alone-Not, alone-Paren, alone-Binary, alone-AltReturn, alone-Bind, alone-Bound)

-- WHETHER IT IS A PLACE
pub placed-Int : (table : NameFacts) (z : ℤ) → is_placed table (tree.Int z) ≡ false
unfolding is_placed layer_placed folds_opened
placed-Int table z = refl

pub placed-Logical : (table : NameFacts) (b : Bool) → is_placed table (tree.Logical b) ≡ false
unfolding is_placed layer_placed folds_opened
placed-Logical table b = refl

pub placed-Text : (table : NameFacts) (cs : Bytes) → is_placed table (tree.Text cs) ≡ false
unfolding is_placed layer_placed folds_opened
placed-Text table cs = refl

pub placed-Name : (table : NameFacts) (x : Bytes) → is_placed table (tree.Name x) ≡ is_variable (fact_in table x).class
unfolding is_placed layer_placed folds_opened
placed-Name table x = refl

pub placed-Apply : (table : NameFacts) (x : Bytes) (es : List Expr) → is_placed table (tree.Apply x es) ≡ is_element (fact_in table x).class
unfolding is_placed layer_placed folds_opened
placed-Apply table x es = refl

pub placed-Part : (table : NameFacts) (e : Expr) (from to : Option Expr) → is_placed table (tree.Part e from to) ≡ is_placed table e
unfolding is_placed layer_placed folds_opened
placed-Part table e None None = refl
placed-Part table e None (Some b) = refl
placed-Part table e (Some a) None = refl
placed-Part table e (Some a) (Some b) = refl

pub placed-Minus : (table : NameFacts) (e : Expr) → is_placed table (tree.Minus e) ≡ false
unfolding is_placed layer_placed folds_opened
placed-Minus table e = refl

pub placed-Plus : (table : NameFacts) (e : Expr) → is_placed table (tree.Plus e) ≡ false
unfolding is_placed layer_placed folds_opened
placed-Plus table e = refl

pub placed-Not : (table : NameFacts) (e : Expr) → is_placed table (tree.Not e) ≡ false
unfolding is_placed layer_placed folds_opened
placed-Not table e = refl

pub placed-Paren : (table : NameFacts) (e : Expr) → is_placed table (tree.Paren e) ≡ false
unfolding is_placed layer_placed folds_opened
placed-Paren table e = refl

pub placed-Binary : (table : NameFacts) (op : BinaryOp) (a b : Expr) → is_placed table (tree.Binary op a b) ≡ false
unfolding is_placed layer_placed folds_opened
placed-Binary table op a b = refl

pub placed-AltReturn : (table : NameFacts) (label : ℕ) → is_placed table (tree.AltReturn label) ≡ false
unfolding is_placed layer_placed folds_opened
placed-AltReturn table label = refl

pub placed-Bind : (table : NameFacts) (es : List Expr) (e : Expr) → is_placed table (tree.Bind es e) ≡ false
unfolding is_placed layer_placed folds_opened
placed-Bind table es e = refl

pub placed-Bound : (table : NameFacts) (k : ℕ) → is_placed table (tree.Bound k) ≡ false
unfolding is_placed layer_placed folds_opened
placed-Bound table k = refl

pub ruleset placed_forms = (placed-Int, placed-Logical, placed-Text, placed-Name, placed-Apply, placed-Part, placed-Minus, placed-Plus, placed-Not, placed-Paren, placed-Binary, placed-AltReturn, placed-Bind, placed-Bound)
