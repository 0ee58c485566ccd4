-- Which forms of an expression may be a bound of a dummy array.
use Rattle.std.specs.Prelude.{◌≡◌, ℕ, ℤ, Bool, true, false, ◌&&◌, List, Option, Some, None}
use Rattle.std.proofs.Common.{refl, sym, ap, ◌∙◌}
use Rattle.f_tree.specs.Values.{Bytes}
use Rattle.f_tree.specs.declared.expressions.BinaryOp.{BinaryOp}
use Rattle.f_tree.specs.declared.expressions.Expr.{Expr}
use Rattle.f_tree.specs.declared.expressions.Expr as tree
use Rattle.f_tree.specs.Folds.{folds_opened}
use Rattle.f_tree.specs.Lines.{Naming}
use Rattle.declaration_rows.specs.NameRows.{is_bound_expression, layer_bound, is_integer_name, is_arithmetic}

form-Int : (given : Naming) (z : ℤ) → is_bound_expression given (tree.Int z) ≡ true
unfolding folds_opened is_bound_expression layer_bound Rattle.f_tree.specs.declared.expressions.Expr.TheBlock.hidden-the_row-Expr-0
form-Int given z = refl

pub is-Int : (given : Naming) (e : Expr) (z : ℤ) → e ≡ tree.Int z → true ≡ is_bound_expression given e
is-Int given e z is = sym (ap (is_bound_expression given) is ∙ form-Int given z)

form-Logical : (given : Naming) (b : Bool) → is_bound_expression given (tree.Logical b) ≡ false
unfolding folds_opened is_bound_expression layer_bound Rattle.f_tree.specs.declared.expressions.Expr.TheBlock.hidden-the_row-Expr-0
form-Logical given b = refl

pub is-Logical : (given : Naming) (e : Expr) (b : Bool) → e ≡ tree.Logical b → false ≡ is_bound_expression given e
is-Logical given e b is = sym (ap (is_bound_expression given) is ∙ form-Logical given b)

form-Text : (given : Naming) (cs : Bytes) → is_bound_expression given (tree.Text cs) ≡ false
unfolding folds_opened is_bound_expression layer_bound Rattle.f_tree.specs.declared.expressions.Expr.TheBlock.hidden-the_row-Expr-0
form-Text given cs = refl

pub is-Text : (given : Naming) (e : Expr) (cs : Bytes) → e ≡ tree.Text cs → false ≡ is_bound_expression given e
is-Text given e cs is = sym (ap (is_bound_expression given) is ∙ form-Text given cs)

form-Apply : (given : Naming) (x : Bytes) (es : List Expr) → is_bound_expression given (tree.Apply x es) ≡ false
unfolding folds_opened is_bound_expression layer_bound Rattle.f_tree.specs.declared.expressions.Expr.TheBlock.hidden-the_row-Expr-0
form-Apply given x es = refl

pub is-Apply : (given : Naming) (e : Expr) (x : Bytes) (es : List Expr) → e ≡ tree.Apply x es → false ≡ is_bound_expression given e
is-Apply given e x es is = sym (ap (is_bound_expression given) is ∙ form-Apply given x es)

form-Not : (given : Naming) (a : Expr) → is_bound_expression given (tree.Not a) ≡ false
unfolding folds_opened is_bound_expression layer_bound Rattle.f_tree.specs.declared.expressions.Expr.TheBlock.hidden-the_row-Expr-0
form-Not given a = refl

pub is-Not : (given : Naming) (e : Expr) (a : Expr) → e ≡ tree.Not a → false ≡ is_bound_expression given e
is-Not given e a is = sym (ap (is_bound_expression given) is ∙ form-Not given a)

form-AltReturn : (given : Naming) (label : ℕ) → is_bound_expression given (tree.AltReturn label) ≡ false
unfolding folds_opened is_bound_expression layer_bound Rattle.f_tree.specs.declared.expressions.Expr.TheBlock.hidden-the_row-Expr-0
form-AltReturn given label = refl

pub is-AltReturn : (given : Naming) (e : Expr) (label : ℕ) → e ≡ tree.AltReturn label → false ≡ is_bound_expression given e
is-AltReturn given e label is = sym (ap (is_bound_expression given) is ∙ form-AltReturn given label)

form-Bind : (given : Naming) (es : List Expr) (a : Expr) → is_bound_expression given (tree.Bind es a) ≡ false
unfolding folds_opened is_bound_expression layer_bound Rattle.f_tree.specs.declared.expressions.Expr.TheBlock.hidden-the_row-Expr-0
form-Bind given es a = refl

pub is-Bind : (given : Naming) (e : Expr) (es : List Expr) (a : Expr) → e ≡ tree.Bind es a → false ≡ is_bound_expression given e
is-Bind given e es a is = sym (ap (is_bound_expression given) is ∙ form-Bind given es a)

form-Bound : (given : Naming) (k : ℕ) → is_bound_expression given (tree.Bound k) ≡ false
unfolding folds_opened is_bound_expression layer_bound Rattle.f_tree.specs.declared.expressions.Expr.TheBlock.hidden-the_row-Expr-0
form-Bound given k = refl

pub is-Bound : (given : Naming) (e : Expr) (k : ℕ) → e ≡ tree.Bound k → false ≡ is_bound_expression given e
is-Bound given e k is = sym (ap (is_bound_expression given) is ∙ form-Bound given k)

form-Part : (given : Naming) (a : Expr) (from to : Option Expr) → is_bound_expression given (tree.Part a from to) ≡ false
unfolding folds_opened is_bound_expression layer_bound
form-Part given a None None = refl
form-Part given a None (Some b) = refl
form-Part given a (Some b) None = refl
form-Part given a (Some b) (Some c) = refl

pub is-Part : (given : Naming) (e a : Expr) (from to : Option Expr) → e ≡ tree.Part a from to → false ≡ is_bound_expression given e
is-Part given e a from to is = sym (ap (is_bound_expression given) is ∙ form-Part given a from to)

pub form-Name : (given : Naming) (x : Bytes) → is_bound_expression given (tree.Name x) ≡ is_integer_name (given x)
unfolding folds_opened is_bound_expression layer_bound
form-Name given x = refl

pub form-Minus : (given : Naming) (a : Expr) → is_bound_expression given (tree.Minus a) ≡ is_bound_expression given a
unfolding folds_opened is_bound_expression layer_bound
form-Minus given a = refl

pub form-Plus : (given : Naming) (a : Expr) → is_bound_expression given (tree.Plus a) ≡ is_bound_expression given a
unfolding folds_opened is_bound_expression layer_bound
form-Plus given a = refl

pub form-Paren : (given : Naming) (a : Expr) → is_bound_expression given (tree.Paren a) ≡ is_bound_expression given a
unfolding folds_opened is_bound_expression layer_bound
form-Paren given a = refl

pub form-Binary : (given : Naming) (op : BinaryOp) (a b : Expr) → is_bound_expression given (tree.Binary op a b) ≡ (is_arithmetic op && (is_bound_expression given a && is_bound_expression given b))
unfolding folds_opened is_bound_expression layer_bound
form-Binary given op a b = refl

pub ruleset bound_forms = (is-Int, is-Logical, is-Text, is-Apply, is-Part, is-Not, is-AltReturn, is-Bind, is-Bound, form-Name, form-Minus, form-Plus, form-Paren, form-Binary)
