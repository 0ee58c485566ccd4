-- The text of each form of an expression.
use Rattle.std.specs.Prelude.{◌≡◌, ℕ, ℤ, Bool, List, Option, Some, None}
use Rattle.std.proofs.Common.{refl}
use Rattle.f_tree.specs.Values.{Bytes}
use Rattle.f_tree.specs.declared.expressions.BinaryOp.{BinaryOp}
use Rattle.f_tree.specs.declared.expressions.Expr.{Expr}
use Rattle.f_tree.specs.declared.expressions.Expr as tree
use Rattle.f_tree.specs.Folds.{folds_opened}
use Rattle.declaration_rows.specs.FormatRows.{layer_literal, literal_of}

pub literal-Text : (cs : Bytes) → literal_of (tree.Text cs) ≡ Some cs
unfolding folds_opened literal_of layer_literal
literal-Text cs = refl

pub literal-Int : (z : ℤ) → literal_of (tree.Int z) ≡ None
unfolding folds_opened literal_of layer_literal
literal-Int z = refl

pub literal-Logical : (b : Bool) → literal_of (tree.Logical b) ≡ None
unfolding folds_opened literal_of layer_literal
literal-Logical b = refl

pub literal-Name : (x : Bytes) → literal_of (tree.Name x) ≡ None
unfolding folds_opened literal_of layer_literal
literal-Name x = refl

pub literal-Apply : (x : Bytes) (es : List Expr) → literal_of (tree.Apply x es) ≡ None
unfolding folds_opened literal_of layer_literal
literal-Apply x es = refl

pub literal-Part : (e : Expr) (from to : Option Expr) → literal_of (tree.Part e from to) ≡ None
unfolding folds_opened literal_of layer_literal
literal-Part e None None = refl
literal-Part e None (Some b) = refl
literal-Part e (Some a) None = refl
literal-Part e (Some a) (Some b) = refl

pub literal-Minus : (e : Expr) → literal_of (tree.Minus e) ≡ None
unfolding folds_opened literal_of layer_literal
literal-Minus e = refl

pub literal-Plus : (e : Expr) → literal_of (tree.Plus e) ≡ None
unfolding folds_opened literal_of layer_literal
literal-Plus e = refl

pub literal-Not : (e : Expr) → literal_of (tree.Not e) ≡ None
unfolding folds_opened literal_of layer_literal
literal-Not e = refl

pub literal-Paren : (e : Expr) → literal_of (tree.Paren e) ≡ None
unfolding folds_opened literal_of layer_literal
literal-Paren e = refl

pub literal-Binary : (op : BinaryOp) (a b : Expr) → literal_of (tree.Binary op a b) ≡ None
unfolding folds_opened literal_of layer_literal
literal-Binary op a b = refl

pub literal-AltReturn : (label : ℕ) → literal_of (tree.AltReturn label) ≡ None
unfolding folds_opened literal_of layer_literal
literal-AltReturn label = refl

pub literal-Bind : (es : List Expr) (e : Expr) → literal_of (tree.Bind es e) ≡ None
unfolding folds_opened literal_of layer_literal
literal-Bind es e = refl

pub literal-Bound : (k : ℕ) → literal_of (tree.Bound k) ≡ None
unfolding folds_opened literal_of layer_literal
literal-Bound k = refl

pub ruleset literal_forms = (literal-Text, literal-Int, literal-Logical, literal-Name, literal-Apply, literal-Part, literal-Minus, literal-Plus, literal-Not, literal-Paren, literal-Binary, literal-AltReturn, literal-Bind, literal-Bound)
