-- The folds on trees that are made by a constructor, for any parts.
use Rattle.std.proofs.Common.{◌≡◌, ℕ, ℤ, Bool, List, refl}
use Rattle.f_tree.specs.Values.{Bytes}
use Rattle.f_tree.specs.declared.expressions.BinaryOp.{BinaryOp}
use Rattle.f_tree.specs.declared.expressions.Expr.{Expr}
use Rattle.f_tree.specs.declared.expressions.Expr as tree
use Rattle.f_tree.specs.declared.expressions.Expr.TheOpen as expr
use Rattle.f_tree.specs.declared.statements.Body.{Body}
use Rattle.f_tree.specs.declared.statements.Body as statement
use Rattle.f_tree.specs.declared.statements.Body.TheOpen as body
use Rattle.f_tree.specs.declared.statements.Direction.{Direction}
use Rattle.f_tree.specs.declared.statements.Control.{Control}
use Rattle.f_tree.specs.declared.statements.ListItem.{ListItem}
use Rattle.f_tree.specs.declared.statements.ListItem as list
use Rattle.f_tree.specs.declared.statements.ListItem.TheOpen as item
use Rattle.f_tree.specs.Folds.{fold_expr, fold_item, fold_body, layer_of, folds_opened}

module _ {A : Type 0} (layer : expr.Expr-F A → A) where
  pub fold-Int : (z : ℤ) → fold_expr layer (tree.Int z) ≡ layer (expr.Int z)
  unfolding folds_opened
  fold-Int z = refl

  pub fold-Logical : (b : Bool) → fold_expr layer (tree.Logical b) ≡ layer (expr.Logical b)
  unfolding folds_opened
  fold-Logical b = refl

  pub fold-Text : (cs : Bytes) → fold_expr layer (tree.Text cs) ≡ layer (expr.Text cs)
  unfolding folds_opened
  fold-Text cs = refl

  pub fold-Name : (x : Bytes) → fold_expr layer (tree.Name x) ≡ layer (expr.Name x)
  unfolding folds_opened
  fold-Name x = refl

  pub fold-Minus : (e : Expr) → fold_expr layer (tree.Minus e) ≡ layer (expr.Minus (fold_expr layer e))
  unfolding folds_opened
  fold-Minus e = refl

  pub fold-Plus : (e : Expr) → fold_expr layer (tree.Plus e) ≡ layer (expr.Plus (fold_expr layer e))
  unfolding folds_opened
  fold-Plus e = refl

  pub fold-Not : (e : Expr) → fold_expr layer (tree.Not e) ≡ layer (expr.Not (fold_expr layer e))
  unfolding folds_opened
  fold-Not e = refl

  pub fold-Paren : (e : Expr) → fold_expr layer (tree.Paren e) ≡ layer (expr.Paren (fold_expr layer e))
  unfolding folds_opened
  fold-Paren e = refl

  pub fold-Binary : (op : BinaryOp) (a b : Expr) → fold_expr layer (tree.Binary op a b) ≡ layer (expr.Binary op (fold_expr layer a) (fold_expr layer b))
  unfolding folds_opened
  fold-Binary op a b = refl

  pub fold-AltReturn : (l : ℕ) → fold_expr layer (tree.AltReturn l) ≡ layer (expr.AltReturn l)
  unfolding folds_opened
  fold-AltReturn l = refl

module _ {A : Type 0} (layer : item.ListItem-F A → A) where
  pub fold-Item : (e : Expr) → fold_item layer (list.Item e) ≡ layer (item.Item e)
  unfolding folds_opened
  fold-Item e = refl

module _ {A : Type 0} (layer : body.Body-F A → A) where
  pub fold-Assign : (target e : Expr) → fold_body layer (statement.Assign target e) ≡ layer (body.Assign target e)
  unfolding folds_opened
  fold-Assign target e = refl

  pub fold-Transfer : (way : Direction) (controls : List Control) (is : List ListItem) → fold_body layer (statement.Transfer way controls is) ≡ layer (body.Transfer way controls is)
  unfolding folds_opened
  fold-Transfer way controls is = refl

  pub fold-IfOne : (e : Expr) (b : Body) → fold_body layer (statement.IfOne e b) ≡ layer (body.IfOne e (fold_body layer b))
  unfolding folds_opened
  fold-IfOne e b = refl

  pub fold-End : fold_body layer statement.End ≡ layer body.End
  unfolding folds_opened
  fold-End = refl

pub layer-Assign : (target e : Expr) → layer_of (statement.Assign target e) ≡ body.Assign target e
unfolding folds_opened
layer-Assign target e = refl

pub layer-IfOne : (e : Expr) (b : Body) → layer_of (statement.IfOne e b) ≡ body.IfOne e b
unfolding folds_opened
layer-IfOne e b = refl

pub layer-End : layer_of statement.End ≡ body.End
unfolding folds_opened
layer-End = refl

pub layer-Transfer : (way : Direction) (controls : List Control) (is : List ListItem) → layer_of (statement.Transfer way controls is) ≡ body.Transfer way controls is
unfolding folds_opened
layer-Transfer way controls is = refl
