-- The nodes of each form of an expression.
use Rattle.std.specs.Prelude.{◌≡◌, ℕ, ℤ, Bool, List, [], ◌∷◌, ◌++◌, map, Option, Some, None, option_map}
use Rattle.std.proofs.Common.{refl, ap}
use Rattle.f_tree.specs.Values.{Bytes}
use Rattle.f_tree.specs.declared.expressions.BinaryOp.{BinaryOp}
use Rattle.f_tree.specs.declared.expressions.Expr.{Expr}
use Rattle.f_tree.specs.declared.expressions.Expr as tree
use Rattle.f_tree.specs.declared.expressions.Expr.TheBlock as block
use Rattle.f_tree.specs.Folds.{fold_exprs, folds_opened}
use Rattle.name_table.specs.declared.NameTable.{NameTable}
use Rattle.name_table.specs.Named.{value_of}
use Rattle.f_tree.specs.declared.statements.Stmt.{Stmt}
use Rattle.expansion_judge.specs.declared.counts.Counted.{Counted}
use Rattle.expansion_judge.specs.NodesCounted.{one_node, with_part, part_counted, onward, expanded, layer_counted, count_by, statement_rows, rows_by}

row-counted : (t : NameTable ℕ) (es : List Expr) → fold_exprs (layer_counted t) (block.hidden-the_row-Expr-0 es) ≡ map (count_by t) es
unfolding folds_opened count_by Rattle.f_tree.specs.declared.expressions.Expr.TheBlock.hidden-the_row-Expr-0
row-counted t [] = refl
row-counted t (e ∷ es) = ap (λ cs. count_by t e ∷ cs) (row-counted t es)

pub counts-Int : (t : NameTable ℕ) (z : ℤ) → count_by t (tree.Int z) ≡ one_node
unfolding folds_opened count_by layer_counted
counts-Int t z = refl

pub counts-Logical : (t : NameTable ℕ) (b : Bool) → count_by t (tree.Logical b) ≡ one_node
unfolding folds_opened count_by layer_counted
counts-Logical t b = refl

pub counts-Text : (t : NameTable ℕ) (cs : Bytes) → count_by t (tree.Text cs) ≡ one_node
unfolding folds_opened count_by layer_counted
counts-Text t cs = refl

pub counts-Name : (t : NameTable ℕ) (x : Bytes) → count_by t (tree.Name x) ≡ one_node
unfolding folds_opened count_by layer_counted
counts-Name t x = refl

pub counts-AltReturn : (t : NameTable ℕ) (label : ℕ) → count_by t (tree.AltReturn label) ≡ one_node
unfolding folds_opened count_by layer_counted
counts-AltReturn t label = refl

pub counts-Bound : (t : NameTable ℕ) (k : ℕ) → count_by t (tree.Bound k) ≡ one_node
unfolding folds_opened count_by layer_counted
counts-Bound t k = refl

pub counts-Apply : (t : NameTable ℕ) (x : Bytes) (es : List Expr) → count_by t (tree.Apply x es) ≡ expanded (value_of t x) (onward one_node (map (count_by t) es))
unfolding folds_opened count_by layer_counted Rattle.f_tree.specs.declared.expressions.Expr.TheBlock.hidden-the_row-Expr-0
counts-Apply t x es = ap (λ cs. expanded (value_of t x) (onward one_node cs)) (row-counted t es)

pub counts-Part : (t : NameTable ℕ) (e : Expr) (from to : Option Expr)
    → count_by t (tree.Part e from to) ≡ part_counted (count_by t e) (option_map (count_by t) from) (option_map (count_by t) to)
unfolding folds_opened count_by layer_counted
counts-Part t e None None = refl
counts-Part t e None (Some b) = refl
counts-Part t e (Some a) None = refl
counts-Part t e (Some a) (Some b) = refl

pub counts-Minus : (t : NameTable ℕ) (e : Expr) → count_by t (tree.Minus e) ≡ with_part one_node (count_by t e)
unfolding folds_opened count_by layer_counted
counts-Minus t e = refl

pub counts-Plus : (t : NameTable ℕ) (e : Expr) → count_by t (tree.Plus e) ≡ with_part one_node (count_by t e)
unfolding folds_opened count_by layer_counted
counts-Plus t e = refl

pub counts-Not : (t : NameTable ℕ) (e : Expr) → count_by t (tree.Not e) ≡ with_part one_node (count_by t e)
unfolding folds_opened count_by layer_counted
counts-Not t e = refl

pub counts-Paren : (t : NameTable ℕ) (e : Expr) → count_by t (tree.Paren e) ≡ with_part one_node (count_by t e)
unfolding folds_opened count_by layer_counted
counts-Paren t e = refl

pub counts-Binary : (t : NameTable ℕ) (o : BinaryOp) (a b : Expr) → count_by t (tree.Binary o a b) ≡ with_part (with_part one_node (count_by t a)) (count_by t b)
unfolding folds_opened count_by layer_counted
counts-Binary t o a b = refl

pub counts-Bind : (t : NameTable ℕ) (es : List Expr) (e : Expr) → count_by t (tree.Bind es e) ≡ onward (with_part one_node (count_by t e)) (map (count_by t) es)
unfolding folds_opened count_by layer_counted Rattle.f_tree.specs.declared.expressions.Expr.TheBlock.hidden-the_row-Expr-0
counts-Bind t es e = ap (onward (with_part one_node (count_by t e))) (row-counted t es)

pub ruleset count_forms = (counts-Int, counts-Logical, counts-Text, counts-Name, counts-AltReturn, counts-Bound, counts-Apply, counts-Part, counts-Minus, counts-Plus, counts-Not, counts-Paren, counts-Binary, counts-Bind)

pub onward_step : (t : NameTable ℕ) (s : Counted) (e : Expr) (es : List Expr) → onward s (map (count_by t) (e ∷ es)) ≡ onward (with_part s (count_by t e)) (map (count_by t) es)
unfolding onward
onward_step t s e es = refl

pub onward_end : (t : NameTable ℕ) (s : Counted) → onward s (map (count_by t) []) ≡ s
unfolding onward
onward_end t s = refl

pub rows_step : (t : NameTable ℕ) (s : Stmt) (ss : List Stmt) → rows_by t (s ∷ ss) ≡ statement_rows t s ++ rows_by t ss
unfolding rows_by
rows_step t s ss = refl

pub rows_end : (t : NameTable ℕ) → rows_by t [] ≡ []
unfolding rows_by
rows_end t = refl
