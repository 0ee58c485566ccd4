-- A measure of the search for references: the expressions of the statements that are left to it.
use Rattle.std.proofs.Common.{◌≡◌, ℕ, ◌+◌, ◌*◌, ◌<◌, List, [], ◌∷◌, ◌++◌, ap, arith}
use Rattle.f_tree.specs.declared.expressions.Expr.{Expr, size-Expr}
use Rattle.f_tree.specs.declared.statements.Body.{Body, Assign}
use Rattle.f_tree.specs.declared.statements.Body.TheOpen as open-body
use Rattle.f_tree.specs.declared.statements.Stmt.{Stmt}
use Rattle.f_tree.specs.Folds.{layer_of}

unfoldable pub weight_of : Body → ℕ
weight_of b = elim (layer_of b) [ open-body.Assign target e ↦ 4 * size-Expr e + 2 | _ ↦ 0 ]

unfoldable pub weight : List Stmt → ℕ
weight [] = 0
weight (s ∷ ss) = weight_of s.body + weight ss

weight-both : (ss ts : List Stmt) → weight (ss ++ ts) ≡ weight ss + weight ts
unfolding weight
weight-both [] ts = omega arith
weight-both (s ∷ ss) ts = let e : weight (ss ++ ts) ≡ weight ss + weight ts = weight-both ss ts in omega arith

weight-Assign : (b : Body) (target e : Expr) → b ≡ Assign target e → weight_of b ≡ 4 * size-Expr e + 2
unfolding weight_of layer_of
weight-Assign b target e is = ap (λ (b : Body). elim (layer_of b) [ open-body.Assign t v ↦ 4 * size-Expr v + 2 | _ ↦ 0 ]) is

pub lighter : (before later : List Stmt) (s : Stmt) (target e : Expr) → s.body ≡ Assign target e → weight before + (4 * size-Expr e + 1) < weight (before ++ s ∷ later)
unfolding weight
lighter before later s target e is =
    let both : weight (before ++ s ∷ later) ≡ weight before + (weight_of s.body + weight later) = weight-both before (s ∷ later) in
    let here : weight_of s.body ≡ 4 * size-Expr e + 2 = weight-Assign s.body target e is in
    omega arith
