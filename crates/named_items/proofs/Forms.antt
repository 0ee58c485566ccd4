-- What is in each form of an expression.
use Rattle.std.specs.Prelude.{◌≡◌, ℕ, ℤ, List, Some, None}
use Rattle.std.proofs.Common.{refl}
use Rattle.c_tree.specs.Opened.{trees_opened}
use Rattle.c_tree.specs.declared.expression.CExpr.{CExpr, Number, Name, Unary', Binary', Index', more_of-CExpr, end_of-CExpr}
use Rattle.c_tree.specs.declared.expression.CExpr.TheVariants as expr
use Rattle.c_tree.specs.declared.expression.UnaryOp.{UnaryOp}
use Rattle.c_tree.specs.declared.expression.BinaryOp.{BinaryOp}
use Rattle.named_items.specs.SamePlaces.{name_in, number_in, pointed_in, pointer_in, array_in, element_in}
use Rattle.named_items.specs.Structured.{added_in, sum_in}

pub name-Name : (name : List ℕ) → name_in (expr.Name name) ≡ Some name
unfolding name_in trees_opened
name-Name name = refl

pub name-other : (e : CExpr) → ((name : List ℕ) → e ≡ expr.Name name → ⊥) → name_in e ≡ None
unfolding name_in trees_opened
name-other (Name name) other = absurd (other name refl)
name-other e other = refl

pub number-Number : (z : ℤ) → number_in (expr.Number z) ≡ Some z
unfolding number_in trees_opened
number-Number z = refl

pub number-other : (e : CExpr) → ((z : ℤ) → e ≡ expr.Number z → ⊥) → number_in e ≡ None
unfolding number_in trees_opened
number-other (Number z) other = absurd (other z refl)
number-other e other = refl

pub pointer-Unary : (op : UnaryOp) (e : CExpr) → pointer_in (expr.Unary op e) ≡ pointed_in op e
unfolding pointer_in trees_opened
pointer-Unary op e = refl

pub pointer-other : (e : CExpr) → ((op : UnaryOp) (a : CExpr) → e ≡ expr.Unary op a → ⊥) → pointer_in e ≡ None
unfolding pointer_in trees_opened
pointer-other (Unary' op s (more_of-CExpr e end_of-CExpr)) other = absurd (other op e refl)
pointer-other e other = refl

pub array-Index : (e i : CExpr) → array_in (expr.Index e i) ≡ name_in e
unfolding array_in trees_opened
array-Index e i = refl

pub array-other : (e : CExpr) → ((a i : CExpr) → e ≡ expr.Index a i → ⊥) → array_in e ≡ None
unfolding array_in trees_opened
array-other (Index' s (more_of-CExpr a end_of-CExpr) t (more_of-CExpr i end_of-CExpr)) other = absurd (other a i refl)
array-other e other = refl

pub element-Index : (e i : CExpr) → element_in (expr.Index e i) ≡ number_in i
unfolding element_in trees_opened
element-Index e i = refl

pub element-other : (e : CExpr) → ((a i : CExpr) → e ≡ expr.Index a i → ⊥) → element_in e ≡ None
unfolding element_in trees_opened
element-other (Index' s (more_of-CExpr a end_of-CExpr) t (more_of-CExpr i end_of-CExpr)) other = absurd (other a i refl)
element-other e other = refl

pub sum-Binary : (op : BinaryOp) (a b : CExpr) → sum_in (expr.Binary op a b) ≡ added_in op a b
unfolding sum_in trees_opened
sum-Binary op a b = refl

pub sum-other : (e : CExpr) → ((op : BinaryOp) (a b : CExpr) → e ≡ expr.Binary op a b → ⊥) → sum_in e ≡ None
unfolding sum_in trees_opened
sum-other (Binary' op s (more_of-CExpr a end_of-CExpr) t (more_of-CExpr b end_of-CExpr)) other = absurd (other op a b refl)
sum-other e other = refl

pub ruleset place_forms = (name-Name, number-Number, pointer-Unary, array-Index, element-Index, sum-Binary)
