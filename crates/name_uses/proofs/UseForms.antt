-- The uses of the names of each form of an expression.
use Rattle.std.specs.Prelude.{◌≡◌, ℕ, ℤ, Bool, List, [], ◌∷◌, ◌++◌, Option, Some, None, option_map}
use Rattle.std.proofs.Common.{refl, sym, ap, ◌∙◌}
use Rattle.std.proofs.lemmas.List.{append-nil}
use Rattle.f_tree.specs.Values.{Bytes}
use Rattle.f_tree.specs.declared.expressions.BinaryOp.{BinaryOp}
use Rattle.f_tree.specs.declared.expressions.Expr.{Expr}
use Rattle.f_tree.specs.declared.expressions.Expr as tree
use Rattle.f_tree.specs.declared.expressions.Expr.TheBlock as block
use Rattle.f_tree.specs.Folds.{fold_exprs, folds_opened}
use Rattle.f_tree.specs.Uses.{Use, Alone, WithList, used, uses_of, layer_uses, joined_uses, all_of, optional_uses}

row-uses : (es : List Expr) → joined_uses (fold_exprs layer_uses (block.hidden-the_row-Expr-0 es)) ≡ all_of uses_of es
unfolding folds_opened uses_of joined_uses all_of Rattle.f_tree.specs.declared.expressions.Expr.TheBlock.hidden-the_row-Expr-0
row-uses [] = refl
row-uses (e ∷ es) = ap (λ us. uses_of e ++ us) (row-uses es)

pub uses-Int : (z : ℤ) → uses_of (tree.Int z) ≡ []
unfolding folds_opened uses_of layer_uses
uses-Int z = refl

pub uses-Logical : (b : Bool) → uses_of (tree.Logical b) ≡ []
unfolding folds_opened uses_of layer_uses
uses-Logical b = refl

pub uses-Text : (cs : Bytes) → uses_of (tree.Text cs) ≡ []
unfolding folds_opened uses_of layer_uses
uses-Text cs = refl

pub uses-AltReturn : (label : ℕ) → uses_of (tree.AltReturn label) ≡ []
unfolding folds_opened uses_of layer_uses
uses-AltReturn label = refl

pub uses-Bound : (k : ℕ) → uses_of (tree.Bound k) ≡ []
unfolding folds_opened uses_of layer_uses
uses-Bound k = refl

pub uses-Name : (x : Bytes) → uses_of (tree.Name x) ≡ used x Alone
unfolding folds_opened uses_of layer_uses
uses-Name x = refl

pub uses-Apply : (x : Bytes) (es : List Expr) → uses_of (tree.Apply x es) ≡ used x WithList ++ all_of uses_of es
unfolding folds_opened uses_of layer_uses Rattle.f_tree.specs.declared.expressions.Expr.TheBlock.hidden-the_row-Expr-0
uses-Apply x es = ap (λ us. used x WithList ++ us) (row-uses es)

pub uses-Part : (e : Expr) (from to : Option Expr) → uses_of (tree.Part e from to) ≡ uses_of e ++ optional_uses (option_map uses_of from) ++ optional_uses (option_map uses_of to)
unfolding folds_opened uses_of layer_uses
uses-Part e None None = refl
uses-Part e None (Some b) = refl
uses-Part e (Some a) None = refl
uses-Part e (Some a) (Some b) = refl

pub uses-Minus : (e : Expr) → uses_of (tree.Minus e) ≡ uses_of e
unfolding folds_opened uses_of layer_uses
uses-Minus e = refl

pub uses-Plus : (e : Expr) → uses_of (tree.Plus e) ≡ uses_of e
unfolding folds_opened uses_of layer_uses
uses-Plus e = refl

pub uses-Not : (e : Expr) → uses_of (tree.Not e) ≡ uses_of e
unfolding folds_opened uses_of layer_uses
uses-Not e = refl

pub uses-Paren : (e : Expr) → uses_of (tree.Paren e) ≡ uses_of e
unfolding folds_opened uses_of layer_uses
uses-Paren e = refl

pub uses-Binary : (op : BinaryOp) (a b : Expr) → uses_of (tree.Binary op a b) ≡ uses_of a ++ uses_of b
unfolding folds_opened uses_of layer_uses
uses-Binary op a b = refl

pub uses-Bind : (es : List Expr) (e : Expr) → uses_of (tree.Bind es e) ≡ all_of uses_of es ++ uses_of e
unfolding folds_opened uses_of layer_uses Rattle.f_tree.specs.declared.expressions.Expr.TheBlock.hidden-the_row-Expr-0
uses-Bind es e = ap (λ us. us ++ uses_of e) (row-uses es)

-- a form that has no names adds none
nothing_more : (us vs : List Use) → vs ≡ [] → us ≡ us ++ vs
nothing_more us vs is = sym (append-nil us) ∙ ap (λ ws. us ++ ws) (sym is)

pub none-Int : (us : List Use) (e : Expr) (z : ℤ) → e ≡ tree.Int z → us ≡ us ++ uses_of e
none-Int us e z is = nothing_more us (uses_of e) (ap uses_of is ∙ uses-Int z)

pub none-Logical : (us : List Use) (e : Expr) (b : Bool) → e ≡ tree.Logical b → us ≡ us ++ uses_of e
none-Logical us e b is = nothing_more us (uses_of e) (ap uses_of is ∙ uses-Logical b)

pub none-Text : (us : List Use) (e : Expr) (cs : Bytes) → e ≡ tree.Text cs → us ≡ us ++ uses_of e
none-Text us e cs is = nothing_more us (uses_of e) (ap uses_of is ∙ uses-Text cs)

pub none-AltReturn : (us : List Use) (e : Expr) (label : ℕ) → e ≡ tree.AltReturn label → us ≡ us ++ uses_of e
none-AltReturn us e label is = nothing_more us (uses_of e) (ap uses_of is ∙ uses-AltReturn label)

pub none-Bound : (us : List Use) (e : Expr) (k : ℕ) → e ≡ tree.Bound k → us ≡ us ++ uses_of e
none-Bound us e k is = nothing_more us (uses_of e) (ap uses_of is ∙ uses-Bound k)

pub ruleset use_forms = (none-Int, none-Logical, none-Text, none-AltReturn, none-Bound, uses-Int, uses-Logical, uses-Text, uses-AltReturn, uses-Bound, uses-Name, uses-Apply, uses-Part, uses-Minus, uses-Plus, uses-Not, uses-Paren, uses-Binary, uses-Bind)
