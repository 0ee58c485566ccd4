-- What is judged of each form of an expression.
use Rattle.std.specs.Prelude.{◌≡◌, ℕ, ℤ, Bool, List, [], ◌∷◌, map, Option, Some, None, option_map}
use Rattle.std.proofs.Common.{refl, ap}
use Rattle.f_tree.specs.Values.{Bytes}
use Rattle.f_tree.specs.declared.names.Basic.{Basic}
use Rattle.f_tree.specs.declared.refusals.Kind.{Kind}
use Rattle.f_tree.specs.declared.names.Basic.TheVariants.{Integer, Logical, Character}
use Rattle.f_tree.specs.declared.refusals.Kind.TheVariants.{SyntaxError}
use Rattle.f_tree.specs.declared.expressions.BinaryOp.{BinaryOp}
use Rattle.f_tree.specs.declared.expressions.Expr.{Expr, Row_of-Expr, end_of-Expr, more_of-Expr}
use Rattle.f_tree.specs.declared.expressions.Expr as tree
use Rattle.f_tree.specs.declared.expressions.Expr.TheBlock as block
use Rattle.f_tree.specs.Folds.{fold_exprs, folds_opened}
use Rattle.refusal_order.specs.Earliest.{least as lesser}
use Rattle.expression_judge.specs.declared.names.Names.{Names}
use Rattle.expression_judge.specs.SeenNames.{fact_in}
use Rattle.expression_judge.specs.FoundSteps.{value_found, name_judged_by, applied_found, end_found, part_found, sign_found, paren_found, binary_found, exit_found, nothing_found, plain_found, layer_found, judged_by, paired_onward}

row-judged : (names : Names) (es : List Expr) → fold_exprs (layer_found names) (block.hidden-the_row-Expr-0 es) ≡ map (judged_by names) es
unfolding folds_opened judged_by Rattle.f_tree.specs.declared.expressions.Expr.TheBlock.hidden-the_row-Expr-0
row-judged names [] = refl
row-judged names (e ∷ es) = ap (λ fs. judged_by names e ∷ fs) (row-judged names es)

pub judged-Int : (names : Names) (z : ℤ) → judged_by names (tree.Int z) ≡ value_found Integer None
unfolding folds_opened judged_by layer_found
judged-Int names z = refl

pub judged-Logical : (names : Names) (b : Bool) → judged_by names (tree.Logical b) ≡ value_found Logical None
unfolding folds_opened judged_by layer_found
judged-Logical names b = refl

pub judged-Text : (names : Names) (cs : Bytes) → judged_by names (tree.Text cs) ≡ value_found Character None
unfolding folds_opened judged_by layer_found
judged-Text names cs = refl

pub judged-Name : (names : Names) (x : Bytes) → judged_by names (tree.Name x) ≡ name_judged_by names x
unfolding folds_opened judged_by layer_found
judged-Name names x = refl

pub judged-Minus : (names : Names) (e : Expr) → judged_by names (tree.Minus e) ≡ sign_found Integer (judged_by names e)
unfolding folds_opened judged_by layer_found
judged-Minus names e = refl

pub judged-Plus : (names : Names) (e : Expr) → judged_by names (tree.Plus e) ≡ sign_found Integer (judged_by names e)
unfolding folds_opened judged_by layer_found
judged-Plus names e = refl

pub judged-Not : (names : Names) (e : Expr) → judged_by names (tree.Not e) ≡ sign_found Logical (judged_by names e)
unfolding folds_opened judged_by layer_found
judged-Not names e = refl

pub judged-Paren : (names : Names) (e : Expr) → judged_by names (tree.Paren e) ≡ paren_found (judged_by names e)
unfolding folds_opened judged_by layer_found
judged-Paren names e = refl

pub judged-AltReturn : (names : Names) (label : ℕ) → judged_by names (tree.AltReturn label) ≡ exit_found label
unfolding folds_opened judged_by layer_found
judged-AltReturn names label = refl

pub judged-Bound : (names : Names) (k : ℕ) → judged_by names (tree.Bound k) ≡ nothing_found SyntaxError None
unfolding folds_opened judged_by layer_found
judged-Bound names k = refl

pub judged-Binary : (names : Names) (op : BinaryOp) (a b : Expr) →
    judged_by names (tree.Binary op a b) ≡ binary_found op (judged_by names a) (judged_by names b)
unfolding folds_opened judged_by layer_found
judged-Binary names op a b = refl

pub judged-Apply : (names : Names) (x : Bytes) (es : List Expr) →
    judged_by names (tree.Apply x es) ≡ applied_found names x (fact_in names x) (map (judged_by names) es)
unfolding folds_opened judged_by layer_found Rattle.f_tree.specs.declared.expressions.Expr.TheBlock.hidden-the_row-Expr-0
judged-Apply names x es = ap (applied_found names x (fact_in names x)) (row-judged names es)

pub judged-Bind : (names : Names) (es : List Expr) (e : Expr) →
    judged_by names (tree.Bind es e) ≡ nothing_found SyntaxError (lesser (plain_found (map (judged_by names) es)) (judged_by names e).fault)
unfolding folds_opened judged_by layer_found Rattle.f_tree.specs.declared.expressions.Expr.TheBlock.hidden-the_row-Expr-0
judged-Bind names es e = ap (λ fs. nothing_found SyntaxError (lesser (plain_found fs) (judged_by names e).fault)) (row-judged names es)

pub judged-Part : (names : Names) (e : Expr) (from to : Option Expr) →
    judged_by names (tree.Part e from to)
    ≡ part_found (judged_by names e) (end_found (option_map (judged_by names) from)) (end_found (option_map (judged_by names) to))
unfolding folds_opened judged_by layer_found
judged-Part names e None None = refl
judged-Part names e None (Some b) = refl
judged-Part names e (Some a) None = refl
judged-Part names e (Some a) (Some b) = refl

pub ruleset judged_forms = (judged-Int, judged-Logical, judged-Text, judged-Name, judged-Minus, judged-Plus, judged-Not, judged-Paren, judged-AltReturn, judged-Bound, judged-Binary, judged-Apply, judged-Bind, judged-Part)

-- what is found of pairs where no operand is left
pub paired-end : (fault : Option Kind) (basics : List Basic) → paired_onward fault basics [] ≡ fault
unfolding paired_onward
paired-end fault [] = refl
paired-end fault (b ∷ bs) = refl
