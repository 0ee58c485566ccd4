-- The greatest or the least of operands that are taken one after the other.
use Rattle.std.proofs.Common.{◌≡◌, suc, List, [], ◌∷◌, drop, length, Some, None, refl, ap, sym, ◌∙◌, arith}
use Rattle.c_tree.specs.declared.expression.CExpr.{CExpr}
use Rattle.c_tree.specs.declared.expression.CExpr.TheVariants as expr
use Rattle.c_tree.specs.declared.expression.Extreme.{Extreme}
use Rattle.item_emission.specs.NamedEmission.{extreme_expr, first_extreme}

pub best-more : (which : Extreme) (best next x : CExpr) (all rest : List CExpr) (whole : CExpr) → all ≡ x ∷ rest → next ≡ expr.MaxMin which best x
    → whole ≡ extreme_expr which best all → whole ≡ extreme_expr which next rest
unfolding extreme_expr
best-more which best next x all rest whole is step so_far =
    so_far ∙ ap (extreme_expr which best) is ∙ ap (λ e. extreme_expr which e rest) (sym step)

none-left : (all rest : List CExpr) → all ≡ rest → rest ≡ drop 1 all → all ≡ []
none-left [] rest same less = refl
none-left (x ∷ all) rest same less =
    let a : suc (length all) ≡ length rest = ap length same in
    let b : length rest ≡ length all = ap length less in
    absurd (omega (arith, a, b))

pub best-end : (which : Extreme) (best : CExpr) (all rest : List CExpr) (whole : CExpr) → all ≡ rest → rest ≡ drop 1 all
    → whole ≡ extreme_expr which best all → best ≡ whole
unfolding extreme_expr
best-end which best all rest whole same less so_far = sym (so_far ∙ ap (extreme_expr which best) (none-left all rest same less))

pub best-some : (which : Extreme) (first e : CExpr) (all rest : List CExpr) → all ≡ first ∷ rest → e ≡ extreme_expr which first rest → Some e ≡ first_extreme which all
unfolding first_extreme
best-some which first e all rest is made = ap Some made ∙ sym (ap (first_extreme which) is)

pub best-none : (which : Extreme) (all rest : List CExpr) → all ≡ rest → rest ≡ drop 1 all → None ≡ first_extreme which all
unfolding first_extreme
best-none which all rest same less = sym (ap (first_extreme which) (none-left all rest same less))
