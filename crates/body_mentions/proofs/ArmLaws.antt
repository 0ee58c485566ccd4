-- An `if` with both arms, piece by piece.
use Rattle.std.proofs.Common.{◌≡◌, List, Bool, ◌||◌, Option, Some, sym, ap, ◌∙◌}
use Rattle.c_tree.specs.declared.expression.CExpr.{CExpr}
use Rattle.c_tree.specs.declared.statement.CStmt.{CStmt}
use Rattle.c_tree.specs.declared.statement.CStmt.TheVariants as stmt
use Rattle.first_names.specs.declared.FirstNames.{FirstNames}
use Rattle.body_mentions.specs.Mentioned.{in_expression, in_statement, in_statements, in_other}
use Rattle.body_mentions.proofs.MentionEquations.{in-If, other-Some}

-- the test, the first arm and the second one
pub with-else : (names : FirstNames (Unit {0})) (one : CStmt) (test : CExpr) (first second : List CStmt) (other : Option (List CStmt)) (f s : List CStmt) (a b c e r : Bool) →
    one ≡ stmt.If test first other → other ≡ Some second → f ≡ first → s ≡ second →
    a ≡ in_expression names test → b ≡ in_statements names f → c ≡ (a || b) → e ≡ in_statements names s → r ≡ (c || e) → r ≡ in_statement names one
with-else names one test first second other f s a b c e r tree arm is_first is_second h_a h_b h_c h_e h_r =
    let whole : in_statement names one ≡ ((in_expression names test || in_statements names first) || in_other names other) =
    ap (λ z. in_statement names z) tree ∙ in-If names test first other in
    let begun : b ≡ in_statements names first = h_b ∙ ap (λ z. in_statements names z) is_first in
    let ended : e ≡ in_other names other = h_e ∙ ap (λ z. in_statements names z) is_second ∙ sym (ap (λ z. in_other names z) arm ∙ other-Some names second) in
    h_r ∙ (λ i. h_c i || ended i) ∙ (λ i. (h_a i || begun i) || in_other names other) ∙ sym whole
