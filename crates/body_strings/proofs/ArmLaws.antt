-- An `if` with both arms, piece by piece.
use Rattle.std.proofs.Common.{◌≡◌, ℕ, List, ◌++◌, Option, Some, Result, Ok, Err, OnOk, sym, ap, ◌∙◌, append_assoc}
use Rattle.c_tree.specs.declared.expression.CExpr.{CExpr}
use Rattle.c_tree.specs.declared.statement.CStmt.{CStmt}
use Rattle.c_tree.specs.declared.statement.CStmt.TheVariants as stmt
use Rattle.body_strings.specs.Strings.{of_expression, of_statement, of_statements, of_other}
use Rattle.body_strings.proofs.StringEquations.{of-If, other-Some}

-- what follows from a fact of the one case holds there
pub on-ok : {T E A B : Type 0} (r : Result T E) → OnOk r A → (A → B) → OnOk r B
on-ok (Ok value) fact step = step fact
on-ok (Err reason) fact step = fact

-- the strings of the test, of the first arm and of the second one
pub with-else : (one : CStmt) (test : CExpr) (first second : List CStmt) (other : Option (List CStmt)) (f s : List CStmt) (out o1 o2 o3 : List (List ℕ)) →
    one ≡ stmt.If test first other → other ≡ Some second → f ≡ first → s ≡ second →
    o1 ≡ out ++ of_expression test → o2 ≡ o1 ++ of_statements f → o3 ≡ o2 ++ of_statements s → o3 ≡ out ++ of_statement one
with-else one test first second other f s out o1 o2 o3 tree arm is_first is_second h1 h2 h3 =
    let whole : of_statement one ≡ of_expression test ++ (of_statements first ++ of_statements second) =
    ap of_statement tree ∙ of-If test first other ∙ ap (λ zs. of_expression test ++ (of_statements first ++ zs)) (ap of_other arm ∙ other-Some second) in
    h3
    ∙ ap (λ zs. zs ++ of_statements s) (h2 ∙ ap (λ zs. zs ++ of_statements f) h1)
    ∙ append_assoc (out ++ of_expression test) (of_statements f) (of_statements s)
    ∙ append_assoc out (of_expression test) (of_statements f ++ of_statements s)
    ∙ (λ i. out ++ (of_expression test ++ (of_statements (is_first i) ++ of_statements (is_second i))))
    ∙ ap (λ zs. out ++ zs) (sym whole)
