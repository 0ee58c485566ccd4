-- An `if` with both arms, piece by piece.
use Rattle.std.proofs.Common.{◌≡◌, ℕ, ◌+◌, List, ◌++◌, codes, Option, Some, sym, ap, ◌∙◌, append_assoc}
use Rattle.c_tree.specs.declared.expression.CExpr.{CExpr}
use Rattle.c_tree.specs.declared.statement.CStmt.{CStmt}
use Rattle.c_tree.specs.declared.statement.CStmt.TheVariants as stmt
use Rattle.c_text.specs.declared.phrase.Phrase.TheVariants.{Else}
use Rattle.c_text.specs.Phrases.{letters}
use Rattle.c_text.specs.Printed.{line, if_head, printed_stmt, printed_stmts, printed_second}
use Rattle.c_text.proofs.StatementEquations.{printed-If, second-Some}

-- three pieces put behind a text, one after the other
three : (out o1 o2 o3 a b c : List ℕ) → o1 ≡ out ++ a → o2 ≡ o1 ++ b → o3 ≡ o2 ++ c → o3 ≡ out ++ (a ++ (b ++ c))
three out o1 o2 o3 a b c h1 h2 h3 =
    h3 ∙ ap (λ o. o ++ c) (h2 ∙ ap (λ o. o ++ b) h1) ∙ append_assoc (out ++ a) b c ∙ append_assoc out a (b ++ c)

-- five pieces: the head, the first arm, the word between, the second arm and the brace
pub with-else : (one : CStmt) (test : CExpr) (first second : List CStmt) (other : Option (List CStmt)) (depth : ℕ) (f s : List CStmt) (e out o1 o2 o3 o4 o5 : List ℕ)
    → one ≡ stmt.If test first other → other ≡ Some second → f ≡ first → s ≡ second → e ≡ letters Else
    → o1 ≡ out ++ line depth (if_head test) → o2 ≡ o1 ++ printed_stmts f (depth + 1)
    → o3 ≡ o2 ++ line depth e → o4 ≡ o3 ++ printed_stmts s (depth + 1) → o5 ≡ o4 ++ line depth (codes "}")
    → o5 ≡ out ++ printed_stmt one depth
with-else one test first second other depth f s e out o1 o2 o3 o4 o5 tree arm is_first is_second is_else h1 h2 h3 h4 h5 =
    let later : List ℕ = line depth (letters Else) ++ (printed_stmts second (depth + 1) ++ line depth (codes "}")) in
    let whole : printed_stmt one depth ≡ line depth (if_head test) ++ (printed_stmts first (depth + 1) ++ later) =
    ap (λ a. printed_stmt a depth) tree ∙ printed-If test first other depth
    ∙ ap (λ text. line depth (if_head test) ++ (printed_stmts first (depth + 1) ++ text)) (ap (λ a. printed_second a depth) arm ∙ second-Some second depth)
    in three out o1 o2 o5 _ _ _ h1 (h2 ∙ ap (λ a. o1 ++ printed_stmts a (depth + 1)) is_first)
    (three o2 o3 o4 o5 _ _ _ (h3 ∙ ap (λ a. o2 ++ line depth a) is_else) (h4 ∙ ap (λ a. o3 ++ printed_stmts a (depth + 1)) is_second) h5)
    ∙ sym (ap (λ text. out ++ text) whole)
