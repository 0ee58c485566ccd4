-- How many flat steps the statements have that are made by the names of their forms.
use Rattle.std.specs.Prelude.{◌≡◌, ℕ, ◌+◌, List, [], ◌∷◌, length, Option, Some, None}
use Rattle.std.proofs.Common.{refl, ap}
use Rattle.c_tree.specs.Opened.{trees_opened}
use Rattle.c_tree.specs.FlatForm.{body, body_of_all}
use Rattle.c_tree.specs.declared.expression.CExpr.{CExpr}
use Rattle.c_tree.specs.declared.statement.CCase.{CCase}
use Rattle.c_tree.specs.declared.statement.CNext.{CNext}
use Rattle.c_tree.specs.declared.statement.CStmt.{CStmt}
use Rattle.c_tree.specs.declared.statement.CStmt.TheVariants as form
use Rattle.named_items.specs.c_structure.Statements.{with_label}

size_block : (ss : List CStmt) → (body (form.Block ss)).size ≡ (body_of_all ss).size
unfolding trees_opened
size_block [] = refl
size_block (first ∷ later) = ap (λ n. (body first).size + n) (size_block later)

pub size_if : (test : CExpr) (first : List CStmt) → (body (form.If test first None)).size ≡ 1 + (body_of_all first).size
unfolding trees_opened
size_if test first = ap (λ n. 1 + n) (size_block first)

pub size_if_else : (test : CExpr) (first second : List CStmt) → (body (form.If test first (Some second))).size ≡ 2 + (body_of_all first).size + (body_of_all second).size
unfolding trees_opened
size_if_else test first second = λ i. 2 + size_block first i + size_block second i

pub size_for : (variable first test : CExpr) (next : CNext) (turn : List CStmt) → (body (form.For variable first test next turn)).size ≡ 4 + (body_of_all turn).size
unfolding trees_opened
size_for variable first test next turn = ap (λ n. 4 + n) (size_block turn)

-- an assignment, and a `do` behind it
pub size_do : (a b : CExpr) (turn : List CStmt) (test : CExpr) → (body (form.Block (form.Set a b ∷ form.DoWhile turn test ∷ []))).size ≡ 1 + (((body_of_all turn).size + 1) + 0)
unfolding trees_opened
size_do a b turn test = ap (λ n. 1 + ((n + 1) + 0)) (size_block turn)

pub size_labelled : (label : Option (List ℕ)) (s : CStmt) → (body (with_label label s)).size ≡ (body s).size
unfolding with_label trees_opened
size_labelled None s = refl
size_labelled (Some name) s = refl

pub size_switch : (value : CExpr) (cases : List CCase) → (body (form.Switch value cases)).size ≡ 1 + length cases
unfolding trees_opened
size_switch value cases = refl
