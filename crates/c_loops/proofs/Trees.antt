-- The loops and the labels of the statements that are made by the names of their forms.
use Rattle.std.specs.Prelude.{◌≡◌, ℕ, List, [], ◌∷◌, map, Option, Some, None}
use Rattle.std.proofs.Common.{refl, ap}
use Rattle.c_tree.specs.Opened.{trees_opened}
use Rattle.c_tree.specs.declared.expression.CExpr.{CExpr}
use Rattle.c_tree.specs.declared.statement.CCase.{CCase}
use Rattle.c_tree.specs.declared.statement.CNext.{CNext}
use Rattle.c_tree.specs.declared.statement.CStmt.{CStmt}
use Rattle.c_tree.specs.declared.statement.CStmt.TheVariants as form
use Rattle.c_tree.specs.CLabels.{no_label, both, labels_of, labels_of_all}
use Rattle.named_items.specs.c_structure.Statements.{with_label}
use Rattle.c_loops.specs.Loops.{no_loops, both_loops, within_for, within_do, loops_of, loops_in, loops_of_other, loops_of_all}

-- ## Loops

loops_block : (ss : List CStmt) → loops_of (form.Block ss) ≡ loops_of_all ss
unfolding loops_of loops_in loops_of_other loops_of_all trees_opened
loops_block [] = refl
loops_block (first ∷ later) = ap (both_loops (loops_of first)) (loops_block later)

pub loops_if : (test : CExpr) (first : List CStmt) → loops_of (form.If test first None) ≡ both_loops (loops_of_all first) no_loops
unfolding loops_of loops_in loops_of_other loops_of_all trees_opened
loops_if test first = ap (λ l. both_loops l no_loops) (loops_block first)

pub loops_if_else : (test : CExpr) (first second : List CStmt) → loops_of (form.If test first (Some second)) ≡ both_loops (loops_of_all first) (loops_of_all second)
unfolding loops_of loops_in loops_of_other loops_of_all trees_opened
loops_if_else test first second = λ i. both_loops (loops_block first i) (loops_block second i)

pub loops_for : (variable first test : CExpr) (next : CNext) (turn : List CStmt) → loops_of (form.For variable first test next turn) ≡ within_for (loops_of_all turn)
unfolding loops_of loops_in loops_of_other loops_of_all trees_opened
loops_for variable first test next turn = ap within_for (loops_block turn)

-- an assignment, and a `do` behind it
pub loops_do : (a b : CExpr) (turn : List CStmt) (test : CExpr) → loops_of (form.Block (form.Set a b ∷ form.DoWhile turn test ∷ [])) ≡ both_loops no_loops (both_loops (within_do (loops_of_all turn)) no_loops)
unfolding loops_of loops_in loops_of_other loops_of_all trees_opened
loops_do a b turn test = ap (λ l. both_loops no_loops (both_loops (within_do l) no_loops)) (loops_block turn)

pub loops_labelled : (label : Option (List ℕ)) (s : CStmt) → loops_of (with_label label s) ≡ loops_of s
unfolding with_label loops_of loops_in loops_of_other trees_opened
loops_labelled None s = refl
loops_labelled (Some name) s = refl

pub loops_switch : (value : CExpr) (cases : List CCase) → loops_of (form.Switch value cases) ≡ no_loops
unfolding loops_of loops_in loops_of_other trees_opened
loops_switch value cases = refl

-- ## Labels that are named

named_block : (ss : List CStmt) → labels_of (form.Block ss) ≡ labels_of_all ss
unfolding trees_opened
named_block [] = refl
named_block (first ∷ later) = ap (both (labels_of first)) (named_block later)

pub named_if : (test : CExpr) (first : List CStmt) → labels_of (form.If test first None) ≡ both (labels_of_all first) no_label
unfolding trees_opened
named_if test first = ap (λ l. both l no_label) (named_block first)

pub named_if_else : (test : CExpr) (first second : List CStmt) → labels_of (form.If test first (Some second)) ≡ both (labels_of_all first) (labels_of_all second)
unfolding trees_opened
named_if_else test first second = λ i. both (named_block first i) (named_block second i)

pub named_for : (variable first test : CExpr) (next : CNext) (turn : List CStmt) → labels_of (form.For variable first test next turn) ≡ labels_of_all turn
unfolding trees_opened
named_for variable first test next turn = named_block turn

pub named_do : (a b : CExpr) (turn : List CStmt) (test : CExpr) → labels_of (form.Block (form.Set a b ∷ form.DoWhile turn test ∷ [])) ≡ both no_label (both (labels_of_all turn) no_label)
unfolding trees_opened
named_do a b turn test = ap (λ l. both no_label (both l no_label)) (named_block turn)

pub named_labelled : (label : Option (List ℕ)) (s : CStmt) → (labels_of (with_label label s)).named ≡ (labels_of s).named
unfolding with_label trees_opened
named_labelled None s = refl
named_labelled (Some name) s = refl

pub named_switch : (value : CExpr) (cases : List CCase) → (labels_of (form.Switch value cases)).named ≡ map (λ (case : CCase). case.label) cases
unfolding trees_opened
named_switch value cases = refl
