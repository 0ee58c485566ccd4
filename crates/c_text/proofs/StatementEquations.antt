-- What each constructor of a C statement prints, as equations that the printer's proofs rewrite by.
use Rattle.std.proofs.Common.{◌≡◌, ℕ, ◌+◌, List, [], ◌∷◌, ◌++◌, codes, Option, Some, None, refl, ap, ◌∙◌}
use Rattle.c_tree.specs.declared.expression.CExpr.{CExpr}
use Rattle.c_tree.specs.declared.expression.CCall.{CCall}
use Rattle.c_tree.specs.declared.statement.CCase.{CCase}
use Rattle.c_tree.specs.declared.statement.CNext.{CNext}
use Rattle.c_tree.specs.declared.statement.CStmt.{CStmt}
use Rattle.c_tree.specs.declared.statement.CStmt as tree
use Rattle.c_tree.specs.declared.statement.CStmt.TheVariants as stmt
use Rattle.c_tree.specs.Opened.{trees_opened}
use Rattle.c_tree.specs.declared.statement.CStmt.TheBlock as block
use Rattle.c_text.specs.declared.phrase.Phrase.TheVariants as is
use Rattle.c_text.specs.Phrases.{letters}
use Rattle.c_text.specs.Expressions.{bare, printed_call}
use Rattle.c_text.specs.Printed.{line, assignment, printed_return, returned_call, printed_switch, if_head, for_head, while_end, printed_stmt, printed_row, printed_other, printed_stmts, printed_second}

pub row-printed : (list : List CStmt) (depth : ℕ) → printed_row (block.hidden-the_row-CStmt-0 list) depth ≡ printed_stmts list depth
unfolding printed_stmt printed_row Rattle.c_tree.specs.declared.statement.CStmt.TheBlock.hidden-the_row-CStmt-0 denote.Hole.Carrier.hidden
row-printed [] depth = refl
row-printed (one ∷ later) depth = ap (λ text. printed_stmt one depth ++ text) (row-printed later depth)

pub printed-Set : (to e : CExpr) (depth : ℕ) → printed_stmt (stmt.Set to e) depth ≡ line depth (assignment to (bare e))
unfolding printed_stmt
printed-Set to e depth = refl

pub printed-SetCall : (to : CExpr) (call : CCall) (depth : ℕ) → printed_stmt (stmt.SetCall to call) depth ≡ line depth (assignment to (printed_call call))
unfolding printed_stmt
printed-SetCall to call depth = refl

pub printed-Call : (call : CCall) (depth : ℕ) → printed_stmt (stmt.Call call) depth ≡ line depth (printed_call call ++ codes ";")
unfolding printed_stmt
printed-Call call depth = refl

pub printed-Empty : (depth : ℕ) → printed_stmt stmt.Empty depth ≡ line depth (codes ";")
unfolding printed_stmt
printed-Empty depth = refl

pub printed-Goto : (label : List ℕ) (depth : ℕ) → printed_stmt (stmt.Goto label) depth ≡ line depth (codes "goto " ++ (label ++ codes ";"))
unfolding printed_stmt
printed-Goto label depth = refl

pub printed-Return : (value : Option CExpr) (depth : ℕ) → printed_stmt (stmt.Return value) depth ≡ line depth (printed_return value)
unfolding printed_stmt
printed-Return value depth = refl

pub printed-ReturnCall : (call : CCall) (depth : ℕ) → printed_stmt (stmt.ReturnCall call) depth ≡ line depth (returned_call call)
unfolding printed_stmt
printed-ReturnCall call depth = refl

pub printed-Switch : (value : CExpr) (cases : List CCase) (depth : ℕ) → printed_stmt (stmt.Switch value cases) depth ≡ printed_switch value cases depth
unfolding printed_stmt
printed-Switch value cases depth = refl

pub printed-Label : (name : List ℕ) (inner : CStmt) (depth : ℕ) → printed_stmt (stmt.Label name inner) depth ≡ name ++ (codes ":\n" ++ printed_stmt inner depth)
unfolding printed_stmt printed_row Rattle.c_tree.specs.declared.statement.CStmt.TheBlock.hidden-the_row-CStmt-0 Rattle.c_tree.specs.declared.statement.CStmt.TheBlock.hidden-the_row-CStmt-1 denote.Hole.Carrier.hidden
printed-Label name inner depth = refl

pub printed-Block : (inner : List CStmt) (depth : ℕ)
    → printed_stmt (stmt.Block inner) depth ≡ line depth (codes "{") ++ (printed_stmts inner (depth + 1) ++ line depth (codes "}"))
unfolding printed_stmt
printed-Block inner depth = ap (λ text. line depth (codes "{") ++ (text ++ line depth (codes "}"))) (row-printed inner (depth + 1))

pub printed-For : (to first test : CExpr) (turn : CNext) (inner : List CStmt) (depth : ℕ)
    → printed_stmt (stmt.For to first test turn inner) depth ≡ line depth (for_head to first test turn) ++ (printed_stmts inner (depth + 1) ++ line depth (codes "}"))
unfolding printed_stmt
printed-For to first test turn inner depth =
    ap (λ text. line depth (for_head to first test turn) ++ (text ++ line depth (codes "}"))) (row-printed inner (depth + 1))

pub printed-DoWhile : (inner : List CStmt) (test : CExpr) (depth : ℕ)
    → printed_stmt (stmt.DoWhile inner test) depth ≡ line depth (codes "do {") ++ (printed_stmts inner (depth + 1) ++ line depth (while_end test))
unfolding printed_stmt
printed-DoWhile inner test depth = ap (λ text. line depth (codes "do {") ++ (text ++ line depth (while_end test))) (row-printed inner (depth + 1))

-- the statements of a block
inner_row : CStmt → ℕ → List ℕ
unfolding printed_row
inner_row (tree.Block' shape inner) depth = printed_row inner depth
inner_row other depth = []

row-of-block : (inner : List CStmt) (depth : ℕ) → inner_row (stmt.Block inner) depth ≡ printed_stmts inner depth
unfolding inner_row printed_stmt printed_row trees_opened
row-of-block [] depth = refl
row-of-block (one ∷ later) depth = ap (λ text. printed_stmt one depth ++ text) (row-of-block later depth)

pub printed-If : (test : CExpr) (first : List CStmt) (other : Option (List CStmt)) (depth : ℕ)
    → printed_stmt (stmt.If test first other) depth ≡ line depth (if_head test) ++ (printed_stmts first (depth + 1) ++ printed_second other depth)
unfolding inner_row printed_stmt printed_row printed_other printed_second trees_opened
printed-If test first None depth =
    ap (λ arm. line depth (if_head test) ++ (arm ++ line depth (codes "}"))) (row-of-block first (depth + 1))
printed-If test first (Some second) depth =
    ap (λ arm. line depth (if_head test) ++ (arm ++ (line depth (letters is.Else) ++ (inner_row (stmt.Block second) (depth + 1) ++ line depth (codes "}")))))
    (row-of-block first (depth + 1))
    ∙ ap (λ arm. line depth (if_head test) ++ (printed_stmts first (depth + 1) ++ (line depth (letters is.Else) ++ (arm ++ line depth (codes "}")))))
    (row-of-block second (depth + 1))

pub second-None : (depth : ℕ) → printed_second None depth ≡ line depth (codes "}")
unfolding printed_second
second-None depth = refl

pub second-Some : (second : List CStmt) (depth : ℕ)
    → printed_second (Some second) depth ≡ line depth (letters is.Else) ++ (printed_stmts second (depth + 1) ++ line depth (codes "}"))
unfolding printed_second
second-Some second depth = refl

pub ruleset statements = (printed-Set, printed-SetCall, printed-Call, printed-Empty, printed-Goto, printed-Return, printed-ReturnCall, printed-Switch, printed-Label, printed-Block, printed-For, printed-DoWhile, printed-If, second-None, second-Some)
