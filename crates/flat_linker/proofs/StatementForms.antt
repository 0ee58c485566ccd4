-- The flat form of each form of statement, its size and its labels.
use Rattle.std.proofs.Common.{◌≡◌, refl, ap, sym, ◌∙◌, ℕ, List, [], ◌∷◌, Option, Some, None}
use Rattle.c_tree.specs.declared.expression.CExpr.{CExpr}
use Rattle.c_tree.specs.declared.expression.CCall.{CCall}
use Rattle.c_tree.specs.declared.statement.CStmt.{CStmt}
use Rattle.c_tree.specs.declared.statement.CStmt.TheVariants as stmt
use Rattle.c_tree.specs.declared.statement.CCase.{CCase}
use Rattle.c_tree.specs.declared.statement.CNext.{CNext}
use Rattle.c_tree.specs.Flat.{Assign, Nothing, Ignored}
use Rattle.c_tree.specs.Drafts.{bare, drafted, joined}
use Rattle.c_tree.specs.LinkedExpressions.{linked, linked_call}
use Rattle.c_tree.specs.FlatForm.{body, body_of_all, sequence, one, marked, jump, set_call, invoked, return_call, returned, if_only, if_else, switch, for_loop, do_while}
use Rattle.c_tree.specs.Opened.{trees_opened}
use Rattle.flat_linker.specs.Parts.{arms}

pub body-Set : (target value : CExpr) → body (stmt.Set target value) ≡ one (joined Assign (linked target) (linked value))
body-Set target value = refl

pub body-SetCall : (target : CExpr) (call : CCall) → body (stmt.SetCall target call) ≡ one (set_call target call)
body-SetCall target call = refl

pub body-Call : (call : CCall) → body (stmt.Call call) ≡ one (drafted (invoked Ignored) (linked_call call))
body-Call call = refl

pub body-Empty : body stmt.Empty ≡ one (bare Nothing)
body-Empty = refl

pub body-Block : (statements : List CStmt) → body (stmt.Block statements) ≡ body_of_all statements
unfolding trees_opened
body-Block [] = refl
body-Block (first ∷ later) = ap (sequence (body first)) (body-Block later)

pub body-Label : (name : List ℕ) (statement : CStmt) → body (stmt.Label name statement) ≡ marked name (body statement)
unfolding trees_opened
body-Label name statement = refl

pub body-Goto : (label : List ℕ) → body (stmt.Goto label) ≡ jump label
body-Goto label = refl

pub body-Return : (value : Option CExpr) → body (stmt.Return value) ≡ one (returned value)
body-Return value = refl

pub body-ReturnCall : (call : CCall) → body (stmt.ReturnCall call) ≡ return_call call
body-ReturnCall call = refl

body-IfOnly : (test : CExpr) (first : List CStmt) → body (stmt.If test first None) ≡ if_only test (body_of_all first)
unfolding trees_opened
body-IfOnly test first = ap (if_only test) (body-Block first)

body-IfElse : (test : CExpr) (first second : List CStmt) → body (stmt.If test first (Some second)) ≡ if_else test (body_of_all first) (body_of_all second)
unfolding trees_opened
body-IfElse test first second =
    ap (λ arm. if_else test arm (body (stmt.Block second))) (body-Block first)
    ∙ ap (if_else test (body_of_all first)) (body-Block second)

pub body-Switch : (value : CExpr) (cases : List CCase) → body (stmt.Switch value cases) ≡ switch value cases
body-Switch value cases = refl

pub body-For : (variable first test : CExpr) (next : CNext) (turn : List CStmt) → body (stmt.For variable first test next turn) ≡ for_loop variable first test next (body_of_all turn)
unfolding trees_opened
body-For variable first test next turn = ap (for_loop variable first test next) (body-Block turn)

pub body-DoWhile : (turn : List CStmt) (test : CExpr) → body (stmt.DoWhile turn test) ≡ do_while (body_of_all turn) test
unfolding trees_opened
body-DoWhile turn test = ap (λ turns. do_while turns test) (body-Block turn)

-- an `if` by its arms
pub body-If : (test : CExpr) (first : List CStmt) (other : Option (List CStmt)) → body (stmt.If test first other) ≡ arms test first other
body-If test first None = body-IfOnly test first
body-If test first (Some second) = body-IfElse test first second

-- ## A statement of a form, whose parts are these

pub at-Set : (to e : CExpr) (s : CStmt) → s ≡ stmt.Set to e → body s ≡ one (joined Assign (linked to) (linked e))
at-Set to e s is = ap body is ∙ body-Set to e

pub at-SetCall : (to : CExpr) (call : CCall) (s : CStmt) → s ≡ stmt.SetCall to call → body s ≡ one (set_call to call)
at-SetCall to call s is = ap body is ∙ body-SetCall to call

pub at-Call : (call : CCall) (s : CStmt) → s ≡ stmt.Call call → body s ≡ one (drafted (invoked Ignored) (linked_call call))
at-Call call s is = ap body is ∙ body-Call call

pub at-Empty : (s : CStmt) → s ≡ stmt.Empty → body s ≡ one (bare Nothing)
at-Empty s is = ap body is ∙ body-Empty

pub at-Block : (inner held : List CStmt) (s : CStmt) → s ≡ stmt.Block inner → held ≡ inner → body s ≡ body_of_all held
at-Block inner held s is same = ap body is ∙ body-Block inner ∙ sym (ap body_of_all same)

pub at-Label : (name : List ℕ) (inner held : CStmt) (s : CStmt) → s ≡ stmt.Label name inner → held ≡ inner → body s ≡ marked name (body held)
at-Label name inner held s is same = ap body is ∙ body-Label name inner ∙ sym (ap (λ z. marked name (body z)) same)

pub at-Goto : (label held : List ℕ) (s : CStmt) → s ≡ stmt.Goto label → held ≡ label → body s ≡ jump held
at-Goto label held s is same = ap body is ∙ body-Goto label ∙ sym (ap jump same)

pub at-Return : (value : Option CExpr) (s : CStmt) → s ≡ stmt.Return value → body s ≡ one (returned value)
at-Return value s is = ap body is ∙ body-Return value

pub at-ReturnCall : (call : CCall) (s : CStmt) → s ≡ stmt.ReturnCall call → body s ≡ return_call call
at-ReturnCall call s is = ap body is ∙ body-ReturnCall call

pub at-If : (test : CExpr) (first : List CStmt) (other : Option (List CStmt)) (s : CStmt) → s ≡ stmt.If test first other → body s ≡ arms test first other
at-If test first other s is = ap body is ∙ body-If test first other

pub at-Switch : (value : CExpr) (cases held : List CCase) (s : CStmt) → s ≡ stmt.Switch value cases → held ≡ cases → body s ≡ switch value held
at-Switch value cases held s is same = ap body is ∙ body-Switch value cases ∙ sym (ap (switch value) same)

pub at-For : (variable first test : CExpr) (next : CNext) (turn held : List CStmt) (s : CStmt) → s ≡ stmt.For variable first test next turn → held ≡ turn →
    body s ≡ for_loop variable first test next (body_of_all held)
at-For variable first test next turn held s is same =
    ap body is ∙ body-For variable first test next turn ∙ sym (ap (λ z. for_loop variable first test next (body_of_all z)) same)

pub at-DoWhile : (turn held : List CStmt) (test : CExpr) (s : CStmt) → s ≡ stmt.DoWhile turn test → held ≡ turn → body s ≡ do_while (body_of_all held) test
at-DoWhile turn held test s is same = ap body is ∙ body-DoWhile turn test ∙ sym (ap (λ z. do_while (body_of_all z) test) same)

-- an `if` with one arm, and one with two
pub at-only : (test : CExpr) (first f : List CStmt) (other : Option (List CStmt)) (s : CStmt) → s ≡ stmt.If test first other → other ≡ None → f ≡ first → body s ≡ if_only test (body_of_all f)
at-only test first f other s is none same = at-If test first other s is ∙ ap (arms test first) none ∙ sym (ap (λ z. if_only test (body_of_all z)) same)

pub at-both : (test : CExpr) (first second f g : List CStmt) (other : Option (List CStmt)) (s : CStmt) → s ≡ stmt.If test first other → other ≡ Some second → f ≡ first → g ≡ second →
    body s ≡ if_else test (body_of_all f) (body_of_all g)
at-both test first second f g other s is some same same' =
    at-If test first other s is ∙ ap (arms test first) some ∙ (λ i. if_else test (body_of_all (sym same i)) (body_of_all (sym same' i)))
