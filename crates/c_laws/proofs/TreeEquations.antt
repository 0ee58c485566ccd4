-- Linking and the flat form at each form of expression and statement: a proof rewrites a tree that is made by the
-- forms' names to what it is linked to.
use Rattle.std.specs.Prelude.{◌≡◌, refl, ℕ, ℤ, List, [], ◌∷◌, Option, Some, None}
use Rattle.std.proofs.Common.{ap, ◌∙◌}
use Rattle.c_tree.specs.declared.types.CastType.{CastType}
use Rattle.c_tree.specs.declared.expression.UnaryOp.{UnaryOp}
use Rattle.c_tree.specs.declared.expression.BinaryOp.{BinaryOp}
use Rattle.c_tree.specs.declared.expression.Extreme.{Extreme}
use Rattle.c_tree.specs.declared.expression.CExpr.{CExpr}
use Rattle.c_tree.specs.declared.expression.CExpr.TheVariants as expr
use Rattle.c_tree.specs.declared.expression.CCall.{CCall}
use Rattle.c_tree.specs.declared.statement.CStmt.{CStmt}
use Rattle.c_tree.specs.declared.statement.CStmt.TheVariants as stmt
use Rattle.c_tree.specs.declared.statement.CCase.{CCase}
use Rattle.c_tree.specs.declared.statement.CNext.{CNext}
use Rattle.c_tree.specs.Terms.{Constant, Prefixed, Cast, Between, Choice, Element, Field, Size, Most, Magnitude}
use Rattle.c_tree.specs.Flat.{Assign, Nothing, Ignored}
use Rattle.c_tree.specs.Drafts.{bare, drafted, joined, joined_three}
use Rattle.c_tree.specs.LinkedExpressions.{linked, string, name_of, linked_call}
use Rattle.c_tree.specs.FlatForm.{body, body_of_all, sequence, one, marked, jump, set_call, invoked, return_call, returned, if_only, if_else, switch, for_loop, do_while}
use Rattle.c_tree.specs.Opened.{trees_opened}

pub linked-Number : (number : ℤ) → linked (expr.Number number) ≡ bare (Constant number)
linked-Number number = refl

pub linked-Str : (bytes : List ℕ) → linked (expr.Str bytes) ≡ string bytes
linked-Str bytes = refl

pub linked-Name : (name : List ℕ) → linked (expr.Name name) ≡ name_of name
linked-Name name = refl

pub linked-Unary : (operator : UnaryOp) (operand : CExpr) → linked (expr.Unary operator operand) ≡ drafted (λ term. Prefixed operator term) (linked operand)
unfolding trees_opened
linked-Unary operator operand = refl

pub linked-Cast : (type : CastType) (operand : CExpr) → linked (expr.Cast type operand) ≡ drafted (λ term. Cast type term) (linked operand)
unfolding trees_opened
linked-Cast type operand = refl

pub linked-Binary : (operator : BinaryOp) (left right : CExpr) → linked (expr.Binary operator left right) ≡ joined (λ a b. Between operator a b) (linked left) (linked right)
unfolding trees_opened
linked-Binary operator left right = refl

pub linked-Choose : (test first second : CExpr) → linked (expr.Choose test first second) ≡ joined_three (λ a b c. Choice a b c) (linked test) (linked first) (linked second)
unfolding trees_opened
linked-Choose test first second = refl

pub linked-Index : (array index : CExpr) → linked (expr.Index array index) ≡ joined (λ a b. Element a b) (linked array) (linked index)
unfolding trees_opened
linked-Index array index = refl

pub linked-Field : (operand : CExpr) (name : List ℕ) → linked (expr.Field operand name) ≡ drafted (λ list. Field list name) (linked operand)
unfolding trees_opened
linked-Field operand name = refl

pub linked-SizeInt : linked expr.SizeInt ≡ bare Size
linked-SizeInt = refl

pub linked-MaxMin : (which : Extreme) (left right : CExpr) → linked (expr.MaxMin which left right) ≡ joined (λ a b. Most which a b) (linked left) (linked right)
unfolding trees_opened
linked-MaxMin which left right = refl

pub linked-Abs : (operand : CExpr) → linked (expr.Abs operand) ≡ drafted (λ term. Magnitude term) (linked operand)
unfolding trees_opened
linked-Abs operand = refl

pub body-Set : (target value : CExpr) → body (stmt.Set target value) ≡ one (joined (λ a b. Assign a b) (linked target) (linked value))
body-Set target value = refl

pub body-SetCall : (target : CExpr) (call : CCall) → body (stmt.SetCall target call) ≡ one (set_call target call)
body-SetCall target call = refl

pub body-Call : (call : CCall) → body (stmt.Call call) ≡ one (drafted (invoked Ignored) (linked_call call))
body-Call call = refl

pub body-Empty : body stmt.Empty ≡ one (bare Nothing)
body-Empty = refl

pub body-Block : (statements : List CStmt) → body (stmt.Block statements) ≡ body_of_all statements
unfolding trees_opened
body-Block [] = refl
body-Block (first ∷ later) = ap (sequence (body first)) (body-Block later)

pub body-Label : (name : List ℕ) (statement : CStmt) → body (stmt.Label name statement) ≡ marked name (body statement)
unfolding trees_opened
body-Label name statement = refl

pub body-Goto : (label : List ℕ) → body (stmt.Goto label) ≡ jump label
body-Goto label = refl

pub body-Return : (value : Option CExpr) → body (stmt.Return value) ≡ one (returned value)
body-Return value = refl

pub body-ReturnCall : (call : CCall) → body (stmt.ReturnCall call) ≡ return_call call
body-ReturnCall call = refl

pub body-If : (test : CExpr) (first : List CStmt) → body (stmt.If test first None) ≡ if_only test (body_of_all first)
unfolding trees_opened
body-If test first = ap (if_only test) (body-Block first)

pub body-IfElse : (test : CExpr) (first second : List CStmt) → body (stmt.If test first (Some second)) ≡ if_else test (body_of_all first) (body_of_all second)
unfolding trees_opened
body-IfElse test first second =
    ap (λ arm. if_else test arm (body (stmt.Block second))) (body-Block first)
    ∙ ap (if_else test (body_of_all first)) (body-Block second)

pub body-Switch : (value : CExpr) (cases : List CCase) → body (stmt.Switch value cases) ≡ switch value cases
body-Switch value cases = refl

pub body-For : (variable first test : CExpr) (next : CNext) (turn : List CStmt) → body (stmt.For variable first test next turn) ≡ for_loop variable first test next (body_of_all turn)
unfolding trees_opened
body-For variable first test next turn = ap (for_loop variable first test next) (body-Block turn)

pub body-DoWhile : (turn : List CStmt) (test : CExpr) → body (stmt.DoWhile turn test) ≡ do_while (body_of_all turn) test
unfolding trees_opened
body-DoWhile turn test = ap (λ turns. do_while turns test) (body-Block turn)

-- all of them
pub ruleset tree_equations = (linked-Number, linked-Str, linked-Name, linked-Unary, linked-Cast, linked-Binary, linked-Choose, linked-Index, linked-Field, linked-SizeInt, linked-MaxMin, linked-Abs, body-Set, body-SetCall, body-Call, body-Empty, body-Block, body-Label, body-Goto, body-Return, body-ReturnCall, body-If, body-IfElse, body-Switch, body-For, body-DoWhile)
