-- The strings of each form of a statement.
use Rattle.std.proofs.Common.{◌≡◌, refl, sym, ap, ◌∙◌, ℕ, Bool, true, false, List, [], ◌∷◌, ◌++◌, append_assoc, Option, Some, None}
use Rattle.c_tree.specs.declared.expression.CExpr.{CExpr}
use Rattle.c_tree.specs.declared.expression.CCall.{CCall}
use Rattle.c_tree.specs.declared.statement.CCase.{CCase}
use Rattle.c_tree.specs.declared.statement.CNext.{CNext}
use Rattle.c_tree.specs.declared.statement.CNext.TheVariants as next
use Rattle.c_tree.specs.declared.statement.CStmt.{CStmt}
use Rattle.c_tree.specs.declared.statement.CStmt.TheVariants as stmt
use Rattle.c_tree.specs.LinkedExpressions.{linked, linked_call}
use Rattle.c_tree.specs.FlatForm.{Body, body_of_all, next_item, whole_body, with_return, ends}
use Rattle.c_laws.proofs.TreeEquations.{body-Set, body-SetCall, body-Call, body-Empty, body-Block, body-Label, body-Goto, body-Return, body-ReturnCall, body-If, body-IfElse, body-Switch, body-For, body-DoWhile}
use Rattle.body_strings.specs.Strings.{of_expression, of_call, of_next, of_returned, of_statement, of_statements, of_other}

abbrev strings_in : Body → List (List ℕ)
strings_in made = made.items.strings

nothing_behind : (xs : List (List ℕ)) → xs ++ [] ≡ xs
nothing_behind [] = refl
nothing_behind (x ∷ xs) = ap (λ zs. x ∷ zs) (nothing_behind xs)

pub of-Up : (variable : CExpr) → of_next (next.Up variable) ≡ of_expression variable
unfolding of_next of_expression
of-Up variable = refl

pub of-Down : (variable : CExpr) → of_next (next.Down variable) ≡ of_expression variable
unfolding of_next of_expression
of-Down variable = refl

pub of-Add : (variable amount : CExpr) → of_next (next.Add variable amount) ≡ of_expression variable ++ of_expression amount
unfolding of_next of_expression
of-Add variable amount = refl

pub of-None : of_returned None ≡ []
unfolding of_returned
of-None = refl

pub of-Some : (e : CExpr) → of_returned (Some e) ≡ of_expression e
unfolding of_returned of_expression
of-Some e = refl

pub ruleset next_equations = (of-Up, of-Down, of-Add, of-None, of-Some)

pub of-Set : (target value : CExpr) → of_statement (stmt.Set target value) ≡ of_expression target ++ of_expression value
unfolding of_statement of_expression
of-Set target value = ap strings_in (body-Set target value)

pub of-SetCall : (target : CExpr) (call : CCall) → of_statement (stmt.SetCall target call) ≡ of_expression target ++ of_call call
unfolding of_statement of_expression of_call
of-SetCall target call = ap strings_in (body-SetCall target call)

pub of-Call : (call : CCall) → of_statement (stmt.Call call) ≡ of_call call
unfolding of_statement of_call
of-Call call = ap strings_in (body-Call call)

pub of-Empty : of_statement stmt.Empty ≡ []
unfolding of_statement
of-Empty = ap strings_in body-Empty

pub of-Block : (inner : List CStmt) → of_statement (stmt.Block inner) ≡ of_statements inner
unfolding of_statement of_statements
of-Block inner = ap strings_in (body-Block inner)

pub of-Label : (name : List ℕ) (inner : CStmt) → of_statement (stmt.Label name inner) ≡ of_statement inner
unfolding of_statement
of-Label name inner = ap strings_in (body-Label name inner)

pub of-Goto : (label : List ℕ) → of_statement (stmt.Goto label) ≡ []
unfolding of_statement
of-Goto label = ap strings_in (body-Goto label)

pub of-Return : (value : Option CExpr) → of_statement (stmt.Return value) ≡ of_returned value
unfolding of_statement of_returned
of-Return value = ap strings_in (body-Return value)

pub of-ReturnCall : (call : CCall) → of_statement (stmt.ReturnCall call) ≡ of_call call
unfolding of_statement of_call
of-ReturnCall call = ap strings_in (body-ReturnCall call) ∙ nothing_behind (linked_call call).strings

pub other-None : of_other None ≡ []
unfolding of_other
other-None = refl

pub other-Some : (second : List CStmt) → of_other (Some second) ≡ of_statements second
unfolding of_other
other-Some second = refl

pub of-If : (test : CExpr) (first : List CStmt) (other : Option (List CStmt)) → of_statement (stmt.If test first other) ≡ of_expression test ++ (of_statements first ++ of_other other)
unfolding of_statement of_statements of_expression of_other
of-If test first None =
    ap strings_in (body-If test first) ∙ ap (λ zs. (linked test).strings ++ zs) (sym (nothing_behind (body_of_all first).items.strings))
of-If test first (Some second) =
    ap strings_in (body-IfElse test first second) ∙ append_assoc (linked test).strings (body_of_all first).items.strings (body_of_all second).items.strings

pub of-Switch : (value : CExpr) (cases : List CCase) → of_statement (stmt.Switch value cases) ≡ of_expression value
unfolding of_statement of_expression
of-Switch value cases = ap strings_in (body-Switch value cases)

pub of-For : (variable first test : CExpr) (next : CNext) (turn : List CStmt) →
    of_statement (stmt.For variable first test next turn) ≡ (of_expression variable ++ (of_expression first ++ of_expression test)) ++ (of_statements turn ++ of_next next)
unfolding of_statement of_statements of_expression of_next
of-For variable first test next turn =
    ap strings_in (body-For variable first test next turn)
    ∙ ap (λ zs. ((linked variable).strings ++ (linked first).strings) ++ zs) (append_assoc (linked test).strings (body_of_all turn).items.strings (next_item next).strings)
    ∙ sym (append_assoc ((linked variable).strings ++ (linked first).strings) (linked test).strings ((body_of_all turn).items.strings ++ (next_item next).strings))
    ∙ ap (λ zs. zs ++ ((body_of_all turn).items.strings ++ (next_item next).strings)) (append_assoc (linked variable).strings (linked first).strings (linked test).strings)

pub of-DoWhile : (turn : List CStmt) (test : CExpr) → of_statement (stmt.DoWhile turn test) ≡ of_statements turn ++ of_expression test
unfolding of_statement of_statements of_expression
of-DoWhile turn test = ap strings_in (body-DoWhile turn test)

pub ruleset statement_equations = (of-Set, of-SetCall, of-Call, of-Empty, of-Block, of-Label, of-Goto, of-Return, of-ReturnCall, of-If, other-None, other-Some, of-Switch, of-For, of-DoWhile)

pub of-none : of_statements [] ≡ []
unfolding of_statements
of-none = refl

pub of-more : (one : CStmt) (later : List CStmt) → of_statements (one ∷ later) ≡ of_statement one ++ of_statements later
unfolding of_statements of_statement
of-more one later = refl

pub ruleset list_equations = (of-none, of-more)

with_end : (ended : Bool) (statements : Body) → (with_return ended statements).items.strings ≡ statements.items.strings
with_end true statements = refl
with_end false statements = nothing_behind statements.items.strings

pub of-body : (statements : List CStmt) → of_statements statements ≡ (whole_body statements).items.strings
unfolding of_statements
of-body statements = sym (with_end (ends statements) (body_of_all statements))

pub ruleset body_equations = (of-body)
