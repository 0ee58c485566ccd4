-- Which names each form of a statement mentions.
use Rattle.std.proofs.Common.{◌≡◌, refl, sym, ap, ◌∙◌, ℕ, Bool, true, false, ◌||◌, List, [], ◌∷◌, ◌++◌, Option, Some, None}
use Rattle.c_tree.specs.declared.expression.CExpr.{CExpr}
use Rattle.c_tree.specs.declared.expression.CCall.{CCall}
use Rattle.c_tree.specs.declared.statement.CCase.{CCase}
use Rattle.c_tree.specs.declared.statement.CNext.{CNext}
use Rattle.c_tree.specs.declared.statement.CNext.TheVariants as next
use Rattle.c_tree.specs.declared.statement.CStmt.{CStmt}
use Rattle.c_tree.specs.declared.statement.CStmt.TheVariants as stmt
use Rattle.c_tree.specs.LinkedExpressions.{linked, linked_call}
use Rattle.c_tree.specs.FlatForm.{Body, body, body_of_all, next_item, whole_body, with_return, ends}
use Rattle.c_tree.specs.Linking.{any_of}
use Rattle.c_laws.proofs.TreeEquations.{body-Set, body-SetCall, body-Call, body-Empty, body-Block, body-Label, body-Goto, body-Return, body-ReturnCall, body-If, body-IfElse, body-Switch, body-For, body-DoWhile}
use Rattle.first_names.specs.declared.FirstNames.{FirstNames}
use Rattle.expression_linker.specs.Mentions.{has}
use Rattle.body_mentions.specs.Mentioned.{in_expression, in_call, in_next, in_returned, in_statement, in_statements, in_other}

or_along : (a b c : Bool) → (a || (b || c)) ≡ ((a || b) || c)
or_along true b c = refl
or_along false b c = refl

-- one of two lists
both : (test : List ℕ → Bool) (xs ys : List (List ℕ)) → any_of test (xs ++ ys) ≡ (any_of test xs || any_of test ys)
both test [] ys = refl
both test (x ∷ xs) ys = ap (λ b. test x || b) (both test xs ys) ∙ or_along (test x) (any_of test xs) (any_of test ys)

alone : (test : List ℕ → Bool) (xs : List (List ℕ)) → any_of test (xs ++ []) ≡ any_of test xs
alone test [] = refl
alone test (x ∷ xs) = ap (λ b. test x || b) (alone test xs)

abbrev some_in : (List ℕ → Bool) → Body → Bool
some_in test made = any_of test made.items.names

pub in-Up : (names : FirstNames (Unit {0})) (variable : CExpr) → in_next names (next.Up variable) ≡ in_expression names variable
unfolding in_next in_expression
in-Up names variable = refl

pub in-Down : (names : FirstNames (Unit {0})) (variable : CExpr) → in_next names (next.Down variable) ≡ in_expression names variable
unfolding in_next in_expression
in-Down names variable = refl

pub in-Add : (names : FirstNames (Unit {0})) (variable amount : CExpr) → in_next names (next.Add variable amount) ≡ (in_expression names variable || in_expression names amount)
unfolding in_next in_expression
in-Add names variable amount = both (has names) (linked variable).names (linked amount).names

pub in-None : (names : FirstNames (Unit {0})) → in_returned names None ≡ false
unfolding in_returned
in-None names = refl

pub in-Some : (names : FirstNames (Unit {0})) (e : CExpr) → in_returned names (Some e) ≡ in_expression names e
unfolding in_returned in_expression
in-Some names e = refl

pub ruleset next_equations = (in-Up, in-Down, in-Add, in-None, in-Some)

pub in-Set : (names : FirstNames (Unit {0})) (target value : CExpr) → in_statement names (stmt.Set target value) ≡ (in_expression names target || in_expression names value)
unfolding in_statement in_expression
in-Set names target value = ap (some_in (has names)) (body-Set target value) ∙ both (has names) (linked target).names (linked value).names

pub in-SetCall : (names : FirstNames (Unit {0})) (target : CExpr) (call : CCall) → in_statement names (stmt.SetCall target call) ≡ (in_expression names target || in_call names call)
unfolding in_statement in_expression in_call
in-SetCall names target call = ap (some_in (has names)) (body-SetCall target call) ∙ both (has names) (linked target).names (linked_call call).names

pub in-Call : (names : FirstNames (Unit {0})) (call : CCall) → in_statement names (stmt.Call call) ≡ in_call names call
unfolding in_statement in_call
in-Call names call = ap (some_in (has names)) (body-Call call)

pub in-Empty : (names : FirstNames (Unit {0})) → in_statement names stmt.Empty ≡ false
unfolding in_statement
in-Empty names = ap (some_in (has names)) body-Empty

pub in-Block : (names : FirstNames (Unit {0})) (inner : List CStmt) → in_statement names (stmt.Block inner) ≡ in_statements names inner
unfolding in_statement in_statements
in-Block names inner = ap (some_in (has names)) (body-Block inner)

pub in-Label : (names : FirstNames (Unit {0})) (name : List ℕ) (inner : CStmt) → in_statement names (stmt.Label name inner) ≡ in_statement names inner
unfolding in_statement
in-Label names name inner = ap (some_in (has names)) (body-Label name inner)

pub in-Goto : (names : FirstNames (Unit {0})) (label : List ℕ) → in_statement names (stmt.Goto label) ≡ false
unfolding in_statement
in-Goto names label = ap (some_in (has names)) (body-Goto label)

pub in-Return : (names : FirstNames (Unit {0})) (value : Option CExpr) → in_statement names (stmt.Return value) ≡ in_returned names value
unfolding in_statement in_returned
in-Return names value = ap (some_in (has names)) (body-Return value)

pub in-ReturnCall : (names : FirstNames (Unit {0})) (call : CCall) → in_statement names (stmt.ReturnCall call) ≡ in_call names call
unfolding in_statement in_call
in-ReturnCall names call = ap (some_in (has names)) (body-ReturnCall call) ∙ alone (has names) (linked_call call).names

pub or_none : (a : Bool) → (a || false) ≡ a
or_none true = refl
or_none false = refl

pub other-None : (names : FirstNames (Unit {0})) → in_other names None ≡ false
unfolding in_other
other-None names = refl

pub other-Some : (names : FirstNames (Unit {0})) (second : List CStmt) → in_other names (Some second) ≡ in_statements names second
unfolding in_other
other-Some names second = refl

pub in-If : (names : FirstNames (Unit {0})) (test : CExpr) (first : List CStmt) (other : Option (List CStmt)) →
    in_statement names (stmt.If test first other) ≡ ((in_expression names test || in_statements names first) || in_other names other)
unfolding in_statement in_statements in_expression in_other
in-If names test first None =
    ap (some_in (has names)) (body-If test first) ∙ both (has names) (linked test).names (body_of_all first).items.names
    ∙ sym (or_none (any_of (has names) (linked test).names || any_of (has names) (body_of_all first).items.names))
in-If names test first (Some second) =
    ap (some_in (has names)) (body-IfElse test first second)
    ∙ both (has names) ((linked test).names ++ (body_of_all first).items.names) (body_of_all second).items.names
    ∙ ap (λ b. b || any_of (has names) (body_of_all second).items.names) (both (has names) (linked test).names (body_of_all first).items.names)

pub in-Switch : (names : FirstNames (Unit {0})) (value : CExpr) (cases : List CCase) → in_statement names (stmt.Switch value cases) ≡ in_expression names value
unfolding in_statement in_expression
in-Switch names value cases = ap (some_in (has names)) (body-Switch value cases)

four_along : (a b c d e : Bool) → ((a || b) || ((c || d) || e)) ≡ (((a || b) || c) || (d || e))
four_along true b c d e = refl
four_along false true c d e = refl
four_along false false true d e = refl
four_along false false false d e = refl

pub in-For : (names : FirstNames (Unit {0})) (variable first test : CExpr) (next : CNext) (turn : List CStmt) →
    in_statement names (stmt.For variable first test next turn) ≡ (((in_expression names variable || in_expression names first) || in_expression names test) || (in_statements names turn || in_next names next))
unfolding in_statement in_statements in_expression in_next
in-For names variable first test next turn =
    ap (some_in (has names)) (body-For variable first test next turn)
    ∙ both (has names) ((linked variable).names ++ (linked first).names) (((linked test).names ++ (body_of_all turn).items.names) ++ (next_item next).names)
    ∙ (λ i. both (has names) (linked variable).names (linked first).names i || both (has names) ((linked test).names ++ (body_of_all turn).items.names) (next_item next).names i)
    ∙ ap (λ b. (any_of (has names) (linked variable).names || any_of (has names) (linked first).names) || (b || any_of (has names) (next_item next).names)) (both (has names) (linked test).names (body_of_all turn).items.names)
    ∙ four_along (any_of (has names) (linked variable).names) (any_of (has names) (linked first).names) (any_of (has names) (linked test).names) (any_of (has names) (body_of_all turn).items.names) (any_of (has names) (next_item next).names)

pub in-DoWhile : (names : FirstNames (Unit {0})) (turn : List CStmt) (test : CExpr) → in_statement names (stmt.DoWhile turn test) ≡ (in_statements names turn || in_expression names test)
unfolding in_statement in_statements in_expression
in-DoWhile names turn test = ap (some_in (has names)) (body-DoWhile turn test) ∙ both (has names) (body_of_all turn).items.names (linked test).names

pub ruleset statement_equations = (in-Set, in-SetCall, in-Call, in-Empty, in-Block, in-Label, in-Goto, in-Return, in-ReturnCall, in-If, other-None, other-Some, or_none, in-Switch, in-For, in-DoWhile)

pub in-none : (names : FirstNames (Unit {0})) → in_statements names [] ≡ false
unfolding in_statements
in-none names = refl

pub in-more : (names : FirstNames (Unit {0})) (one : CStmt) (later : List CStmt) → in_statements names (one ∷ later) ≡ (in_statement names one || in_statements names later)
unfolding in_statements in_statement
in-more names one later = both (has names) (body one).items.names (body_of_all later).items.names

pub ruleset list_equations = (in-none, in-more)

with_end : (test : List ℕ → Bool) (ended : Bool) (statements : Body) → any_of test (with_return ended statements).items.names ≡ any_of test statements.items.names
with_end test true statements = refl
with_end test false statements = alone test statements.items.names

pub in-body : (names : FirstNames (Unit {0})) (statements : List CStmt) → in_statements names statements ≡ any_of (has names) (whole_body statements).items.names
unfolding in_statements
in-body names statements = sym (with_end (has names) (ends statements) (body_of_all statements))

pub ruleset body_equations = (in-body)
