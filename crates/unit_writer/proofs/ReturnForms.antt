-- Which statements are returns.
use Rattle.std.proofs.Common.{◌≡◌, ℕ, suc, ◌-◌, true, false, List, [], ◌∷◌, length, Option, Some, None, slice_get, refl, sym, ap, ◌∙◌, arith}
use Rattle.c_tree.specs.declared.expression.CCall.{CCall}
use Rattle.c_tree.specs.declared.expression.CExpr.{CExpr}
use Rattle.c_tree.specs.declared.statement.CStmt.{CStmt}
use Rattle.c_tree.specs.declared.statement.CCase.{CCase}
use Rattle.c_tree.specs.declared.statement.CNext.{CNext}
use Rattle.c_tree.specs.Opened.{trees_opened}
use Rattle.c_tree.specs.declared.statement.CStmt.TheVariants as stmt
use Rattle.main_translation.specs.Outlined.{returns, returns_last}
use Rattle.unit_writer.proofs.OptionForms.{none_some, some_none, some_same}

pub returns-Return : (e : Option CExpr) → returns (stmt.Return e) ≡ true
unfolding returns
returns-Return e = refl

pub returns-Label : (name : List ℕ) (s : CStmt) → returns (stmt.Label name s) ≡ returns s
unfolding returns trees_opened
returns-Label name s = refl

pub returns-Set : (a b : CExpr) → returns (stmt.Set a b) ≡ false
unfolding returns trees_opened
returns-Set a b = refl

pub returns-SetCall : (a : CExpr) (call : CCall) → returns (stmt.SetCall a call) ≡ false
unfolding returns trees_opened
returns-SetCall a call = refl

pub returns-Call : (call : CCall) → returns (stmt.Call call) ≡ false
unfolding returns trees_opened
returns-Call call = refl

pub returns-Empty : returns stmt.Empty ≡ false
unfolding returns trees_opened
returns-Empty = refl

pub returns-Block : (ss : List CStmt) → returns (stmt.Block ss) ≡ false
unfolding returns trees_opened
returns-Block ss = refl

pub returns-Goto : (name : List ℕ) → returns (stmt.Goto name) ≡ false
unfolding returns trees_opened
returns-Goto name = refl

pub returns-ReturnCall : (call : CCall) → returns (stmt.ReturnCall call) ≡ false
unfolding returns trees_opened
returns-ReturnCall call = refl

pub returns-If : (test : CExpr) (first : List CStmt) (second : Option (List CStmt)) → returns (stmt.If test first second) ≡ false
unfolding returns trees_opened
returns-If test first second = refl

pub returns-Switch : (test : CExpr) (cases : List CCase) → returns (stmt.Switch test cases) ≡ false
unfolding returns trees_opened
returns-Switch test cases = refl

pub returns-For : (variable first test : CExpr) (next : CNext) (turn : List CStmt) → returns (stmt.For variable first test next turn) ≡ false
unfolding returns trees_opened
returns-For variable first test next turn = refl

pub returns-DoWhile : (turn : List CStmt) (test : CExpr) → returns (stmt.DoWhile turn test) ≡ false
unfolding returns trees_opened
returns-DoWhile turn test = refl

pub ruleset returns_forms = (returns-Return, returns-Label, returns-Set, returns-SetCall, returns-Call, returns-Empty, returns-Block, returns-Goto, returns-ReturnCall, returns-If, returns-Switch, returns-For, returns-DoWhile)

-- the last of some statements
pub returns-last : (xs : List CStmt) (s : CStmt) → slice_get xs (length xs - 1) ≡ Some s → returns_last xs ≡ returns s
unfolding returns_last
returns-last [] s h = absurd (none_some s h)
returns-last (x ∷ []) s h =
    let one : length (x ∷ []) - 1 ≡ 0 = omega arith in
    ap returns (some_same (sym (ap (slice_get (x ∷ [])) one) ∙ h))
returns-last (x ∷ y ∷ xs) s h =
    let less : length (x ∷ y ∷ xs) - 1 ≡ suc (length (y ∷ xs) - 1) = omega arith in
    returns-last (y ∷ xs) s (sym (ap (slice_get (x ∷ y ∷ xs)) less) ∙ h)

pub returns-none : (xs : List CStmt) → slice_get xs (length xs - 1) ≡ None → returns_last xs ≡ false
unfolding returns_last
returns-none [] h = refl
returns-none (x ∷ []) h =
    let one : length (x ∷ []) - 1 ≡ 0 = omega arith in
    absurd (some_none x (sym (ap (slice_get (x ∷ [])) one) ∙ h))
returns-none (x ∷ y ∷ xs) h =
    let less : length (x ∷ y ∷ xs) - 1 ≡ suc (length (y ∷ xs) - 1) = omega arith in
    returns-none (y ∷ xs) (sym (ap (slice_get (x ∷ y ∷ xs)) less) ∙ h)
