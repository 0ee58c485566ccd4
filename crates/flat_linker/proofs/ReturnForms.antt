-- Which statements are returns, and whether the last one is.
use Rattle.std.proofs.Common.{◌≡◌, refl, ℕ, Bool, true, false, List, [], ◌∷◌, Option}
use Rattle.c_tree.specs.declared.expression.CExpr.{CExpr}
use Rattle.c_tree.specs.declared.expression.CCall.{CCall}
use Rattle.c_tree.specs.declared.statement.CStmt.{CStmt}
use Rattle.c_tree.specs.declared.statement.CStmt.TheVariants as stmt
use Rattle.c_tree.specs.declared.statement.CCase.{CCase}
use Rattle.c_tree.specs.declared.statement.CNext.{CNext}
use Rattle.c_tree.specs.FlatForm.{is_return, ends}
use Rattle.c_tree.specs.Opened.{trees_opened}

pub return-Set : (to e : CExpr) → is_return (stmt.Set to e) ≡ false
return-Set to e = refl

pub return-SetCall : (to : CExpr) (call : CCall) → is_return (stmt.SetCall to call) ≡ false
return-SetCall to call = refl

pub return-Call : (call : CCall) → is_return (stmt.Call call) ≡ false
return-Call call = refl

pub return-Empty : is_return stmt.Empty ≡ false
return-Empty = refl

pub return-Block : (inner : List CStmt) → is_return (stmt.Block inner) ≡ false
unfolding trees_opened
return-Block inner = refl

pub return-Label : (name : List ℕ) (inner : CStmt) → is_return (stmt.Label name inner) ≡ is_return inner
unfolding trees_opened
return-Label name inner = refl

pub return-Goto : (label : List ℕ) → is_return (stmt.Goto label) ≡ false
return-Goto label = refl

pub return-Return : (value : Option CExpr) → is_return (stmt.Return value) ≡ true
return-Return value = refl

pub return-ReturnCall : (call : CCall) → is_return (stmt.ReturnCall call) ≡ true
return-ReturnCall call = refl

pub return-If : (test : CExpr) (first : List CStmt) (other : Option (List CStmt)) → is_return (stmt.If test first other) ≡ false
unfolding trees_opened
return-If test first other = refl

pub return-Switch : (value : CExpr) (cases : List CCase) → is_return (stmt.Switch value cases) ≡ false
return-Switch value cases = refl

pub return-For : (variable first test : CExpr) (next : CNext) (turn : List CStmt) → is_return (stmt.For variable first test next turn) ≡ false
unfolding trees_opened
return-For variable first test next turn = refl

pub return-DoWhile : (turn : List CStmt) (test : CExpr) → is_return (stmt.DoWhile turn test) ≡ false
unfolding trees_opened
return-DoWhile turn test = refl

pub ruleset return_forms = (return-Set, return-SetCall, return-Call, return-Empty, return-Block, return-Label, return-Goto, return-Return, return-ReturnCall, return-If, return-Switch, return-For, return-DoWhile)

-- whether the last of some statements is a return, or what was found before where there is none
abbrev pub ends_or : Bool → List CStmt → Bool
ends_or found [] = found
ends_or found (first ∷ later) = ends (first ∷ later)

pub ends-none : (list : List CStmt) → ends_or false list ≡ ends list
ends-none [] = refl
ends-none (first ∷ later) = refl

pub ends-more : (found : Bool) (first : CStmt) (later : List CStmt) → ends_or found (first ∷ later) ≡ ends_or (is_return first) later
ends-more found first [] = refl
ends-more found first (second ∷ later) = refl
