-- Which statement some tokens spell (C89, 3.6): one case for each production, with the symbols of the production in
-- their order.
use Rattle.std.specs.Prelude.{◌≡◌, ℕ, ◌≤◌, ℤ, pos, Bool, true, false, ◌||◌, List, [], ◌∷◌, map, codes, Some, None}
use Rattle.std.specs.List.{list_any}
use Rattle.std.specs.Ordering.{int_eq}
use Rattle.c_tree.specs.declared.expression.CExpr.{CExpr}
use Rattle.c_tree.specs.declared.expression.CCall.{CCall}
use Rattle.c_tree.specs.declared.statement.CCase.{CCase}
use Rattle.c_tree.specs.declared.statement.CNext.{CNext}
use Rattle.c_tree.specs.declared.statement.CNext.TheVariants as next
use Rattle.c_tree.specs.declared.statement.CStmt.{CStmt}
use Rattle.c_tree.specs.declared.statement.CStmt.TheVariants as stmt
use Rattle.c_tree.specs.Tokens.{Token, Digits}
use Rattle.c_tree.specs.CWords.{is_name, Next, AWord, ASign}
use Rattle.c_tree.specs.CExpressionText.{Scope, ReadsExpr, ReadsCall}

-- what is assigned
abbrev pub ReadsTarget : Scope → CExpr → List Token → List Token → Type 0
ReadsTarget scope target p q = ReadsExpr scope 7 target p q

-- the cases of a switch, up to its closing brace
pub data ReadsCases : List CCase → List Token → List Token → Type 0 where
  no_case : {p q : List Token} → ASign (codes "}") p q → ReadsCases [] p q
  one_case : (n : ℕ) (label : List ℕ) {later : List CCase} {p q r s t u v w : List Token} → n ≤ 2147483647
      → AWord (codes "case") p q → Next (Digits n) q r → ASign (codes ":") r s → AWord (codes "goto") s t → AWord label t u → ASign (codes ";") u v
      → ReadsCases later v w → ReadsCases (record { number = pos n; label = label } ∷ later) p w

-- whether a number stands twice
abbrev pub has_twice : List ℤ → Bool
has_twice [] = false
has_twice (first ∷ later) = list_any (int_eq first) later || has_twice later

abbrev pub case_numbers : List CCase → List ℤ
case_numbers cases = map (λ (case : CCase). case.number) cases

-- what a `for` does after each turn
pub data ReadsNext (scope : Scope) : CNext → List Token → List Token → Type 0 where
  up : {target : CExpr} {p q r : List Token} → ASign (codes "++") p q → ReadsTarget scope target q r → ReadsNext scope (next.Up target) p r
  down : {target : CExpr} {p q r : List Token} → ASign (codes "--") p q → ReadsTarget scope target q r → ReadsNext scope (next.Down target) p r
  added : {target e : CExpr} {p q r s : List Token}
      → ReadsTarget scope target p q → ASign (codes "+=") q r → ReadsExpr scope 0 e r s → ReadsNext scope (next.Add target e) p s

-- `for` up to its block
pub data ReadsFor (scope : Scope) : CExpr → CExpr → CExpr → CNext → List Token → List Token → Type 0 where
  for_head : {target first test : CExpr} {turn : CNext} {p q r s t u v w x y z : List Token}
      → AWord (codes "for") p q → ASign (codes "(") q r → ReadsTarget scope target r s → ASign (codes "=") s t → ReadsExpr scope 0 first t u → ASign (codes ";") u v
      → ReadsExpr scope 0 test v w → ASign (codes ";") w x → ReadsNext scope turn x y → ASign (codes ")") y z → ReadsFor scope target first test turn p z

-- `if` or `switch` with what it tests
pub data ReadsTested (scope : Scope) : List ℕ → CExpr → List Token → List Token → Type 0 where
  tested : (word : List ℕ) {e : CExpr} {p q r s t : List Token}
      → AWord word p q → ASign (codes "(") q r → ReadsExpr scope 0 e r s → ASign (codes ")") s t → ReadsTested scope word e p t

mutual
  -- a statement
  pub data ReadsStmt (scope : Scope) : CStmt → List Token → List Token → Type 0 where
    assigned : {target e : CExpr} {p q r s t : List Token}
        → ReadsTarget scope target p q → ASign (codes "=") q r → ReadsExpr scope 0 e r s → ASign (codes ";") s t → ReadsStmt scope (stmt.Set target e) p t
    assigned_call : {target : CExpr} {call : CCall} {p q r s t : List Token}
        → ReadsTarget scope target p q → ASign (codes "=") q r → ReadsCall scope call r s → ASign (codes ";") s t → ReadsStmt scope (stmt.SetCall target call) p t
    called : {call : CCall} {p q r : List Token} → ReadsCall scope call p q → ASign (codes ";") q r → ReadsStmt scope (stmt.Call call) p r
    empty : {p q : List Token} → ASign (codes ";") p q → ReadsStmt scope stmt.Empty p q
    a_block : {inner : List CStmt} {p q r : List Token} → ASign (codes "{") p q → ReadsStmts scope inner q r → ReadsStmt scope (stmt.Block inner) p r
    labelled : (label : List ℕ) {inner : CStmt} {p q r s : List Token} → is_name label ≡ true
        → AWord label p q → ASign (codes ":") q r → ReadsStmt scope inner r s → ReadsStmt scope (stmt.Label label inner) p s
    jump : (label : List ℕ) {p q r s : List Token}
        → AWord (codes "goto") p q → AWord label q r → ASign (codes ";") r s → ReadsStmt scope (stmt.Goto label) p s
    returned : {p q r : List Token} → AWord (codes "return") p q → ASign (codes ";") q r → ReadsStmt scope (stmt.Return None) p r
    returned_value : {e : CExpr} {p q r s : List Token}
        → AWord (codes "return") p q → ReadsExpr scope 0 e q r → ASign (codes ";") r s → ReadsStmt scope (stmt.Return (Some e)) p s
    returned_call : {call : CCall} {p q r s : List Token}
        → AWord (codes "return") p q → ReadsCall scope call q r → ASign (codes ";") r s → ReadsStmt scope (stmt.ReturnCall call) p s
    if_only : {e : CExpr} {first : List CStmt} {p q r s : List Token}
        → ReadsTested scope (codes "if") e p q → ASign (codes "{") q r → ReadsStmts scope first r s → ReadsStmt scope (stmt.If e first None) p s
    if_else : {e : CExpr} {first second : List CStmt} {p q r s t u v : List Token}
        → ReadsTested scope (codes "if") e p q → ASign (codes "{") q r → ReadsStmts scope first r s → AWord (codes "else") s t → ASign (codes "{") t u → ReadsStmts scope second u v
        → ReadsStmt scope (stmt.If e first (Some second)) p v
    switched : {e : CExpr} {cases : List CCase} {p q r s : List Token} → has_twice (case_numbers cases) ≡ false
        → ReadsTested scope (codes "switch") e p q → ASign (codes "{") q r → ReadsCases cases r s → ReadsStmt scope (stmt.Switch e cases) p s
    repeated_for : {target first test : CExpr} {turn : CNext} {inner : List CStmt} {p q r s : List Token}
        → ReadsFor scope target first test turn p q → ASign (codes "{") q r → ReadsStmts scope inner r s → ReadsStmt scope (stmt.For target first test turn inner) p s
    repeated_do : {inner : List CStmt} {e : CExpr} {p q r s t u : List Token}
        → AWord (codes "do") p q → ASign (codes "{") q r → ReadsStmts scope inner r s → ReadsTested scope (codes "while") e s t → ASign (codes ";") t u
        → ReadsStmt scope (stmt.DoWhile inner e) p u

  -- statements up to the closing brace
  pub data ReadsStmts (scope : Scope) : List CStmt → List Token → List Token → Type 0 where
    closed : {p q : List Token} → ASign (codes "}") p q → ReadsStmts scope [] p q
    one_more : {first : CStmt} {later : List CStmt} {p q r : List Token} → ReadsStmt scope first p q → ReadsStmts scope later q r → ReadsStmts scope (first ∷ later) p r
