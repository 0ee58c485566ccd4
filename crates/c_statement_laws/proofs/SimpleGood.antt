-- Calls, assignments and returns are read as they stand.
use Rattle.std.proofs.Common.{◌≡◌, refl, ap, ℕ, ◌≤◌, le_refl, Bool, true, false, List, [], ◌∷◌, codes, bytes_eq, Some, None, arith}
use Rattle.c_grammar_laws.specs.c_tree.declared.expression.CExpr.{CExpr}
use Rattle.c_grammar_laws.specs.c_tree.declared.expression.CCall.{CCall}
use Rattle.c_grammar_laws.specs.c_tree.declared.statement.CStmt.{CStmt}
use Rattle.c_grammar_laws.specs.c_tree.declared.statement.CStmt.TheVariants as stmt
use Rattle.c_grammar_laws.specs.c_tree.Tokens.{Word, Sign}
use Rattle.c_grammar_laws.specs.c_tree.CWords.{ASign}
use Rattle.c_grammar_laws.specs.c_tree.CLabels.{LabelsOf}
use Rattle.c_grammar_laws.specs.c_tree.CExpressionText.{Scope, ReadsExpr, ReadsCall}
use Rattle.c_grammar_laws.specs.c_tree.CStatementText as text
use Rattle.c_grammar_laws.specs.c_tree.CStatementText.{ReadsStmt}
use Rattle.c_grammar_laws.specs.c_readers.Readers.{Tokens, Reader, found, a_sign, ◌>>=◌}
use Rattle.c_grammar_laws.specs.c_readers.ExpressionReader.{expression}
use Rattle.c_grammar_laws.specs.c_readers.CallReader.{call}
use Rattle.c_grammar_laws.specs.grammar.Exactness.{head, Judged, Good}
use Rattle.c_grammar_laws.proofs.grammar.Judging.{in_turn, good-fewer, good-found, judged-also, takes-one, at-the-token, at-the-end}
use Rattle.c_grammar_laws.proofs.TokenGood.{equal-texts, OneSign, good-sign}
use Rattle.c_grammar_laws.proofs.ExpressionGood.{good_expressions}
use Rattle.c_grammar_laws.proofs.CallGood.{all_good_calls}
use Rattle.c_statement_readers.specs.LabelTests.{can_meet}
use Rattle.c_statement_readers.specs.PartReader.{Right, Value, Called, begins_call, right_by, right, set_to, assigned, assignment, call_statement, simple_by, simple, return_of, returned_value, returned_by, returned}
use Rattle.c_statement_laws.specs.StatementLaws.{InOrder, StatementIs}
use Rattle.c_statement_laws.proofs.LabelLaws.{can-none, labels-set, labels-set-call, labels-call, labels-return, labels-return-call}
use Rattle.c_statement_laws.proofs.Divergence.{Ends, test-judged}
use Rattle.c_statement_laws.proofs.CallProbes.{call-start, callable, call-probe}

-- What is assigned or returned.
abbrev pub RightIs : Scope → Right → Tokens → Tokens → Type 0
RightIs scope (Value e) p q = ReadsExpr scope 0 e p q
RightIs scope (Called one) p q = ReadsCall scope one p q

module _ (scope : Scope) (good : InOrder scope) (nests count most : ℕ) (low : nests ≤ count) (high : count ≤ most) where
  pub expression-good : (place : ℕ) → place ≤ 9 → Good nests (ReadsExpr scope place) (expression scope count place) (expression scope most place)
  expression-good place top = good-fewer nests count low (good_expressions scope count most place high top)

  pub call-good : (tokens : Tokens) → begins_call scope tokens ≡ true → Good nests (ReadsCall scope) (call scope count count) (call scope most most)
  call-good tokens begins =
      good-fewer nests count low (all_good_calls scope count most count most high (le_refl count) high (callable scope tokens (call-start scope tokens begins)))

  -- a call where one begins, and else an expression
  module _ {A : Type 0} (Spelled : A → Tokens → Tokens → Type 0) (place : ℕ) (by above : Bool → Reader A) (after_call : CCall → Reader A) (after : CExpr → Reader A)
      (at_end : (e : CExpr) → Ends (after e [])) (is_call : (p : Tokens) → above true p ≡ (call scope most most p >>= after_call))
      (is_expression : (p : Tokens) → above false p ≡ (expression scope most place p >>= after))
      (good_call : (tokens : Tokens) → begins_call scope tokens ≡ true → Good nests Spelled (by true) (above true))
      (good_other : Good nests Spelled (by false) (above false)) where
    either-judged : (tokens : Tokens) (begins : Bool) → begins_call scope tokens ≡ begins
        → Judged nests Spelled (λ ts. above (begins_call scope ts) ts) tokens (by begins tokens)
    either-judged tokens true h =
        test-judged (begins_call scope) above Spelled (call-probe scope most place after_call after above at_end is_call is_expression good) nests tokens true h (by true tokens)
        ((good_call tokens h).judged tokens)
    either-judged tokens false h =
        test-judged (begins_call scope) above Spelled (call-probe scope most place after_call after above at_end is_call is_expression good) nests tokens false h (by false tokens)
        (good_other.judged tokens)

    pub good-either : Good nests Spelled (λ ts. by (begins_call scope ts) ts) (λ ts. above (begins_call scope ts) ts)
    good-either = record { able = good_other.able; judged = λ tokens. either-judged tokens (begins_call scope tokens) refl }

  -- ## What is assigned and returned

  right-call : (tokens : Tokens) → begins_call scope tokens ≡ true → Good nests (RightIs scope) (right_by scope count true) (right_by scope most true)
  unfolding right_by
  right-call tokens begins = in_turn {First = ReadsCall scope} (call-good tokens begins) (λ one. good-found (Called one) (λ p front reads. reads))

  right-other : Good nests (RightIs scope) (right_by scope count false) (right_by scope most false)
  unfolding right_by
  right-other = in_turn {First = ReadsExpr scope 0} (expression-good 0 (omega arith)) (λ e. good-found (Value e) (λ p front reads. reads))

  pub good-right : Good nests (RightIs scope) (right scope count) (right scope most)
  unfolding right right_by
  good-right =
      good-either (RightIs scope) 0 (right_by scope count) (right_by scope most) (λ one. found (Called one)) (λ e. found (Value e)) (λ e. refl) (λ p. refl) (λ p. refl) right-call
      right-other

  module _ (before : LabelsOf) (can : can_meet before ≡ true) where
    abbrev Is : CStmt → Tokens → Tokens → Type 0
    Is one p q = StatementIs scope before one p q

    -- ## Calls and assignments

    set-is : (target : CExpr) (r : Right) (p q s t u : Tokens) → ReadsExpr scope 7 target p q → ASign (codes "=") q s → RightIs scope r s t → ASign (codes ";") t u
        → Is (set_to target r) p u
    set-is target (Value e) p q s t u a b c d = record { reads = text.assigned a b c d; can = can-none before (stmt.Set target e) (labels-set target e) can }
    set-is target (Called one) p q s t u a b c d = record { reads = text.assigned_call a b c d; can = can-none before (stmt.SetCall target one) (labels-set-call target one) can }

    good-assigned : (target : CExpr) → Good nests (λ one q r. (front : Tokens) → ReadsExpr scope 7 target front q → Is one front r) (assigned scope count target) (assigned scope most target)
    unfolding assigned
    good-assigned target =
        in_turn {First = OneSign (codes "=")} (good-sign (codes "="))
        (λ u. in_turn {First = RightIs scope} good-right
        (λ r. in_turn {First = OneSign (codes ";")} (good-sign (codes ";"))
        (λ v. good-found (set_to target r) (λ q p3 end p2 reads p1 equals p0 first. set-is target r p0 p1 p2 p3 q first equals reads end))))

    good-assignment : Good nests Is (assignment scope count) (assignment scope most)
    unfolding assignment
    good-assignment = in_turn {First = ReadsExpr scope 7} (expression-good 7 (omega arith)) good-assigned

    good-call-statement : (tokens : Tokens) → begins_call scope tokens ≡ true → Good nests Is (call_statement scope count) (call_statement scope most)
    unfolding call_statement
    good-call-statement tokens begins =
        in_turn {First = ReadsCall scope} (call-good tokens begins)
        (λ one. in_turn {First = OneSign (codes ";")} (good-sign (codes ";"))
        (λ u. good-found (stmt.Call one) (λ q p1 end p0 reads. record { reads = text.called reads end; can = can-none before (stmt.Call one) (labels-call one) can })))

    pub good-simple : Good nests Is (simple scope count) (simple scope most)
    unfolding simple simple_by call_statement assignment assigned a_sign
    good-simple =
        good-either Is 7 (simple_by scope count) (simple_by scope most) (λ one. λ p. a_sign (codes ";") p >>= (λ u. found (stmt.Call one))) (assigned scope most) (λ e. refl) (λ p. refl)
        (λ p. refl) good-call-statement good-assignment

    -- ## Returns

    abbrev Returned : CStmt → Tokens → Tokens → Type 0
    Returned one p q = Is one (Word (codes "return") ∷ p) q

    return-is : (r : Right) (p q s : Tokens) → RightIs scope r p q → ASign (codes ";") q s → Returned (return_of r) p s
    return-is (Value e) p q s a b = record { reads = text.returned_value refl a b; can = can-none before (stmt.Return (Some e)) (labels-return (Some e)) can }
    return-is (Called one) p q s a b = record { reads = text.returned_call refl a b; can = can-none before (stmt.ReturnCall one) (labels-return-call one) can }

    good-returned-value : Good nests Returned (returned_value scope count) (returned_value scope most)
    unfolding returned_value
    good-returned-value =
        in_turn {First = RightIs scope} good-right
        (λ r. in_turn {First = OneSign (codes ";")} (good-sign (codes ";")) (λ u. good-found (return_of r) (λ q p1 end p0 reads. return-is r p0 p1 q reads end)))

    as-value : (tokens : Tokens) → ((p : Tokens) → head p ≡ head tokens → returned scope most p ≡ returned_value scope most p)
        → Judged nests Returned (returned scope most) tokens (returned_value scope count tokens)
    as-value tokens same = judged-also Returned nests tokens same (returned_value scope count tokens) (good-returned-value.judged tokens)

    returned-by : (sign : List ℕ) (behind : Tokens) (ends : Bool) → bytes_eq sign (codes ";") ≡ ends
        → Judged nests Returned (returned scope most) (Sign sign ∷ behind) (returned_by scope count sign behind ends)
    unfolding returned returned_by
    returned-by sign behind true h =
        takes-one nests (stmt.Return None) (Sign sign) behind
        (λ p. record { reads = text.returned refl (ap (λ z. Sign z ∷ p) (equal-texts sign (codes ";") h)); can = can-none before (stmt.Return None) (labels-return None) can })
        (λ p. ap (returned_by scope most sign p) h)
    returned-by sign behind false h =
        as-value (Sign sign ∷ behind)
        (at-the-token (λ p. returned scope most p ≡ returned_value scope most p) (Sign sign) (λ p. ap (returned_by scope most sign p) h))

    returned-judged : (tokens : Tokens) → Judged nests Returned (returned scope most) tokens (returned scope count tokens)
    unfolding returned
    returned-judged [] = as-value [] (at-the-end (λ p. returned scope most p ≡ returned_value scope most p) refl)
    returned-judged (Sign sign ∷ behind) = returned-by sign behind (bytes_eq sign (codes ";")) refl
    returned-judged (token ∷ behind) = as-value (token ∷ behind) (at-the-token (λ p. returned scope most p ≡ returned_value scope most p) token (λ p. refl))

    pub good-returned : Good nests Returned (returned scope count) (returned scope most)
    good-returned = record { able = good-returned-value.able; judged = returned-judged }
