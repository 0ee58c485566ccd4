-- What is tested, and the head of a `for`, are read as they stand.
use Rattle.std.proofs.Common.{◌≡◌, refl, sym, ap, ◌∙◌, subst, ℕ, suc, ◌≤◌, List, [], ◌∷◌, codes, Option, Some, None, arith}
use Rattle.c_grammar_laws.specs.c_tree.declared.expression.CExpr.{CExpr}
use Rattle.c_grammar_laws.specs.c_tree.declared.statement.CNext.{CNext}
use Rattle.c_grammar_laws.specs.c_tree.declared.statement.CNext.TheVariants as next
use Rattle.c_grammar_laws.specs.c_tree.Tokens.{Word, Sign}
use Rattle.c_grammar_laws.specs.c_tree.CExpressionText.{Scope, ReadsExpr}
use Rattle.c_grammar_laws.specs.c_tree.CStatementText as text
use Rattle.c_grammar_laws.specs.c_tree.CStatementText.{ReadsNext, ReadsFor, ReadsTested}
use Rattle.c_grammar_laws.specs.c_readers.Readers.{Tokens, lookup}
use Rattle.c_grammar_laws.specs.c_readers.ExpressionReader.{expression}
use Rattle.c_grammar_laws.specs.grammar.Exactness.{head, Judged, Good}
use Rattle.c_grammar_laws.proofs.grammar.Judging.{in_turn, good-found, judged-also, judged-fewer, behind-token, at-the-token, at-the-end}
use Rattle.c_grammar_laws.proofs.TokenGood.{OneSign, good-sign}
use Rattle.c_grammar_laws.proofs.ExpressionTables.{row-found}
use Rattle.c_statement_readers.specs.PartReader.{Step, Upward, Downward, steps, turn_by, turn, added, ForHead, for_rest, for_head, tested}
use Rattle.c_statement_laws.specs.StatementLaws.{InOrder}
use Rattle.c_statement_laws.proofs.SimpleGood.{expression-good}

-- The sign of a step.
abbrev pub step_sign : Step → List ℕ
step_sign Upward = codes "++"
step_sign Downward = codes "--"

pub step-found : (sign : List ℕ) (step : Step) → lookup sign steps ≡ Some step → sign ≡ step_sign step
step-found sign step h = row-found (λ word step. word ≡ step_sign step) sign step steps (refl, (refl, tt)) h

-- The head of a `for` behind its word.
abbrev pub ForIs : Scope → ForHead → Tokens → Tokens → Type 0
ForIs scope made p q = ReadsFor scope made.target made.first made.test made.turn (Word (codes "for") ∷ p) q

-- What is tested, behind a word.
abbrev pub TestedBehind : Scope → List ℕ → CExpr → Tokens → Tokens → Type 0
TestedBehind scope word e p q = ReadsTested scope word e (Word word ∷ p) q

module _ (scope : Scope) (good : InOrder scope) (nests count most : ℕ) (low : nests ≤ count) (high : count ≤ most) where
  expr-good : (place : ℕ) → place ≤ 9 → Good nests (ReadsExpr scope place) (expression scope count place) (expression scope most place)
  expr-good place top = expression-good scope good nests count most low high place top

  pub good-tested : (word : List ℕ) → Good nests (TestedBehind scope word) (tested scope count) (tested scope most)
  unfolding tested
  good-tested word =
      in_turn {First = OneSign (codes "(")} (good-sign (codes "("))
      (λ u. in_turn {First = ReadsExpr scope 0} (expr-good 0 (omega arith))
      (λ e. in_turn {First = OneSign (codes ")")} (good-sign (codes ")"))
      (λ v. good-found e (λ q p2 closes p1 reads p0 opens. text.tested word refl opens reads closes))))

  -- ## After each turn

  good-added : Good nests (ReadsNext scope) (added scope count) (added scope most)
  unfolding added
  good-added =
      in_turn {First = ReadsExpr scope 7} (expr-good 7 (omega arith))
      (λ target. in_turn {First = OneSign (codes "+=")} (good-sign (codes "+="))
      (λ u. in_turn {First = ReadsExpr scope 0} (expr-good 0 (omega arith))
      (λ e. good-found (next.Add target e) (λ q p2 reads p1 adds p0 first. text.added first adds reads))))

  StepIs : Step → CNext → Tokens → Tokens → Type 0
  StepIs step made p q = ReadsNext scope made (Sign (step_sign step) ∷ p) q

  good-step : (step : Step) → Good nests (StepIs step) (λ more. turn_by scope count [] more (Some step)) (λ more. turn_by scope most [] more (Some step))
  unfolding turn_by StepIs
  good-step Upward =
      in_turn {First = ReadsExpr scope 7} (expr-good 7 (omega arith)) (λ target. good-found (next.Up target) (λ q p0 first. text.up refl first))
  good-step Downward =
      in_turn {First = ReadsExpr scope 7} (expr-good 7 (omega arith)) (λ target. good-found (next.Down target) (λ q p0 first. text.down refl first))

  as-added : (tokens : Tokens) → ((p : Tokens) → head p ≡ head tokens → turn scope most p ≡ added scope most p)
      → Judged nests (ReadsNext scope) (turn scope most) tokens (added scope count tokens)
  as-added tokens same = judged-also (ReadsNext scope) nests tokens same (added scope count tokens) (good-added.judged tokens)

  same-step : (many : ℕ) (sign : List ℕ) (step : Step) (p : Tokens) → turn_by scope many sign p (Some step) ≡ turn_by scope many [] p (Some step)
  unfolding turn_by
  same-step many sign Upward p = refl
  same-step many sign Downward p = refl

  turn-by : (sign : List ℕ) (behind : Tokens) (o : Option Step) → lookup sign steps ≡ o
      → Judged nests (ReadsNext scope) (turn scope most) (Sign sign ∷ behind) (turn_by scope count sign behind o)
  unfolding turn turn_by StepIs
  turn-by sign behind (Some step) h =
      subst (Judged nests (ReadsNext scope) (turn scope most) (Sign sign ∷ behind)) (sym (same-step count sign step behind))
      (judged-fewer (ReadsNext scope) (turn scope most) nests (suc nests) (Sign sign ∷ behind) (omega arith) (turn_by scope count [] behind (Some step))
      (behind-token (StepIs step) (ReadsNext scope) (λ more. turn_by scope most [] more (Some step)) (turn scope most) nests (Sign sign) behind
      (λ made p q reads. subst (λ z. ReadsNext scope made (Sign z ∷ p) q) (sym (step-found sign step h)) reads)
      (λ p. ap (turn_by scope most sign p) h ∙ same-step most sign step p) (turn_by scope count [] behind (Some step)) ((good-step step).judged behind)))
  turn-by sign behind None h =
      as-added (Sign sign ∷ behind) (at-the-token (λ p. turn scope most p ≡ added scope most p) (Sign sign) (λ p. ap (turn_by scope most sign p) h))

  turn-judged : (tokens : Tokens) → Judged nests (ReadsNext scope) (turn scope most) tokens (turn scope count tokens)
  unfolding turn
  turn-judged [] = as-added [] (at-the-end (λ p. turn scope most p ≡ added scope most p) refl)
  turn-judged (Sign sign ∷ behind) = turn-by sign behind (lookup sign steps) refl
  turn-judged (token ∷ behind) = as-added (token ∷ behind) (at-the-token (λ p. turn scope most p ≡ added scope most p) token (λ p. refl))

  pub good-turn : Good nests (ReadsNext scope) (turn scope count) (turn scope most)
  good-turn = record { able = good-added.able; judged = turn-judged }

  -- ## The head

  pub good-for-head : Good nests (ForIs scope) (for_head scope count) (for_head scope most)
  unfolding for_head for_rest
  good-for-head =
      in_turn {First = OneSign (codes "(")} (good-sign (codes "("))
      (λ u. in_turn {First = ReadsExpr scope 7} (expr-good 7 (omega arith))
      (λ target. in_turn {First = OneSign (codes "=")} (good-sign (codes "="))
      (λ v. in_turn {First = ReadsExpr scope 0} (expr-good 0 (omega arith))
      (λ first. in_turn {First = OneSign (codes ";")} (good-sign (codes ";"))
      (λ w. in_turn {First = ReadsExpr scope 0} (expr-good 0 (omega arith))
      (λ test. in_turn {First = OneSign (codes ";")} (good-sign (codes ";"))
      (λ y. in_turn {First = ReadsNext scope} good-turn
      (λ step. in_turn {First = OneSign (codes ")")} (good-sign (codes ")"))
      (λ z. good-found (record { target = target; first = first; test = test; turn = step })
      (λ q p8 closes p7 turns p6 ends p5 tests p4 stops p3 reads p2 equals p1 first_reads p0 opens.
      text.for_head refl opens first_reads equals reads stops tests ends turns closes))))))))))
