-- The readers of statements by their pieces.
use Rattle.std.proofs.Common.{◌≡◌, refl, sym, ap, ◌∙◌, ℕ, codes, List, Option, Some, None, Ok, Err}
use Rattle.c_tree.specs.declared.expression.CExpr.{CExpr}
use Rattle.c_tree.specs.declared.statement.CNext.{CNext}
use Rattle.c_tree.specs.declared.statement.CStmt.{CStmt}
use Rattle.c_tree.specs.declared.statement.CStmt.TheVariants as form
use Rattle.c_tree.specs.Tokens.{Token}
use Rattle.c_tree.specs.CLabels.{LabelsOf}
use Rattle.c_tree.specs.CExpressionText.{Scope}
use Rattle.c_readers.specs.Readers.{Tokens, Outcome, Reader, found, ◌>>=◌, a_sign, a_word}
use Rattle.c_readers.specs.ExpressionReader.{expression}
use Rattle.c_statement_readers.specs.PartReader.{ForHead, tested, turn, for_rest, for_head}
use Rattle.c_statement_readers.specs.StatementReader.{Inner, braced, repeated}
use Rattle.c_statement_reader.specs.Pieces.{value_and, turn_and, for_start, for_tests, repeat_test}

-- reading behind what was read behind something
chained : {A B C : Type 0} (first : Option (Outcome A)) (next : A → Reader B) (last : B → Reader C)
    → ((first >>= next) >>= last) ≡ (first >>= (λ x. λ p. next x p >>= last))
chained None next last = refl
chained (Some (Err rest)) next last = refl
chained (Some (Ok p)) next last = refl

alike : {A B : Type 0} (first : Option (Outcome A)) (next other : A → Reader B) → ((x : A) (p : Tokens) → next x p ≡ other x p) → (first >>= next) ≡ (first >>= other)
alike None next other same = refl
alike (Some (Err rest)) next other same = refl
alike (Some (Ok p)) next other same = same p.0 p.1

-- what is read behind a value and its sign
value-then : {B : Type 0} (scope : Scope) (count place : ℕ) (sign : List ℕ) (last : CExpr → Reader B) (tokens : Tokens)
    → (value_and scope count place sign tokens >>= last) ≡ (expression scope count place tokens >>= (λ e. λ p. a_sign sign p >>= (λ u. last e)))
unfolding value_and
value-then scope count place sign last tokens =
    chained (expression scope count place tokens) (λ e. λ p. a_sign sign p >>= (λ u. found e)) last
    ∙ alike (expression scope count place tokens) (λ e. λ p. (a_sign sign p >>= (λ u. found e)) >>= last) (λ e. λ p. a_sign sign p >>= (λ u. last e))
    (λ e p. chained (a_sign sign p) (λ u. found e) last)

turn-then : {B : Type 0} (scope : Scope) (count : ℕ) (last : CNext → Reader B) (tokens : Tokens)
    → (turn_and scope count tokens >>= last) ≡ (turn scope count tokens >>= (λ e. λ p. a_sign (codes ")") p >>= (λ u. last e)))
unfolding turn_and
turn-then scope count last tokens =
    chained (turn scope count tokens) (λ e. λ p. a_sign (codes ")") p >>= (λ u. found e)) last
    ∙ alike (turn scope count tokens) (λ e. λ p. (a_sign (codes ")") p >>= (λ u. found e)) >>= last) (λ e. λ p. a_sign (codes ")") p >>= (λ u. last e))
    (λ e p. chained (a_sign (codes ")") p) (λ u. found e) last)

-- ## The head of a `for`

abbrev pub head_of : CExpr → CExpr → CExpr → CNext → ForHead
head_of target first test step = record { target = target; first = first; test = test; turn = step }

abbrev pub head_by : Scope → ℕ → CExpr × CExpr → Reader ForHead
head_by scope count start tokens = for_tests scope count tokens >>= (λ rest. found (head_of start.0 start.1 rest.0 rest.1))

rest-is : (scope : Scope) (count : ℕ) (target first : CExpr) (tokens : Tokens) → for_rest scope count target first tokens ≡ head_by scope count (target, first) tokens
unfolding for_rest for_tests
rest-is scope count target first tokens =
    sym (chained (value_and scope count 0 (codes ";") tokens) (λ test. λ p. turn_and scope count p >>= (λ step. found (test, step))) (λ rest. found (head_of target first rest.0 rest.1))
    ∙ (value-then scope count 0 (codes ";") (λ test. λ p. (turn_and scope count p >>= (λ step. found (test, step))) >>= (λ rest. found (head_of target first rest.0 rest.1))) tokens
    ∙ alike (expression scope count 0 tokens)
    (λ test. λ p. a_sign (codes ";") p >>= (λ u. λ q. (turn_and scope count q >>= (λ step. found (test, step))) >>= (λ rest. found (head_of target first rest.0 rest.1))))
    (λ test. λ p. a_sign (codes ";") p >>= (λ u. λ q. turn scope count q >>= (λ step. λ r. a_sign (codes ")") r >>= (λ v. found (head_of target first test step)))))
    (λ test p. alike (a_sign (codes ";") p) (λ u. λ q. (turn_and scope count q >>= (λ step. found (test, step))) >>= (λ rest. found (head_of target first rest.0 rest.1)))
    (λ u. λ q. turn scope count q >>= (λ step. λ r. a_sign (codes ")") r >>= (λ v. found (head_of target first test step))))
    (λ u q. chained (turn_and scope count q) (λ step. found (test, step)) (λ rest. found (head_of target first rest.0 rest.1))
    ∙ turn-then scope count (λ step. found (head_of target first test step)) q))))

start-then : {B : Type 0} (scope : Scope) (count : ℕ) (last : CExpr × CExpr → Reader B) (tokens : Tokens)
    → (for_start scope count tokens >>= last)
    ≡ (expression scope count 7 tokens
    >>= (λ target. λ q. a_sign (codes "=") q
    >>= (λ v. λ r. expression scope count 0 r >>= (λ first. λ s. a_sign (codes ";") s >>= (λ w. last (target, first))))))
unfolding for_start
start-then scope count last tokens =
    chained (value_and scope count 7 (codes "=") tokens) (λ target. λ p. value_and scope count 0 (codes ";") p >>= (λ first. found (target, first))) last
    ∙ (value-then scope count 7 (codes "=") (λ target. λ p. (value_and scope count 0 (codes ";") p >>= (λ first. found (target, first))) >>= last) tokens
    ∙ alike (expression scope count 7 tokens)
    (λ target. λ q. a_sign (codes "=") q >>= (λ v. λ r. (value_and scope count 0 (codes ";") r >>= (λ first. found (target, first))) >>= last))
    (λ target. λ q. a_sign (codes "=") q >>= (λ v. λ r. expression scope count 0 r >>= (λ first. λ s. a_sign (codes ";") s >>= (λ w. last (target, first)))))
    (λ target q. alike (a_sign (codes "=") q) (λ v. λ r. (value_and scope count 0 (codes ";") r >>= (λ first. found (target, first))) >>= last)
    (λ v. λ r. expression scope count 0 r >>= (λ first. λ s. a_sign (codes ";") s >>= (λ w. last (target, first))))
    (λ v r. chained (value_and scope count 0 (codes ";") r) (λ first. found (target, first)) last
    ∙ value-then scope count 0 (codes ";") (λ first. last (target, first)) r)))

pub head-is : (scope : Scope) (count : ℕ) (tokens : Tokens)
    → for_head scope count tokens ≡ (a_sign (codes "(") tokens >>= (λ u. λ p. for_start scope count p >>= head_by scope count))
unfolding for_head
head-is scope count tokens =
    alike (a_sign (codes "(") tokens)
    (λ u. λ p. expression scope count 7 p
    >>= (λ target. λ q. a_sign (codes "=") q
    >>= (λ v. λ r. expression scope count 0 r >>= (λ first. λ s. a_sign (codes ";") s >>= (λ w. for_rest scope count target first)))))
    (λ u. λ p. for_start scope count p >>= head_by scope count)
    (λ u p. alike (expression scope count 7 p)
    (λ target. λ q. a_sign (codes "=") q
    >>= (λ v. λ r. expression scope count 0 r >>= (λ first. λ s. a_sign (codes ";") s >>= (λ w. for_rest scope count target first))))
    (λ target. λ q. a_sign (codes "=") q
    >>= (λ v. λ r. expression scope count 0 r >>= (λ first. λ s. a_sign (codes ";") s >>= (λ w. head_by scope count (target, first)))))
    (λ target q. alike (a_sign (codes "=") q)
    (λ v. λ r. expression scope count 0 r >>= (λ first. λ s. a_sign (codes ";") s >>= (λ w. for_rest scope count target first)))
    (λ v. λ r. expression scope count 0 r >>= (λ first. λ s. a_sign (codes ";") s >>= (λ w. head_by scope count (target, first))))
    (λ v r. alike (expression scope count 0 r)
    (λ first. λ s. a_sign (codes ";") s >>= (λ w. for_rest scope count target first))
    (λ first. λ s. a_sign (codes ";") s >>= (λ w. head_by scope count (target, first)))
    (λ first s. alike (a_sign (codes ";") s) (λ w. for_rest scope count target first) (λ w. head_by scope count (target, first))
    (λ w t. rest-is scope count target first t))))
    ∙ sym (start-then scope count (head_by scope count) p))

-- ## The test of a `do`

test-then : {B : Type 0} (scope : Scope) (count : ℕ) (last : CExpr → Reader B) (tokens : Tokens)
    → (repeat_test scope count tokens >>= last)
    ≡ (a_word (codes "while") tokens >>= (λ u. λ p. tested scope count p >>= (λ e. λ q. a_sign (codes ";") q >>= (λ v. last e))))
unfolding repeat_test
test-then scope count last tokens =
    chained (a_word (codes "while") tokens) (λ u. λ p. tested scope count p >>= (λ e. λ q. a_sign (codes ";") q >>= (λ v. found e))) last
    ∙ alike (a_word (codes "while") tokens) (λ u. λ p. (tested scope count p >>= (λ e. λ q. a_sign (codes ";") q >>= (λ v. found e))) >>= last)
    (λ u. λ p. tested scope count p >>= (λ e. λ q. a_sign (codes ";") q >>= (λ v. last e)))
    (λ u p. chained (tested scope count p) (λ e. λ q. a_sign (codes ";") q >>= (λ v. found e)) last
    ∙ alike (tested scope count p) (λ e. λ q. (a_sign (codes ";") q >>= (λ v. found e)) >>= last) (λ e. λ q. a_sign (codes ";") q >>= (λ v. last e))
    (λ e q. chained (a_sign (codes ";") q) (λ v. found e) last))

pub repeated-is : (scope : Scope) (count : ℕ) (inner : Inner) (before : LabelsOf) (tokens : Tokens)
    → repeated scope count inner before tokens ≡ (braced inner count before tokens >>= (λ body. λ p. repeat_test scope count p >>= (λ e. found (form.DoWhile body e))))
unfolding repeated
repeated-is scope count inner before tokens =
    alike (braced inner count before tokens)
    (λ body. λ p. a_word (codes "while") p
    >>= (λ u. λ q. tested scope count q >>= (λ e. λ r. a_sign (codes ";") r >>= (λ v. found (form.DoWhile body e)))))
    (λ body. λ p. repeat_test scope count p >>= (λ e. found (form.DoWhile body e)))
    (λ body p. sym (test-then scope count (λ e. found (form.DoWhile body e)) p))

pub ruleset heads_by_pieces = head-is

pub ruleset repeats_by_pieces = repeated-is
