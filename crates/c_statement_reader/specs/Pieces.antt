-- Pieces of statements, each up to the sign behind it (C89, 3.6.5).
use Rattle.std.specs.Prelude.{ℕ, List, codes}
use Rattle.c_tree.specs.declared.expression.CExpr.{CExpr}
use Rattle.c_tree.specs.declared.statement.CNext.{CNext}
use Rattle.c_tree.specs.CExpressionText.{Scope}
use Rattle.c_readers.specs.Readers.{Reader, found, ◌>>=◌, a_sign, a_word}
use Rattle.c_readers.specs.ExpressionReader.{expression}
use Rattle.c_statement_readers.specs.PartReader.{tested, turn}

-- An expression at a place, and a sign behind it.
unfoldable pub value_and : Scope → ℕ → ℕ → List ℕ → Reader CExpr
value_and scope count place sign tokens = expression scope count place tokens >>= (λ e. λ p. a_sign sign p >>= (λ u. found e))

-- What a `for` does after each turn, and the closing parenthesis.
unfoldable pub turn_and : Scope → ℕ → Reader CNext
turn_and scope count tokens = turn scope count tokens >>= (λ step. λ p. a_sign (codes ")") p >>= (λ u. found step))

-- What a `for` assigns to, and what that is first, up to the first semicolon.
unfoldable pub for_start : Scope → ℕ → Reader (CExpr × CExpr)
for_start scope count tokens =
    value_and scope count 7 (codes "=") tokens >>= (λ target. λ p. value_and scope count 0 (codes ";") p >>= (λ first. found (target, first)))

-- The test of a `for`, and what is done after each turn, up to the closing parenthesis.
unfoldable pub for_tests : Scope → ℕ → Reader (CExpr × CNext)
for_tests scope count tokens = value_and scope count 0 (codes ";") tokens >>= (λ test. λ p. turn_and scope count p >>= (λ step. found (test, step)))

-- Behind the block of a `do`: the word, the test in parentheses, and the semicolon.
unfoldable pub repeat_test : Scope → ℕ → Reader CExpr
repeat_test scope count tokens =
    a_word (codes "while") tokens >>= (λ u. λ p. tested scope count p >>= (λ e. λ q. a_sign (codes ";") q >>= (λ v. found e)))
