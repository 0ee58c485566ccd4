-- The readers at numbers of nests that code counts down.
use Rattle.std.proofs.Common.{◌≡◌, refl, ℕ, zero, suc, ◌-◌, ◌<◌, arith}
use Rattle.c_tree.specs.declared.expression.CExpr.{CExpr}
use Rattle.c_tree.specs.CExpressionText.{Scope}
use Rattle.c_readers.specs.Readers.{Tokens, ◌>>=◌}
use Rattle.c_readers.specs.ExpressionReader as reader
use Rattle.c_readers.specs.ExpressionReader.{expression, expression_behind}

pub expression-step : (scope : Scope) (nests place : ℕ) (tokens : Tokens) → 0 < nests
    → expression scope nests place tokens
    ≡ (reader.operand scope (expression scope (nests - 1)) place tokens >>= (λ first. expression_behind scope (nests - 1) place first.level first.tree))
unfolding expression
expression-step scope zero place tokens h = absurd (omega arith)
expression-step scope (suc nests) place tokens h = let e : suc nests - 1 ≡ nests = omega arith in rw e refl

pub behind-step : (scope : Scope) (nests place level : ℕ) (e : CExpr) (tokens : Tokens) → 0 < nests
    → expression_behind scope nests place level e tokens
    ≡ reader.onward (expression scope (nests - 1)) (expression_behind scope (nests - 1) place) place level e tokens
unfolding expression_behind
behind-step scope zero place level e tokens h = absurd (omega arith)
behind-step scope (suc nests) place level e tokens h = let e : suc nests - 1 ≡ nests = omega arith in rw e refl

pub ruleset expression_steps = (expression-step, behind-step)
