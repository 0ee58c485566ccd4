-- The readers at a fuel that code counts down, for the code of expressions.
use Rattle.std.proofs.Common.{◌≡◌, refl, ℕ, zero, suc, ◌-◌, ◌<◌, ◌≤◌, List, [], ◌∷◌, length, Some, None, ap, arith}
use Rattle.f_tree.specs.declared.expressions.Expr.{Expr}
use Rattle.fortran_lexemes.specs.Lexemes.{Lexemes}
use Rattle.grammar_laws.specs.ExpressionReading as reading
use Rattle.stmt_lex.specs.SeenTokens.{seen}
use Rattle.expression_parse.specs.Readings.{alone, alone_by}
use Rattle.fortran_text.specs.declared.characters.Character.{Character}
use Rattle.stmt_lex.specs.declared.token.Token.{Token}
use Rattle.grammar_laws.specs.ExpressionReading.{◌>>=◌, read, onwards, arguments, behind_close, operator_at}

pub read-zero : (fuel l : ℕ) (pieces : Lexemes) → fuel ≡ 0 → read fuel l pieces ≡ None
unfolding read
read-zero zero l pieces h = refl
read-zero (suc fuel) l pieces h = absurd (omega arith)

pub onwards-zero : (fuel l : ℕ) (a : Expr) (pieces : Lexemes) → fuel ≡ 0 → onwards fuel l a pieces ≡ None
unfolding onwards
onwards-zero zero l a pieces h = refl
onwards-zero (suc fuel) l a pieces h = absurd (omega arith)

pub arguments-zero : (fuel : ℕ) (found : List Expr) (pieces : Lexemes) → fuel ≡ 0 → arguments fuel found pieces ≡ None
unfolding arguments
arguments-zero zero found pieces h = refl
arguments-zero (suc fuel) found pieces h = absurd (omega arith)

pub read-step : (fuel l : ℕ) (pieces : Lexemes) → 0 < fuel
    → read fuel l pieces ≡ (reading.operand (read (fuel - 1)) (arguments (fuel - 1)) l pieces >>= (λ p. onwards (fuel - 1) l p.0 p.1))
unfolding read
read-step zero l pieces h = absurd (omega arith)
read-step (suc fuel) l pieces h = let e : suc fuel - 1 ≡ fuel = omega arith in rw e refl

pub onwards-step : (fuel l : ℕ) (a : Expr) (pieces : Lexemes) → 0 < fuel
    → onwards fuel l a pieces ≡ reading.onward (read (fuel - 1)) (onwards (fuel - 1) l) a pieces (operator_at l pieces)
unfolding onwards
onwards-step zero l a pieces h = absurd (omega arith)
onwards-step (suc fuel) l a pieces h = let e : suc fuel - 1 ≡ fuel = omega arith in rw e refl

pub arguments-step : (fuel : ℕ) (found : List Expr) (pieces : Lexemes) → 0 < fuel
    → arguments fuel found pieces ≡ reading.arguments_by (read (fuel - 1)) (arguments (fuel - 1)) found pieces (behind_close pieces)
unfolding arguments
arguments-step zero found pieces h = absurd (omega arith)
arguments-step (suc fuel) found pieces h = let e : suc fuel - 1 ≡ fuel = omega arith in rw e refl

-- There are as many pieces as tokens.
pub length-seen : (text : List Character) (tokens : List Token) → length (seen text tokens) ≡ length tokens
unfolding seen
length-seen text [] = refl
length-seen text (t ∷ tokens) = ap (λ n. suc n) (length-seen text tokens)

pub ruleset seen_lengths = (length-seen)

-- Tokens are all read, or some are left.
pub alone-all : {A : Type 0} (text : List Character) (x : A) (rest : List Token) → length rest < 1 → alone (x, seen text rest) ≡ Some x
unfolding alone alone_by seen
alone-all text x [] h = refl
alone-all text x (t ∷ rest) h = absurd (omega arith)

pub alone-more : {A : Type 0} (text : List Character) (x : A) (rest : List Token) → 1 ≤ length rest → alone (x, seen text rest) ≡ None
unfolding alone alone_by seen
alone-more text x [] h = absurd (omega arith)
alone-more text x (t ∷ rest) h = refl

pub ruleset left_over = (alone-all, alone-more)

pub ruleset reading_steps = (read-zero, onwards-zero, arguments-zero, read-step, onwards-step, arguments-step)
