-- The readers of expressions and of places are exact, and so pieces spell one expression at most.
use Rattle.std.proofs.Common.{◌≡◌, refl, sym, ap, ◌∙◌, ◌+◌, ◌≤◌, true, true≢false, [], ◌∷◌, length, Some, le_trans, le_refl, arith}
use Rattle.fortran_grammar.specs.f_tree.declared.expressions.Expr.{Expr}
use Rattle.fortran_grammar.specs.fortran_lexemes.Lexemes.{Lexemes, Infix, Mark}
use Rattle.fortran_grammar.specs.fortran_lexemes.declared.signs.Sign.TheVariants as sign
use Rattle.fortran_grammar.specs.ExpressionSpelling.{SpellsExpr, SpellsPlace}
use Rattle.grammar_laws.specs.Exactness.{Reader, Exact, stops}
use Rattle.grammar_laws.specs.ExpressionReading.{read_expression, read_place, not_applied}
use Rattle.grammar_laws.specs.ExpressionStatements.{OneExpression, OnePlace, ExactExpression, ExactPlace}
use Rattle.grammar_laws.proofs.ExpressionFacts.{some_injective, left-small, tight, tight-stops, no_operator}
use Rattle.grammar_laws.proofs.ExpressionSound.{expression_sound, place_sound}
use Rattle.grammar_laws.proofs.ExpressionComplete.{expression_shorter, place_shorter, expression_reaches, place_reads, settled}

expression_complete : (e : Expr) (p q : Lexemes) → SpellsExpr 1 e p q → stops q ≡ true → read_expression p ≡ Some (e, q)
unfolding read_expression
expression_complete e p q s follows =
    let t = tight-stops q follows in
    settled 1 e p q (expression_reaches 1 e p q s) (length p + 1) (omega arith) (omega arith) (no_operator 1 q (omega arith))

-- The reader of expressions is exact.
pub expression_exact : ExactExpression
expression_exact = record {
  sound = λ e p q h. expression_sound e p q h;
  complete = expression_complete;
  no_longer = λ e p q s. le_trans (omega arith) (expression_shorter 1 e p q s);
}

tight-applied : (q : Lexemes) → not_applied q ≡ true → tight q ≤ 10
unfolding tight not_applied
tight-applied (Infix o ∷ more) h = left-small o
tight-applied (Mark sign.Open ∷ more) h = absurd (true≢false (sym h))
tight-applied other h = omega arith

place_complete : (e : Expr) (p q : Lexemes) → SpellsPlace e p q → not_applied q ≡ true → read_place p ≡ Some (e, q)
unfolding read_place
place_complete e p q s follows = (place_reads e p q s (length p) (le_refl (length p)) (tight-applied q follows)).as_place

-- The reader of places is exact, also where an operator follows.
pub place_exact_before_operators : ExactPlace
place_exact_before_operators = record {
  sound = λ e p q h. place_sound e p q h;
  complete = place_complete;
  no_longer = λ e p q s. le_trans (omega arith) (place_shorter e p q s);
}

not_applied-stops : (q : Lexemes) → stops q ≡ true → not_applied q ≡ true
unfolding stops not_applied
not_applied-stops (Mark sign.Open ∷ more) h = h
not_applied-stops other h = refl

-- The reader of places is exact where an expression would not be gone on with.
pub place_exact : Exact read_place SpellsPlace stops
place_exact = record {
  sound = λ e p q h. place_sound e p q h;
  complete = λ e p q s h. place_complete e p q s (not_applied-stops q h);
  no_longer = λ e p q s. le_trans (omega arith) (place_shorter e p q s);
}

one_by : (read : Reader Expr) (one other : Expr) (p : Lexemes) → read p ≡ Some (one, []) → read p ≡ Some (other, []) → one ≡ other
one_by read one other p x y = ap (λ (f : Expr × Lexemes). f.0) (some_injective (sym x ∙ y))

-- Pieces spell one expression at most.
pub one_expression : OneExpression
unfolding stops
one_expression one other p x y = one_by read_expression one other p (expression_complete one p [] x refl) (expression_complete other p [] y refl)

-- Pieces spell one place at most.
pub one_place : OnePlace
unfolding not_applied
one_place one other p x y = one_by read_place one other p (place_complete one p [] x refl) (place_complete other p [] y refl)
