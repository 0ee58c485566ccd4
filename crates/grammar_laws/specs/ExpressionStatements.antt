-- What the laws of expressions say. ANSI X3.9-1978, section 6.
use Rattle.std.specs.Prelude.{◌≡◌, []}
use Rattle.fortran_grammar.specs.f_tree.declared.expressions.Expr.{Expr}
use Rattle.fortran_grammar.specs.fortran_lexemes.Lexemes.{Lexemes}
use Rattle.fortran_grammar.specs.ExpressionSpelling.{SpellsExpression, SpellsPlace}
use Rattle.grammar_laws.specs.Exactness.{Exact, stops}
use Rattle.grammar_laws.specs.ExpressionReading.{read_expression, read_place, not_applied}

-- Pieces spell one expression at most, and one place at most.
abbrev pub OneExpression : Type 0
OneExpression = (one other : Expr) (pieces : Lexemes) → SpellsExpression one pieces [] → SpellsExpression other pieces [] → one ≡ other

abbrev pub OnePlace : Type 0
OnePlace = (one other : Expr) (pieces : Lexemes) → SpellsPlace one pieces [] → SpellsPlace other pieces [] → one ≡ other

-- The readers give exactly what is spelled, where what follows does not go on.
abbrev pub ExactExpression : Type 0
ExactExpression = Exact read_expression SpellsExpression stops

abbrev pub ExactPlace : Type 0
ExactPlace = Exact read_place SpellsPlace not_applied
