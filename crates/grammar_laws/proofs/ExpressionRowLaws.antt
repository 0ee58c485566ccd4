-- The rows of expressions, computed by the reader.
use Rattle.std.proofs.Common.{◌≡◌, refl, sym, ap, ◌∙◌, List, [], ◌∷◌, map, Option, Some, None}
use Rattle.fortran_grammar.specs.f_tree.declared.expressions.Expr.{Expr}
use Rattle.fortran_grammar.specs.fortran_lexemes.Lexemes.{Lexemes}
use Rattle.fortran_grammar.specs.ExpressionSpelling.{level, right}
use Rattle.grammar_laws.specs.Exactness.{stops}
use Rattle.grammar_laws.specs.ExpressionReading as reading
use Rattle.grammar_laws.specs.ExpressionReading.{read_expression}
use Rattle.grammar_laws.specs.ExpressionRows.{Row, Says, AllSay, operator_rows, name_rows}
use Rattle.grammar_laws.proofs.ExpressionFacts.{none≢some, some_injective}
use Rattle.grammar_laws.proofs.ExpressionExact.{expression_exact}

-- what is read, where no pieces are left
abbrev whole_by : Expr → Lexemes → Option Expr
whole_by e [] = Some e
whole_by e (piece ∷ more) = None

abbrev whole : Option (Expr × Lexemes) → Option Expr
whole None = None
whole (Some p) = whole_by p.0 p.1

abbrev given : Expr → Lexemes → Option (Expr × Lexemes)
given e rest = Some (e, rest)

whole_is : (o : Option (Expr × Lexemes)) (e : Expr) → whole o ≡ Some e → o ≡ given e []
whole_is None e h = absurd (none≢some h)
whole_is (Some p) e h = by p.0 p.1 h
  where
    by : (x : Expr) (rest : Lexemes) → whole_by x rest ≡ Some e → given x rest ≡ given e []
    by x [] h = ap (λ y. given y []) (some_injective h)
    by x (piece ∷ more) h = absurd (none≢some h)

says : (pieces : Lexemes) (tree : Option Expr) → whole (read_expression pieces) ≡ tree → Says pieces tree
unfolding stops
says pieces (Some e) h = expression_exact.sound e pieces [] (whole_is (read_expression pieces) e h)
says pieces None h = λ e spelled. none≢some (sym h ∙ ap whole (expression_exact.complete e pieces [] spelled refl))

heads : {A : Type 0} (a b : A) (p q : List A) → (a ∷ p) ≡ (b ∷ q) → a ≡ b
heads a b p q e = cc

tails : {A : Type 0} (a b : A) (p q : List A) → (a ∷ p) ≡ (b ∷ q) → p ≡ q
tails a b p q e = cc

found : Row → Option Expr
found row = whole (read_expression row.pieces)

all_say : (rows : List Row) → map found rows ≡ map (λ (row : Row). row.tree) rows → AllSay rows
unfolding found
all_say [] h = tt
all_say (row ∷ rows) h = (
  says row.pieces row.tree (heads (found row) row.tree (map found rows) (map (λ (r : Row). r.tree) rows) h),
  all_say rows (tails (found row) row.tree (map found rows) (map (λ (r : Row). r.tree) rows) h),
)

computed : Unit {0}
unfolding found level right reading.behind_open reading.behind_close reading.behind_comma reading.behind_colon reading.operator_at reading.last_place reading.part_by reading.part reading.part_from reading.part_of_by reading.part_of reading.element_by reading.element reading.applied_by reading.applied reading.subscripted_by reading.subscripted reading.named_by reading.named reading.called_by reading.called reading.parenthesised reading.number reading.primary reading.signed reading.negated reading.operand reading.joined reading.onward reading.further reading.arguments_by reading.read reading.read_expression
computed = tt

pub operators : AllSay operator_rows
unfolding computed
operators = all_say operator_rows refl

pub names : AllSay name_rows
unfolding computed
names = all_say name_rows refl
