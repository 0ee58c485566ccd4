-- A reading of all tokens is exact where the reader of pieces is.
use Rattle.std.proofs.Common.{◌≡◌, refl, sym, ap, subst, ◌∙◌, Bool, true, [], ◌∷◌, Option, Some, None, Result, Ok, Err}
use Rattle.f_tree.specs.declared.expressions.Expr.{Expr}
use Rattle.fortran_lexemes.specs.Lexemes.{Lexemes}
use Rattle.fortran_grammar.specs.ExpressionSpelling.{SpellsExpression, SpellsPlace}
use Rattle.grammar_laws.specs.Exactness.{Reader, Exact, stops}
use Rattle.grammar_laws.specs.ExpressionReading.{read_expression, read_place, not_applied}
use Rattle.grammar_laws.proofs.ExpressionExact.{expression_exact, place_exact_before_operators}
use Rattle.expression_parse.specs.declared.failure.Failure.{Failure}
use Rattle.expression_parse.specs.declared.failure.Failure.TheVariants.{NoMemory, Syntax}
use Rattle.expression_parse.specs.Readings.{alone, alone_by, all_of, Gives, IsExact}

abbrev IsSome : {A : Type 0} → Option A → Type 0
IsSome None = ⊥
IsSome (Some x) = Unit {0}

some_is_none : {A : Type 0} (x : A) (o : Option A) → o ≡ Some x → o ≡ None → ⊥
some_is_none x o is none = subst IsSome (sym is ∙ none) tt

inside : {A : Type 0} {x y : A} → Some x ≡ Some y → x ≡ y
inside e = cc

abbrev given : {A : Type 0} → A → Lexemes → Option (A × Lexemes)
given x rest = Some (x, rest)

all_is : {A : Type 0} (o : Option (A × Lexemes)) (x : A) → all_of o ≡ Some x → o ≡ Some (x, [])
unfolding alone alone_by
all_is None x h = absurd (some_is_none x None h refl)
all_is {A = A} (Some p) x h = by p.0 p.1 h
  where
    by : (y : A) (rest : Lexemes) → alone_by y rest ≡ Some x → given y rest ≡ given x []
    by y [] h = ap (λ z. given z []) (inside h)
    by y (piece ∷ more) h = absurd (some_is_none x None h refl)

all_from : {A : Type 0} (o : Option (A × Lexemes)) (x : A) → o ≡ Some (x, []) → all_of o ≡ Some x
unfolding alone alone_by
all_from o x h = ap all_of h

-- what reads all pieces exactly
pub whole_exact : {A : Type 0} (read : Reader A) (Spelled : A → Lexemes → Lexemes → Type 0) (follows : Lexemes → Bool) → Exact read Spelled follows → follows [] ≡ true
    → (pieces : Lexemes) (result : Result A Failure) → Gives (λ found. found) result (all_of (read pieces)) → IsExact (λ found. Spelled found pieces []) result
whole_exact read Spelled follows exact ends pieces (Ok x) h =
    let is = all_is (read pieces) x h in (
      exact.sound x pieces [] is,
      λ other spelled. inside (sym (all_from (read pieces) other (exact.complete other pieces [] spelled ends)) ∙ h),
    )
whole_exact read Spelled follows exact ends pieces (Err Syntax) h =
    λ other spelled. some_is_none other (all_of (read pieces)) (all_from (read pieces) other (exact.complete other pieces [] spelled ends)) h
whole_exact read Spelled follows exact ends pieces (Err NoMemory) h = tt

pub whole_expression_exact : (pieces : Lexemes) (result : Result Expr Failure) → Gives (λ found. found) result (all_of (read_expression pieces))
    → IsExact (λ found. SpellsExpression found pieces []) result
unfolding stops
whole_expression_exact pieces result h = whole_exact read_expression SpellsExpression stops expression_exact refl pieces result h

pub whole_place_exact : (pieces : Lexemes) (result : Result Expr Failure) → Gives (λ found. found) result (all_of (read_place pieces))
    → IsExact (λ found. SpellsPlace found pieces []) result
unfolding not_applied
whole_place_exact pieces result h = whole_exact read_place SpellsPlace not_applied place_exact_before_operators refl pieces result h
