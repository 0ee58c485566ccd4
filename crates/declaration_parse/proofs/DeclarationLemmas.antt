-- The readers of lists at a fuel that code counts down, and what stands behind a piece that is wanted.
use Rattle.std.proofs.Common.{◌≡◌, refl, sym, ℕ, zero, suc, ◌-◌, ◌<◌, Bool, true, false, List, [], ◌∷◌, ◌++◌, map, Option, Some, None, ap, subst, ◌∙◌, if◌then◌else◌, arith}
use Rattle.fortran_lexemes.specs.Lexemes.{Lexemes, Name}
use Rattle.fortran_grammar.specs.DeclarationForms.{letter_of}
use Rattle.fortran_grammar.specs.Forms.{Sort, sort, behind, Comma}
use Rattle.grammar_laws.specs.Exactness.{Reader}
use Rattle.grammar_laws.specs.FormReading.{same, where', where_passes, going_on, paired, items, rounds, rounds_on, after, up_to_piece}
use Rattle.expression_parse.specs.Readings.{only_one}
use Rattle.expression_parse.specs.WantedPieces.{taken}
use Rattle.declaration_parse.specs.DeclarationSteps.{further}

pub items-zero : {A : Type 0} (fuel : ℕ) (read : Reader A) (found : List A) (pieces : Lexemes) → fuel ≡ 0 → items fuel read found pieces ≡ None
unfolding items
items-zero zero read found pieces h = refl
items-zero (suc fuel) read found pieces h = absurd (omega arith)

pub items-step : {A : Type 0} (fuel : ℕ) (read : Reader A) (found : List A) (pieces : Lexemes) → 0 < fuel
    → items fuel read found pieces ≡ going_on (read pieces) (λ x rest. further (fuel - 1) read (found ++ x ∷ []) rest)
unfolding items further
items-step zero read found pieces h = absurd (omega arith)
items-step (suc fuel) read found pieces h = let e : suc fuel - 1 ≡ fuel = omega arith in rw e refl

-- a choice by a piece that is wanted
chosen : {A : Type 0} (b : Bool) (pieces : Lexemes) (o : Option Lexemes) (f : Lexemes → A) (d : A)
    → (if b then Some pieces else None) ≡ o → (if b then f pieces else d) ≡ elim o [ None ↦ d | Some q ↦ f q ]
chosen true pieces o f d h = subst (λ o. f pieces ≡ elim o [ None ↦ d | Some q ↦ f q ]) h refl
chosen false pieces o f d h = subst (λ o. d ≡ elim o [ None ↦ d | Some q ↦ f q ]) h refl

pub further-some : {A : Type 0} (fuel : ℕ) (read : Reader A) (found : List A) (pieces rest : Lexemes) → Some rest ≡ taken Comma pieces
    → further fuel read found pieces ≡ items fuel read found rest
unfolding further taken
further-some fuel read found pieces rest h =
    chosen (same Comma (sort pieces)) (behind pieces) (Some rest) (λ q. items fuel read found q) (Some (found, pieces)) (sym h)

pub further-none : {A : Type 0} (fuel : ℕ) (read : Reader A) (found : List A) (pieces : Lexemes) → None ≡ taken Comma pieces
    → further fuel read found pieces ≡ Some (found, pieces)
unfolding further taken
further-none fuel read found pieces h =
    chosen (same Comma (sort pieces)) (behind pieces) None (λ q. items fuel read found q) (Some (found, pieces)) (sym h)

pub ruleset list_steps = (items-zero, items-step, further-some, further-none)

pub rounds-zero : {A : Type 0} (fuel : ℕ) (read : Reader A) (found : List A) (pieces : Lexemes) → fuel ≡ 0 → rounds fuel read found pieces ≡ None
unfolding rounds
rounds-zero zero read found pieces h = refl
rounds-zero (suc fuel) read found pieces h = absurd (omega arith)

pub rounds-step : {A : Type 0} (fuel : ℕ) (read : Reader A) (found : List A) (pieces : Lexemes) → 0 < fuel
    → rounds fuel read found pieces ≡ rounds_on found pieces (λ x rest. rounds (fuel - 1) read (found ++ x ∷ []) rest) (read pieces)
unfolding rounds
rounds-step zero read found pieces h = absurd (omega arith)
rounds-step (suc fuel) read found pieces h = let e : suc fuel - 1 ≡ fuel = omega arith in rw e refl

pub ruleset round_steps = (rounds-zero, rounds-step)

pub after-some : {A : Type 0} (k : Sort) (read : Reader A) (pieces rest : Lexemes) → Some rest ≡ taken k pieces → after k read pieces ≡ read rest
unfolding after taken
after-some k read pieces rest h = chosen (same k (sort pieces)) (behind pieces) (Some rest) (λ q. read q) None (sym h)

pub after-none : {A : Type 0} (k : Sort) (read : Reader A) (pieces : Lexemes) → None ≡ taken k pieces → after k read pieces ≡ None
unfolding after taken
after-none k read pieces h = chosen (same k (sort pieces)) (behind pieces) None (λ q. read q) None (sym h)

pub up_to-some : {A : Type 0} (k : Sort) (x : A) (pieces rest : Lexemes) → Some rest ≡ taken k pieces → up_to_piece k x pieces ≡ Some (x, rest)
unfolding up_to_piece taken
up_to-some k x pieces rest h = chosen (same k (sort pieces)) (behind pieces) (Some rest) (λ q. Some (x, q)) None (sym h)

pub up_to-none : {A : Type 0} (k : Sort) (x : A) (pieces : Lexemes) → None ≡ taken k pieces → up_to_piece k x pieces ≡ None
unfolding up_to_piece taken
up_to-none k x pieces h = chosen (same k (sort pieces)) (behind pieces) None (λ q. Some (x, q)) None (sym h)

pub ruleset piece_steps = (after-some, after-none, up_to-some, up_to-none)

-- a list from its last item
pub map-last : {A B : Type 0} (f : A → B) (names rest : List A) (name : A) → names ≡ rest ++ name ∷ [] → map f rest ++ f name ∷ [] ≡ map f names
map-last f names rest name h = subst (λ l. map f rest ++ f name ∷ [] ≡ map f l) (sym h) (split rest)
  where
    split : (xs : _) → map f xs ++ f name ∷ [] ≡ map f (xs ++ name ∷ [])
    split [] = refl
    split (x ∷ xs) = ap (λ l. f x ∷ l) (split xs)

pub ruleset mapped_steps = (map-last)

-- what stands behind a type is all that is meant
pub led-last : {A B : Type 0} (x : A) (o : Option (B × Lexemes)) → going_on (paired x o) (λ p rest. Some (p.1, rest)) ≡ o
unfolding going_on paired
led-last x None = refl
led-last x (Some read) = refl

pub ruleset led_steps = (led-last)

-- a name of one letter, or of none or more
pub letter-only : (codes : List ℕ) → letter_of (Name codes) ≡ only_one codes
unfolding letter_of only_one
letter-only [] = refl
letter-only (c ∷ []) = refl
letter-only (c ∷ d ∷ codes) = refl

pub letter-alone : (codes : List ℕ) (letter : ℕ) → only_one codes ≡ Some letter → letter_of (Name codes) ≡ Some letter
letter-alone codes letter h = letter-only codes ∙ h

pub letter-none : (codes : List ℕ) → only_one codes ≡ None → letter_of (Name codes) ≡ None
letter-none codes h = letter-only codes ∙ h

pub ruleset letter_steps = (letter-alone, letter-none)

-- a form where what it says passes a test
pub where-going : {A : Type 0} (test : A → Bool) (read : Reader A) (pieces : Lexemes) → where' test read pieces ≡ going_on (read pieces) (where_passes test)
unfolding where'
where-going test read pieces = refl

pub ruleset where_steps = (where-going)
