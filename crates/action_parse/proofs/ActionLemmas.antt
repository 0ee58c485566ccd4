-- What stands behind a piece that is wanted, and lists at a fuel that code counts down, for statements that assign, branch and call.
use Rattle.std.specs.Prelude.{◌≡◌, ℕ, zero, suc, ◌-◌, ◌<◌, Bool, true, false, List, [], ◌∷◌, ◌++◌, Option, Some, None, if◌then◌else◌}
use Rattle.std.proofs.Common.{refl, sym, subst, arith}
use Rattle.fortran_grammar.specs.fortran_lexemes.Lexemes.{Lexemes}
use Rattle.fortran_grammar.specs.Forms.{Sort, sort, behind, Comma}
use Rattle.grammar_laws.specs.Exactness.{Reader}
use Rattle.grammar_laws.specs.FormReading.{same, going_on, items, up_to_piece}
use Rattle.expression_parse.specs.WantedPieces.{taken}
use Rattle.action_parse.specs.ActionSteps.{items_onward}
use Rattle.expression_parse.proofs.WantedLemmas.{after-some, after-none}

-- a choice by a piece that is wanted
chosen : {A : Type 0} (b : Bool) (pieces : Lexemes) (o : Option Lexemes) (f : Lexemes → A) (d : A)
    → (if b then Some pieces else None) ≡ o → (if b then f pieces else d) ≡ elim o [ None ↦ d | Some q ↦ f q ]
chosen true pieces o f d h = subst (λ o. f pieces ≡ elim o [ None ↦ d | Some q ↦ f q ]) h refl
chosen false pieces o f d h = subst (λ o. d ≡ elim o [ None ↦ d | Some q ↦ f q ]) h refl

pub up-to-some : {A : Type 0} (k : Sort) (x : A) (pieces rest : Lexemes) → taken k pieces ≡ Some rest → up_to_piece k x pieces ≡ Some (x, rest)
unfolding up_to_piece taken
up-to-some k x pieces rest h = chosen (same k (sort pieces)) (behind pieces) (Some rest) (λ q. Some (x, q)) None h

pub up-to-none : {A : Type 0} (k : Sort) (x : A) (pieces : Lexemes) → taken k pieces ≡ None → up_to_piece k x pieces ≡ None
unfolding up_to_piece taken
up-to-none k x pieces h = chosen (same k (sort pieces)) (behind pieces) None (λ q. Some (x, q)) None h

pub ruleset piece_steps = (after-some, after-none, up-to-some, up-to-none)

pub items-zero : {A : Type 0} (fuel : ℕ) (read : Reader A) (found : List A) (pieces : Lexemes) → fuel ≡ 0 → items fuel read found pieces ≡ None
unfolding items
items-zero zero read found pieces h = refl
items-zero (suc fuel) read found pieces h = absurd (omega arith)

pub items-step : {A : Type 0} (fuel : ℕ) (read : Reader A) (found : List A) (pieces : Lexemes) → 0 < fuel
    → items fuel read found pieces ≡ going_on (read pieces) (λ x rest. items_onward (fuel - 1) read (found ++ x ∷ []) rest)
unfolding items items_onward
items-step zero read found pieces h = absurd (omega arith)
items-step (suc fuel) read found pieces h = let e : suc fuel - 1 ≡ fuel = omega arith in rw e refl

pub onward-some : {A : Type 0} (fuel : ℕ) (read : Reader A) (found : List A) (pieces rest : Lexemes) → Some rest ≡ taken Comma pieces
    → items_onward fuel read found pieces ≡ items fuel read found rest
unfolding items_onward taken
onward-some fuel read found pieces rest h =
    chosen (same Comma (sort pieces)) (behind pieces) (Some rest) (λ q. items fuel read found q) (Some (found, pieces)) (sym h)

pub onward-none : {A : Type 0} (fuel : ℕ) (read : Reader A) (found : List A) (pieces : Lexemes) → None ≡ taken Comma pieces
    → items_onward fuel read found pieces ≡ Some (found, pieces)
unfolding items_onward taken
onward-none fuel read found pieces h =
    chosen (same Comma (sort pieces)) (behind pieces) None (λ q. items fuel read found q) (Some (found, pieces)) (sym h)

pub ruleset list_steps = (items-zero, items-step, onward-some, onward-none)
