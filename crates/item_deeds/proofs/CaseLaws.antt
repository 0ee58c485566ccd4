-- Where a number stands among cases whose numbers grow by one (C89, 3.6.4.2).
use Rattle.std.proofs.Common.{◌≡◌, ℕ, zero, suc, ◌+◌, ◌<◌, ◌≤◌, ℤ, pos, ◌+ℤ◌, Bool, true, false, if◌then◌else◌, refl, ap, ◌∙◌, arith}
use Rattle.std.specs.Prelude.{◌<ℤ◌, ◌≤ℤ◌, ◌-ℤ◌}
use Rattle.std.specs.Ordering.{int_eq}
use Rattle.std.specs.Int.RustNames.{unsigned_abs}
use Rattle.std.proofs.lemmas.Bool.Decides.{Decides-int_eq}
use Rattle.std.proofs.lemmas.Int.{ints}
use Rattle.c_tree.specs.Steps.{case_position}
use Rattle.linked_terms.specs.LinkedItems.{cases_on}

-- the position among the cases behind the first
abbrev behind : ℤ → ℤ → ℕ → ℕ → ℕ → ℕ
behind number first position count otherwise = case_position number (cases_on (first +ℤ pos 1) (position + 1) count) otherwise

at-first : (number first : ℤ) → number ≡ first → int_eq number first ≡ true
at-first number first is = (Decides-int_eq number first).1 is

never : (test : Bool) (P : Type 0) → (test ≡ true → P) → (P → ⊥) → test ≡ false
never true P means apart = absurd (apart (means refl))
never false P means apart = refl

past-first : (number first : ℤ) → (number ≡ first → ⊥) → int_eq number first ≡ false
past-first number first apart = never (int_eq number first) (number ≡ first) (Decides-int_eq number first).0 apart

-- the case whose place the number has
pub place-found : (count place : ℕ) (number first : ℤ) (position otherwise : ℕ) → number ≡ first +ℤ pos place → place < count →
    case_position number (cases_on first position count) otherwise ≡ position + place
unfolding cases_on
place-found zero place number first position otherwise is below = absurd (omega arith)
place-found (suc count) zero number first position otherwise is below =
    ap (λ test. if test then position else behind number first position count otherwise) (at-first number first (omega (arith, ints)))
    ∙ omega arith
place-found (suc count) (suc place) number first position otherwise is below =
    ap (λ test. if test then position else behind number first position count otherwise) (past-first number first (λ same. omega (arith, ints)))
    ∙ place-found count place number (first +ℤ pos 1) (position + 1) otherwise (omega (arith, ints)) (omega arith)
    ∙ omega arith

-- a number behind the last
pub place-past : (count place : ℕ) (number first : ℤ) (position otherwise : ℕ) → number ≡ first +ℤ pos place → count ≤ place →
    case_position number (cases_on first position count) otherwise ≡ otherwise
unfolding cases_on
place-past zero place number first position otherwise is past = refl
place-past (suc count) zero number first position otherwise is past = absurd (omega arith)
place-past (suc count) (suc place) number first position otherwise is past =
    ap (λ test. if test then position else behind number first position count otherwise) (past-first number first (λ same. omega (arith, ints)))
    ∙ place-past count place number (first +ℤ pos 1) (position + 1) otherwise (omega (arith, ints)) (omega arith)

-- a number before the first
pub place-before : (count : ℕ) (number first : ℤ) (position otherwise : ℕ) → number <ℤ first → case_position number (cases_on first position count) otherwise ≡ otherwise
unfolding cases_on
place-before zero number first position otherwise before = refl
place-before (suc count) number first position otherwise before =
    ap (λ test. if test then position else behind number first position count otherwise) (past-first number first (λ same. omega (arith, ints)))
    ∙ place-before count number (first +ℤ pos 1) (position + 1) otherwise (omega (arith, ints))

pub distance : (number first : ℤ) → first ≤ℤ number → number ≡ first +ℤ pos (unsigned_abs (number -ℤ first))
distance number first behind_it = omega (arith, ints)

pub ruleset case_laws = (place-found, place-past, place-before, distance)
