-- The steps of a text stand behind those that were put before them.
use Rattle.std.specs.Prelude.{◌≡◌, ℕ, zero, suc, ◌+◌, ◌<◌, List, length, drop, Some, slice_get}
use Rattle.std.proofs.Common.{refl, ap, ◌∙◌, arith}
use Rattle.procedure_emission.specs.l_core.Steps.{Step, Pass}
use Rattle.behind_bounds.specs.BehindBounds.{steps_behind, StepsStandBehind}

pub placed_at : (first : ℕ) (steps : List Step) (n at : ℕ) → at ≡ first + n → slice_get (steps_behind first steps) at ≡ slice_get steps n
unfolding steps_behind
placed_at zero steps n at is = ap (slice_get steps) (let e : at ≡ n = omega (arith, is) in e)
placed_at (suc first) steps n zero is = absurd (omega (arith, is))
placed_at (suc first) steps n (suc at) is = placed_at first steps n at (omega (arith, is))

pub passed_at : (first : ℕ) (steps : List Step) (n : ℕ) → n < first → slice_get (steps_behind first steps) n ≡ Some Pass
unfolding steps_behind
passed_at zero steps n below = absurd (omega (arith, below))
passed_at (suc first) steps zero below = refl
passed_at (suc first) steps (suc n) below = passed_at first steps n (omega (arith, below))

pub length_behind : (first : ℕ) (steps : List Step) → length (steps_behind first steps) ≡ first + length steps
unfolding steps_behind
length_behind zero steps = let e : length steps ≡ 0 + length steps = omega arith in e
length_behind (suc first) steps = let one = length_behind first steps in let e : suc (first + length steps) ≡ suc first + length steps = omega arith in ap suc one ∙ e

pub dropped_behind : (first : ℕ) (steps : List Step) → drop first (steps_behind first steps) ≡ steps
unfolding steps_behind
dropped_behind zero steps = refl
dropped_behind (suc first) steps = dropped_behind first steps

pub steps_stand_behind : StepsStandBehind
steps_stand_behind first u = record {
  places = λ n. placed_at first u.steps n (first + n) refl;
  before = λ n below. passed_at first u.steps n below;
  long = length_behind first u.steps;
  rest = dropped_behind first u.steps;
}
