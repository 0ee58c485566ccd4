-- What steps cost where the first one costs also what is kept before it.
use Rattle.std.specs.Prelude.{◌≡◌, ℕ, zero, suc, ◌+◌, ◌≤◌, List, [], ◌∷◌}
use Rattle.std.proofs.Common.{arith}
use Rattle.emitted_procedures.specs.l_core.Costs.{cost, rest}
use Rattle.unit_programs.specs.EmittedFile.{costs_behind}

pub costs_more : (first : ℕ) (costs : List ℕ) (n : ℕ) → cost costs n ≤ cost (costs_behind first costs) n
unfolding cost costs_behind
costs_more first [] n = omega arith
costs_more first (one ∷ later) zero = omega arith
costs_more first (one ∷ later) (suc n) = omega arith

pub costs_first : (first : ℕ) (costs : List ℕ) → first + cost costs 0 ≤ cost (costs_behind first costs) 0
unfolding cost costs_behind
costs_first first [] = omega arith
costs_first first (one ∷ later) = omega arith

pub costs_rest : (first : ℕ) (costs : List ℕ) → rest (costs_behind first costs) 0 ≡ first + rest costs 0
unfolding rest costs_behind
costs_rest first [] = omega arith
costs_rest first (one ∷ later) = omega arith
