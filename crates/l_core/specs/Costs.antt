-- What the steps of a lowered unit cost, one number a step: a layer below says what. A way that comes to no step twice costs at most the
-- whole text.
use Rattle.std.specs.Prelude.{ℕ, zero, suc, ◌+◌, List, [], ◌∷◌}

-- the cost of the step at a position; nothing behind the last
unfoldable pub cost : List ℕ → ℕ → ℕ
cost [] n = 0
cost (c ∷ cs) zero = c
cost (c ∷ cs) (suc n) = cost cs n

-- the cost of the steps from a position on
unfoldable pub rest : List ℕ → ℕ → ℕ
rest [] n = 0
rest (c ∷ cs) zero = c + rest cs zero
rest (c ∷ cs) (suc n) = rest cs n
