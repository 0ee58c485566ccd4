-- Elements that all pass a test, which takes the place of each, the first being counted from a number.
use Rattle.std.specs.Prelude.{ℕ, suc, Bool, true, ◌&&◌, List, [], ◌∷◌}

unfoldable pub all_from : {X : Type 0} → (ℕ → X → Bool) → ℕ → List X → Bool
all_from test i [] = true
all_from test i (x ∷ xs) = test i x && all_from test (suc i) xs
