-- Numbers of functions, of which none is active twice.
use Rattle.std.specs.Prelude.{◌≡◌, ℕ, ◌<◌, nat_eq, Bool, false, ◌||◌, List, [], ◌∷◌}

abbrev pub has : ℕ → List ℕ → Bool
has number [] = false
has number (first ∷ later) = nat_eq number first || has number later

-- each number stands once
abbrev pub Apart : List ℕ → Type 0
Apart [] = Unit {0}
Apart (number ∷ later) = (has number later ≡ false) × Apart later

abbrev pub Below : ℕ → List ℕ → Type 0
Below limit [] = Unit {0}
Below limit (number ∷ later) = (number < limit) × Below limit later
