-- Two lists whose elements go together one by one, each pair with its number.
use Rattle.std.specs.Prelude.{ℕ, suc, List, [], ◌∷◌}

pub data Along {A B : Type 0} (Pair : ℕ → A → B → Type 0) : ℕ → List A → List B → Type 0 where
  no_pair : (n : ℕ) → Along Pair n [] []
  one_pair : (n : ℕ) (a : A) (b : B) (more : List A) (others : List B) → Pair n a b → Along Pair (suc n) more others → Along Pair n (a ∷ more) (b ∷ others)
