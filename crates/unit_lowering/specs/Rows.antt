-- What the first of a row make together, each joined to those before it.
use Rattle.std.specs.Prelude.{ℕ, zero, suc}

unfoldable pub joined : {A : Type 0} → (A → A → A) → A → (ℕ → A) → ℕ → A
joined join none each zero = none
joined join none each (suc n) = join (joined join none each n) (each n)

unfoldable pub rows_opened : Unit {0}
unfolding joined
rows_opened = tt
