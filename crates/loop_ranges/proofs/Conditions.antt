-- Conditions that hold one beside the other, by cases, and equal numbers.
use Rattle.std.proofs.Common.{◌≡◌, ℕ, suc, Bool, true, false, ◌&&◌, ◌||◌, List, [], ◌∷◌, ◌++◌, length, nat_eq, refl, ap, arith}
use Rattle.std.proofs.lemmas.Bool.Decides.{nat_tests}

pub or_none : (b : Bool) → (b || false) ≡ b
or_none true = refl
or_none false = refl

pub or_some : (b : Bool) → (b || true) ≡ true
or_some true = refl
or_some false = refl

pub or_along : (a b c : Bool) → ((a || b) || c) ≡ (a || (b || c))
or_along true b c = refl
or_along false b c = refl

pub and_none : (b : Bool) → (b && false) ≡ false
and_none true = refl
and_none false = refl

pub by_bool : (P : Type 0) (b : Bool) → (b ≡ true → P) → (b ≡ false → P) → P
by_bool P true yes' no' = yes' refl
by_bool P false yes' no' = no' refl

pub equal_by : (k l : ℕ) → nat_eq k l ≡ true → k ≡ l
equal_by k l h = grind (arith, nat_tests)

-- one element more
pub length_more : {X : Type 0} (xs : List X) (x : X) → length (xs ++ x ∷ []) ≡ suc (length xs)
length_more [] x = refl
length_more (y ∷ xs) x = ap suc (length_more xs x)
