-- How far one thing begins behind another, as equations say. ANSI X3.9-1978, sections 8.2 (EQUIVALENCE), 8.3 (COMMON) and 17.1 (storage
-- association).
use Rattle.std.specs.Prelude.{◌≡◌, ℕ, ◌+◌, ◌<◌, ℤ, pos, ◌+ℤ◌, neg_ℤ, nat_abs, List, [], ◌∷◌}
use Rattle.f_tree.specs.Setting.{IsIn}
use Rattle.offset_classes.specs.declared.nodes.Equation.{Equation}

-- `other` begins so many units behind `one`
pub record Link (N : Type 0) : Type 0 where
  pub one : N
  pub other : N
  pub by : ℤ

-- `y` begins so many units behind `x`, by a way along the equations, each taken either way
pub data Stands {N : Type 0} (ls : List (Link N)) (x : N) : N → ℤ → Type 0 where
  itself : (y : N) (d : ℤ) → y ≡ x → d ≡ pos 0 → Stands ls x y d
  onward : (y z : N) (c d : ℤ) (l : Link N) → IsIn l ls → Stands ls x y c → l.one ≡ y → l.other ≡ z → d ≡ c +ℤ l.by → Stands ls x z d
  backward : (y z : N) (c d : ℤ) (l : Link N) → IsIn l ls → Stands ls x y c → l.other ≡ y → l.one ≡ z → d ≡ c +ℤ neg_ℤ l.by → Stands ls x z d

-- nothing begins elsewhere than where it begins
pub record AreConsistent {N : Type 0} (ls : List (Link N)) : Type 0 where
  pub nowhere_else : (x : N) (d : ℤ) → Stands ls x x d → d ≡ pos 0

-- something begins elsewhere than where it begins
pub record AreContradictory {N : Type 0} (ls : List (Link N)) : Type 0 where
  pub at : N
  pub by : ℤ
  pub is : Stands ls at at by
  pub elsewhere : by ≡ pos 0 → ⊥

-- the sum of the distances
unfoldable pub reach : {N : Type 0} → List (Link N) → ℕ
reach [] = 0
reach (l ∷ ls) = nat_abs l.by + reach ls

-- each equation is between numbers below a bound
pub record AreBelow (n : ℕ) (ls : List (Link ℕ)) : Type 0 where
  pub each : (l : Link ℕ) → IsIn l ls → (l.one < n) × (l.other < n)

-- equations between numbers
abbrev pub link_of : Equation → Link ℕ
link_of e = record { one = e.one; other = e.other; by = e.by }

unfoldable pub links_of : List Equation → List (Link ℕ)
links_of [] = []
links_of (e ∷ es) = link_of e ∷ links_of es
