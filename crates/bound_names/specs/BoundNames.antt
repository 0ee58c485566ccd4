-- The names of what keeps the bounds of dummy arrays: they are told apart from each other, and from the other names that the translator makes for a function.
-- CSTR 149.
use Rattle.std.specs.Prelude.{◌≡◌, ◌≢◌, ℕ, ◌<◌, ◌≤◌, ◌^◌, ℤ, nat_abs, [], ◌∷◌, ◌++◌}
use Rattle.fortran_laws.specs.f_tree.CNames.{Bytes, variable_name, made_name, NumberTemporary, ConstantOf, ControlList, DimensionOf, LowerBoundOf}

-- the name of what keeps the lower bound of a dimension of an array, and of what keeps its size; the number of a dimension counts from 1
abbrev pub lower_name : Bytes → ℕ → Bytes
lower_name x k = made_name (LowerBoundOf (variable_name x) k)

abbrev pub size_name : Bytes → ℕ → Bytes
size_name x k = made_name (DimensionOf (variable_name x) k)

-- one of these names
pub data IsBoundName (name : Bytes) : Type 0 where
  of_lower : (x : Bytes) (k : ℕ) → k < 2 ^ 64 → name ≡ lower_name x k → IsBoundName name
  of_size : (x : Bytes) (k : ℕ) → k < 2 ^ 64 → name ≡ size_name x k → IsBoundName name

-- LAW
abbrev pub LowersAreTold : Type 0
LowersAreTold = (x y : Bytes) (k m : ℕ) → k < 2 ^ 64 → m < 2 ^ 64 → lower_name x k ≡ lower_name y m → (x ≡ y) × (k ≡ m)

-- LAW
abbrev pub SizesAreTold : Type 0
SizesAreTold = (x y : Bytes) (k m : ℕ) → k < 2 ^ 64 → m < 2 ^ 64 → size_name x k ≡ size_name y m → (x ≡ y) × (k ≡ m)

-- LAW
abbrev pub LowersAreNoSizes : Type 0
LowersAreNoSizes = (x y : Bytes) (k m : ℕ) → k < 2 ^ 64 → m < 2 ^ 64 → lower_name x k ≢ size_name y m

-- LAW
abbrev pub BoundsAreNoTemporaries : Type 0
BoundsAreNoTemporaries = (name : Bytes) (k : ℕ) → IsBoundName name → k < 2 ^ 64 → name ≢ made_name (NumberTemporary k)

-- LAW
abbrev pub BoundsAreNoLists : Type 0
BoundsAreNoLists = (name : Bytes) (k : ℕ) → IsBoundName name → k < 2 ^ 64 → name ≢ made_name (ControlList k)

-- LAW
abbrev pub BoundsAreNoConstants : Type 0
BoundsAreNoConstants = (name : Bytes) (z : ℤ) → IsBoundName name → nat_abs z < 2 ^ 64 → name ≢ made_name (ConstantOf z)

-- a byte that is no digit
abbrev pub IsNoDigit : ℕ → Type 0
IsNoDigit byte = 48 ≤ byte → byte < 58 → ⊥

-- LAW
-- so none is the variable for the result of a function, nor the name of a procedure, which has an underscore at its end
abbrev pub BoundsEndInDigits : Type 0
BoundsEndInDigits = (name front : Bytes) (byte : ℕ) → IsBoundName name → IsNoDigit byte → name ≢ front ++ byte ∷ []
