-- The arms of IF blocks that statements stand in, by the innermost of each: those around an arm are the ones that the statement stands in
-- which begins it.
use Rattle.std.specs.Prelude.{◌≡◌, ℕ, suc, ◌<◌, nat_eq, Bool, not, List, [], ◌∷◌, length, slice_index_or, Option, Some, None}
use Rattle.std.specs.List.{list_any}
use Rattle.f_tree.specs.declared.statements.Stmt.{Stmt}
use Rattle.f_tree.specs.Facts.{Mark, Plain, Opens, Arm, Closes}
use Rattle.declaration_rows.specs.BlockRows.{arms_from}

unfoldable pub arms_in : List Stmt → ℕ → List ℕ
arms_in ss place = arms_from place 0 [] ss

unfoldable pub enters_arm : List Stmt → ℕ → ℕ → Bool
enters_arm ss from to = list_any (λ arm. not (list_any (nat_eq arm) (arms_in ss from))) (arms_in ss to)

-- an innermost arm with those around it
unfoldable pub with_arm : List Stmt → Option ℕ → List ℕ
with_arm ss None = []
with_arm ss (Some arm) = arm ∷ arms_in ss arm

-- it begins before a place
unfoldable pub IsWithin : Option ℕ → ℕ → Type 0
IsWithin None n = Unit {0}
IsWithin (Some arm) n = arm < n

-- each begins before the statement that stands in it
pub record AreNumbered (arms : List (Option ℕ)) : Type 0 where
  pub within : (i : ℕ) → i < length arms → IsWithin (slice_index_or arms i None) i

pub record AreArms (ss : List Stmt) (arms : List (Option ℕ)) : Type 0 where
  pub chain : (i : ℕ) → i < length arms → arms_in ss i ≡ with_arm ss (slice_index_or arms i None)

-- how many places there are up to where it begins
unfoldable pub places_to : Option ℕ → ℕ
places_to None = 0
places_to (Some arm) = suc arm

-- the innermost arm that a statement stands in, and the one behind it
unfoldable pub arm_around : List (Option ℕ) → Option ℕ → Option ℕ
arm_around arms None = None
arm_around arms (Some arm) = slice_index_or arms arm None

unfoldable pub arm_at : List (Option ℕ) → Mark → Option ℕ → Option ℕ
arm_at arms Plain inner = inner
arm_at arms Opens inner = inner
arm_at arms Arm inner = arm_around arms inner
arm_at arms Closes inner = arm_around arms inner

unfoldable pub arm_instead : ℕ → Option ℕ → Option ℕ
arm_instead place None = None
arm_instead place (Some arm) = Some place

unfoldable pub arm_behind : Mark → ℕ → Option ℕ → Option ℕ → Option ℕ
arm_behind Plain place inner stands_in = inner
arm_behind Opens place inner stands_in = Some place
arm_behind Arm place inner stands_in = arm_instead place inner
arm_behind Closes place inner stands_in = stands_in
