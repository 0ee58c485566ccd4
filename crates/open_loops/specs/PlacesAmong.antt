-- What the ranges around statements make of them, as one walk over the statements of a unit finds it, given where each loop ends.
-- ANSI X3.9-1978, section 11.10.
use Rattle.std.specs.Prelude.{◌≡◌, ℕ, List, [], ◌∷◌, ◌++◌, length, Option, Some, slice_get}
use Rattle.f_tree.specs.declared.statements.Stmt.{Stmt}
use Rattle.f_tree.specs.Nests.{Range}
use Rattle.name_facts.specs.declared.table.NameFacts.{NameFacts}
use Rattle.open_loops.specs.declared.places.LoopPlace.{LoopPlace}
use Rattle.open_loops.specs.declared.walk.Around.{Around}
use Rattle.open_loops.specs.OpenRanges.{open_by, ended_among, innermost_first}
use Rattle.open_loops.specs.KeptTemporaries.{IsFreeAmong}

-- the ranges that are open
pub record AreAround (table : NameFacts) (ss : List Stmt) (rs : List Range) (around : Around) : Type 0 where
  pub ranges : innermost_first around.loops.items ≡ rs
  pub free : IsFreeAmong table ss rs around.free

-- a statement more
pub record IsPlaceAdded (free : ℕ) (ended : List ℕ) (before after : List LoopPlace) : Type 0 where
  pub place : LoopPlace
  pub added : after ≡ before ++ place ∷ []
  pub free_is : place.free ≡ free
  pub ended_is : place.ended.items ≡ ended

-- what ranges make of a statement
pub record IsPlaceAmong (table : NameFacts) (ss : List Stmt) (rs : List Range) (i : ℕ) (place : LoopPlace) : Type 0 where
  pub free : IsFreeAmong table ss rs place.free
  pub ended : place.ended.items ≡ ended_among i rs

-- of so many statements, given where the loops end
pub record ArePlacesUpTo (table : NameFacts) (ss : List Stmt) (ends : List (Option ℕ)) (n : ℕ) (places : List LoopPlace) : Type 0 where
  pub count : length places ≡ n
  pub each : (i : ℕ) (place : LoopPlace) → slice_get places i ≡ Some place → IsPlaceAmong table ss (open_by ends i) i place
