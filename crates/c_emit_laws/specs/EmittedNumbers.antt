-- The C expression for a lowered value has the value. ANSI X3.9-1978, sections 5.4, 6 and 15.10; C89, 3.3.
use Rattle.std.specs.Prelude.{◌≡◌, ℕ, suc, ◌<◌, ℤ, pos, true, List, length, Some, slice_get}
use Rattle.c_emit.specs.f_tree.Values.{Bytes, Spot, Datum, IsSpot, Gives, in_range}
use Rattle.c_emit.specs.f_tree.Store.{Store, Whole}
use Rattle.c_emit.specs.f_tree.Facts.{Bounds, Frame}
use Rattle.c_emit.specs.f_tree.Valuing.{whole, bounds_of, size_of_dimension}
use Rattle.c_emit.specs.l_core.Pures.{Pure, Temporaries, meant}
use Rattle.c_emit.specs.c_tree.Access.{ToNumber}
use Rattle.c_emit.specs.c_tree.Objects.{Object}
use Rattle.c_emit.specs.c_tree.Terms.{Term}
use Rattle.c_emit.specs.c_image.World.{World}
use Rattle.c_emit.specs.c_image.Standing.{Stands}
use Rattle.c_emit.specs.c_image.Held.{whole_for}
use Rattle.c_emit.specs.c_image.Addresses.{access_to, IsSound}
use Rattle.c_emit.specs.c_image.Knowing.{Knows}
use Rattle.c_image_laws.specs.Meanings.{Means, IsPlace}
use Rattle.c_image_laws.specs.Statements.{IsAt}
use Rattle.c_emit.specs.Numbers.{Writing, has_number, value_term, place_term}

-- a bound, and the size of a dimension that has an upper one, have 32 bits
pub record BoundFits (b : Bounds) : Type 0 where
  pub lower : in_range b.lower ≡ true
  pub size : (u : ℤ) → b.upper ≡ Some u → in_range (pos (size_of_dimension b)) ≡ true

-- what a function knows of the names of its unit and of its temporaries is so, and places have the types of their names
pub record IsKnown (μ : World) (w : Writing) (frame : Frame) (temporaries : Temporaries) : Type 0 where
  pub knows : Knows μ w.naming w.facts frame temporaries
  pub spots : (x : Bytes) (d : Datum) → has_number w x ≡ true → whole w.facts frame x ≡ Gives d → (p : Spot) × (d ≡ IsSpot p)
  pub types : (x : Bytes) (p : Spot) → whole w.facts frame x ≡ Gives (IsSpot p) → p.basic ≡ (w.facts.program.attribute x).basic
  pub numbers : (k : ℕ) (d : Datum) → temporaries k ≡ Some d → w.is_number k ≡ true → (value : Whole) × (whole_for d ≡ Some value)
  pub bounds : (x : Bytes) (k : ℕ) (b : Bounds) → slice_get (bounds_of w.facts frame x) k ≡ Some b → BoundFits b
  -- each dimension but the last has an upper bound
  pub closed : (x : Bytes) (k : ℕ) (b : Bounds) → slice_get (bounds_of w.facts frame x) k ≡ Some b → suc k < length (bounds_of w.facts frame x) → (u : ℤ) × (b.upper ≡ Some u)

abbrev pub NumbersAreEmitted : Type 0
NumbersAreEmitted = (μ : World) (s : Store) (objects : List Object) (w : Writing) (frame : Frame) (temporaries : Temporaries) (p : Pure) (term : Term) (d : Datum) →
    Stands μ s objects → IsKnown μ w frame temporaries → value_term w p ≡ Some term → meant w.facts frame temporaries s p ≡ Gives d → Means objects term d

-- a sound place of a number, in an object, that the expression names
pub record IsNumberPlace (μ : World) (objects : List Object) (term : Term) (d : Datum) : Type 0 where
  pub place : Spot
  pub is : d ≡ IsSpot place
  pub sound : IsSound μ place
  pub numeric : access_to place.basic ≡ ToNumber
  pub object : ℕ
  pub at : IsAt μ place object
  pub named : IsPlace objects term object place.first ToNumber

abbrev pub PlacesAreEmitted : Type 0
PlacesAreEmitted = (μ : World) (s : Store) (objects : List Object) (w : Writing) (frame : Frame) (temporaries : Temporaries) (p : Pure) (term : Term) (d : Datum) →
    Stands μ s objects → IsKnown μ w frame temporaries → place_term w p ≡ Some term → meant w.facts frame temporaries s p ≡ Gives d → IsNumberPlace μ objects term d
