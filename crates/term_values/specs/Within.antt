-- Which places of lists are within their objects.
use Rattle.std.specs.Prelude.{ℕ, ◌≤◌, List, Option, Some, None, slice_get}
use Rattle.c_tree.specs.declared.outcome.CValue.{CValue}
use Rattle.c_tree.specs.declared.outcome.CValue.TheVariants.{Pointer}
use Rattle.c_tree.specs.Access.{Access, ToNumber, ToChar, ToList, ToPointer}
use Rattle.c_tree.specs.Objects.{Object, Place, extent}

abbrev pub extent_of : Option Object → ℕ
extent_of None = 0
extent_of (Some object) = extent object

-- numbers and plain `char` are what held pointers point to
abbrev pub IsPointedTo : Access → Type 0
IsPointedTo ToNumber = Unit {0}
IsPointedTo ToChar = Unit {0}
IsPointedTo access = ⊥

-- a list is within its object, and a held pointer points to no list
abbrev pub IsWithin : List Object → Access → CValue → Type 0
IsWithin objects (ToList list_type) (Pointer object offset) = offset ≤ extent_of (slice_get objects object)
IsWithin objects (ToPointer through) at = IsPointedTo through
IsWithin objects access at = Unit {0}

-- a place of a list is within its object
pub record StandsWithin (objects : List Object) (place : Place) : Type 0 where
  pub within : IsWithin objects place.access place.at
