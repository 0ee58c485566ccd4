-- What a C function knows of the names of its unit: how it reaches the place of each, the lengths and the bounds of its dummies, and
-- what its temporaries keep. It speaks of no store and of no objects, so that no statement changes it.
-- ANSI X3.9-1978, sections 5.1, 8.3, 15.9 and 18.
use Rattle.std.specs.Prelude.{◌≡◌, ◌≢◌, ℕ, ℤ, pos, true, Option, Some, slice_get}
use Rattle.faithful.specs.f_tree.Values.{Bytes, Spot, Datum, IsInt, IsSpot, Gives}
use Rattle.faithful.specs.f_tree.Facts.{Bounds, Facts, Frame}
use Rattle.faithful.specs.f_tree.Valuing.{whole, bounds_of, size_of_dimension}
use Rattle.faithful.specs.FrameImage.{HasLength}
use Rattle.c_image.specs.World.{World}
use Rattle.c_image.specs.Held.{Holds}
use Rattle.c_image.specs.Addresses.{Address, Through, Reaches, IsSound}
use Rattle.c_image.specs.Elements.{Quantity, Written, Saved}

-- what stands for the names of a unit in its C function
pub record Naming : Type 0 where
  -- how it reaches what a name stands for
  pub address : Bytes → Address
  -- the parameter with the length of a dummy of type CHARACTER
  pub length : Bytes → ℕ
  -- the lower bound and the size of each dimension of an array, counted from 0
  pub lower : Bytes → ℕ → Quantity
  pub size : Bytes → ℕ → Quantity
  -- the object of a temporary
  pub temporary : ℕ → ℕ

abbrev pub IsQuantity : World → Quantity → ℤ → Type 0
IsQuantity μ (Written number) z = number ≡ z
IsQuantity μ (Saved object) z = Holds (μ.frozen object) (IsInt z)

pub record Knows (μ : World) (naming : Naming) (facts : Facts) (frame : Frame) (temporaries : ℕ → Option Datum) : Type 0 where
  pub sound : (x : Bytes) (p : Spot) → whole facts frame x ≡ Gives (IsSpot p) → IsSound μ p
  pub reaches : (x : Bytes) (p : Spot) → whole facts frame x ≡ Gives (IsSpot p) → Reaches μ p (naming.address x)
  pub lengths : (x : Bytes) (n : ℕ) → HasLength (facts.program.attribute x) → frame.lengths x ≡ Some n → Holds (μ.frozen (naming.length x)) (IsInt (pos n))
  pub lowers : (x : Bytes) (k : ℕ) (b : Bounds) → slice_get (bounds_of facts frame x) k ≡ Some b → IsQuantity μ (naming.lower x k) b.lower
  pub sizes : (x : Bytes) (k : ℕ) (b : Bounds) (u : ℤ) → slice_get (bounds_of facts frame x) k ≡ Some b → b.upper ≡ Some u → IsQuantity μ (naming.size x k) (pos (size_of_dimension b))
  pub kept : (k : ℕ) (d : Datum) → temporaries k ≡ Some d → Holds (μ.frozen (naming.temporary k)) d

-- the object of a temporary is that of no other temporary, parameter, length, bound or size
pub record IsApart (naming : Naming) (k : ℕ) : Type 0 where
  pub temporaries : (j : ℕ) → naming.temporary j ≡ naming.temporary k → j ≡ k
  pub addresses : (x : Bytes) (parameter : ℕ) → naming.address x ≡ Through parameter → parameter ≢ naming.temporary k
  pub lengths : (x : Bytes) → naming.length x ≢ naming.temporary k
  pub lowers : (x : Bytes) (i saved : ℕ) → naming.lower x i ≡ Saved saved → saved ≢ naming.temporary k
  pub sizes : (x : Bytes) (i saved : ℕ) → naming.size x i ≡ Saved saved → saved ≢ naming.temporary k
