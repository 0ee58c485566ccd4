-- The bounds that a call fixes, name by name and dimension by dimension. ANSI X3.9-1978, sections 5.1.2, 5.5.1 and 15.9.3.
use Rattle.std.specs.Prelude.{◌≡◌, ℕ, List, length, Option, Some, None, slice_get}
use Rattle.l_core.specs.f_tree.Values.{Bytes, Gives}
use Rattle.l_core.specs.f_tree.Store.{Store}
use Rattle.l_core.specs.f_tree.Facts.{Dimension, Bounds, Facts, Frame}
use Rattle.l_core.specs.f_tree.Setting.{IsIn}
use Rattle.l_core.specs.f_tree.Association.{dimension_by, dimensions_by, all_dimensions_by, bounds_for}

-- the dimension whose bounds these are
pub record IsOfDimension (c : Facts) (f : Frame) (s : Store) (ds : List Dimension) (k : ℕ) (b : Bounds) : Type 0 where
  pub dimension : Dimension
  pub at : slice_get ds k ≡ Some dimension
  pub fixed : dimension_by c f s dimension ≡ Gives b

-- each dimension has bounds, in their order
pub record AreOfDimensions (c : Facts) (f : Frame) (s : Store) (ds : List Dimension) (bs : List Bounds) : Type 0 where
  pub as_many : length bs ≡ length ds
  pub each : (k : ℕ) (b : Bounds) → slice_get bs k ≡ Some b → IsOfDimension c f s ds k b

-- LAW
abbrev pub DimensionsAreFixed : Type 0
DimensionsAreFixed = (c : Facts) (f : Frame) (s : Store) (ds : List Dimension) (bs : List Bounds) → dimensions_by c f s ds ≡ Gives bs → AreOfDimensions c f s ds bs

-- a name that is among those to which the call gives bounds
pub record IsGivenBounds (c : Facts) (f : Frame) (s : Store) (names : List Bytes) (x : Bytes) (bs : List Bounds) : Type 0 where
  pub among : IsIn x names
  pub fixed : dimensions_by c f s (c.program.attribute x).dimensions ≡ Gives bs

-- what is found of a name: its bounds, or that it is not among them
abbrev pub IsFound : Facts → Frame → Store → List Bytes → Bytes → Option (List Bounds) → Type 0
IsFound c f s names x None = IsIn x names → ⊥
IsFound c f s names x (Some bs) = IsGivenBounds c f s names x bs

-- LAW
abbrev pub NamesAreFixed : Type 0
NamesAreFixed = (c : Facts) (f : Frame) (s : Store) (names : List Bytes) (all : List (List Bounds)) → all_dimensions_by c f s names ≡ Gives all → (x : Bytes) → IsFound c f s names x (bounds_for x names all)
