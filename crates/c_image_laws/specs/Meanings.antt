-- When a C expression has the value of a FORTRAN one, or names its place, without a fault, and what stands after a store in C
-- (C89, 3.2.2.1 and 3.3).
use Rattle.std.specs.Prelude.{◌≡◌, ℕ, ℤ, pos, ◌-ℤ◌, true, List, [], ◌∷◌, length, slice_set, Option, Some, Ok}
use Rattle.c_image.specs.f_tree.Values.{Datum, IsInt}
use Rattle.c_image.specs.f_tree.Store.{Store, Whole}
use Rattle.c_image.specs.f_tree.Facts.{Bounds}
use Rattle.c_image.specs.f_tree.Valuing.{size_of_dimension}
use Rattle.c_laws.specs.c_tree.declared.outcome.CValue.TheVariants.{Number, Pointer}
use Rattle.c_laws.specs.c_tree.Access.{Access}
use Rattle.c_laws.specs.c_tree.Objects.{Object, Bytes, plain, fetched}
use Rattle.c_laws.specs.c_tree.Terms.{Term}
use Rattle.c_laws.specs.c_tree.Values.{in_range, seen}
use Rattle.c_image.specs.faithful.StorageImage.{number_for}
use Rattle.c_image.specs.World.{World, with_held}
use Rattle.c_image.specs.Standing.{Stands}
use Rattle.c_image.specs.Held.{whole_for, BeginWith}
use Rattle.c_image.specs.Elements.{Step}

-- the expression has this number as its value
abbrev pub IsNumber : List Object → Term → ℤ → Type 0
IsNumber objects term number = (seen objects term).value ≡ Ok (plain (Number number))

-- the number that stands for a number or a truth value
pub record Means (objects : List Object) (term : Term) (d : Datum) : Type 0 where
  pub whole : Whole
  pub is : whole_for d ≡ Some whole
  pub counts : IsNumber objects term (number_for whole)

-- each of them has the value of its operand
pub data AllMean (objects : List Object) : List Term → List Datum → Type 0 where
  none_mean : AllMean objects [] []
  more_mean : (term : Term) (terms : List Term) (d : Datum) (ds : List Datum) → Means objects term d → AllMean objects terms ds → AllMean objects (term ∷ terms) (d ∷ ds)

-- the expression points into an object, at so many bytes from its start
abbrev pub Points : List Object → Term → ℕ → ℕ → Access → Type 0
Points objects term object offset access = (seen objects term).value ≡ Ok (record { value = Pointer object offset; through = access })

-- the expression names a place there, and has the value that it holds
pub record IsPlace (objects : List Object) (term : Term) (object offset : ℕ) (access : Access) : Type 0 where
  pub names : (seen objects term).place ≡ Ok (record { at = Pointer object offset; access = access })
  pub holds : (seen objects term).value ≡ fetched objects (record { at = Pointer object offset; access = access })

-- ## Subscripts

-- by how much a subscript is more than its lower bound, where that has 32 bits
abbrev pub IsDistance : List Object → Bounds → ℤ → Term → Type 0
IsDistance objects b z term = in_range (z -ℤ b.lower) ≡ true → IsNumber objects term (z -ℤ b.lower)

-- the distances of the subscripts, and the size of each dimension but the last
pub data AreSteps (objects : List Object) : List Bounds → List Datum → List Step → Type 0 where
  no_steps : AreSteps objects [] [] []
  last_step : (b : Bounds) (z : ℤ) (step : Step) → IsDistance objects b z step.distance → AreSteps objects (b ∷ []) (IsInt z ∷ []) (step ∷ [])
  one_step : (b next : Bounds) (u z : ℤ) (bs : List Bounds) (ds : List Datum) (step following : Step) (later : List Step) → b.upper ≡ Some u → IsDistance objects b z step.distance →
      IsNumber objects step.size (pos (size_of_dimension b)) → AreSteps objects (next ∷ bs) ds (following ∷ later) →
      AreSteps objects (b ∷ next ∷ bs) (IsInt z ∷ ds) (step ∷ following ∷ later)

-- ## Stores

-- after a store in C the store of FORTRAN stands
pub record StandsAfter (μ : World) (s : Store) (after : List Object → Type 0) : Type 0 where
  pub objects : List Object
  pub stored : after objects
  pub stands : Stands μ s objects

-- after a store in a temporary it holds the value, and the store of FORTRAN stands as before
pub record Keeps (μ : World) (s : Store) (objects : List Object) (k : ℕ) (d : Datum) (size : ℕ) (after : List Object → Type 0) : Type 0 where
  pub bytes : List (Option ℕ)
  pub stored : after (slice_set objects k (Bytes bytes))
  pub same_size : length bytes ≡ size
  pub begins : BeginWith d bytes
  pub stands : Stands (with_held μ k (Some (Bytes bytes))) s (slice_set objects k (Bytes bytes))
