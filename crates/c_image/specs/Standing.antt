-- When the store of a FORTRAN run stands in the objects of a C run: each defined unit by its byte, each object with room for its
-- sequence, and all else that is held. An undefined unit owes nothing. ANSI X3.9-1978, sections 2.13 and 17.1.
use Rattle.std.specs.Prelude.{◌≡◌, ℕ, ◌<◌, ◌≤◌, true, List, length, Option, Some, slice_get}
use Rattle.faithful.specs.f_tree.Values.{in_range}
use Rattle.faithful.specs.f_tree.Store.{Store, Sequence, Cell, Undefined, Chr, Part}
use Rattle.faithful.specs.c_tree.Objects.{Object, Bytes}
use Rattle.faithful.specs.StorageImage.{number_for, UnitsStand}
use Rattle.c_image.specs.World.{World, Sane}

-- a character is a byte, and a value has 32 bits
abbrev pub IsInRange : Cell → Type 0
IsInRange Undefined = Unit {0}
IsInRange (Chr character) = character < 256
IsInRange (Part whole place) = in_range (number_for whole) ≡ true

abbrev pub AreInRange : List Cell → Type 0
AreInRange cells = (place : ℕ) (cell : Cell) → slice_get cells place ≡ Some cell → IsInRange cell

-- an object of at least so many bytes
pub record HasRoom (count : ℕ) (object : Option Object) : Type 0 where
  pub bytes : List (Option ℕ)
  pub is : object ≡ Some (Bytes bytes)
  pub room : count ≤ length bytes

-- a sequence is as the world knows it, and its object has room for it
pub record IsHoused (μ : World) (objects : List Object) (n : ℕ) (q : Sequence) : Type 0 where
  pub sized : length q.cells ≡ μ.size n
  pub locked : q.read_only ≡ μ.fixed n
  pub in_range : AreInRange q.cells
  pub room : (object : ℕ) → μ.homes n ≡ Some object → HasRoom (length q.cells) (slice_get objects object)

-- THE STORE STANDS IN THE OBJECTS
pub record Stands (μ : World) (store : Store) (objects : List Object) : Type 0 where
  pub sane : Sane μ
  pub as_high : length store ≡ μ.height
  pub housed : (n : ℕ) (q : Sequence) → slice_get store n ≡ Some q → IsHoused μ objects n q
  pub units : UnitsStand store objects μ.homes
  pub held : (k : ℕ) (object : Object) → μ.frozen k ≡ Some object → slice_get objects k ≡ Some object
