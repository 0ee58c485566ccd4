-- Values that C objects hold: a number or a truth value in four bytes, a text in as many as it has characters.
-- ANSI X3.9-1978, sections 4 and 2.13; C89, 3.1.2.5.
use Rattle.std.specs.Prelude.{◌≡◌, ℕ, ◌<◌, ℤ, true, List, map, length, take, Option, Some, None}
use Rattle.faithful.specs.f_tree.Values.{Datum, IsInt, IsLog, IsText, in_range}
use Rattle.faithful.specs.f_tree.Store.{Whole, Number, Truth}
use Rattle.faithful.specs.c_tree.Objects.{Object, Bytes, bytes_of_number}
use Rattle.faithful.specs.StorageImage.{number_for}
use Rattle.faithful.specs.UnitsAtStart.{AreBytes}

-- what a numeric storage unit with a datum holds
abbrev pub whole_for : Datum → Option Whole
whole_for (IsInt z) = Some (Number z)
whole_for (IsLog b) = Some (Truth b)
whole_for _ = None

-- the four bytes of a number
abbrev pub number_object : ℤ → Object
number_object number = Bytes (map Some (bytes_of_number number))

-- the bytes begin with those of a value
abbrev pub BeginWith : Datum → List (Option ℕ) → Type 0
BeginWith (IsInt z) bytes = (in_range z ≡ true) × (take 4 bytes ≡ map Some (bytes_of_number z))
BeginWith (IsLog b) bytes = take 4 bytes ≡ map Some (bytes_of_number (number_for (Truth b)))
BeginWith (IsText cs) bytes = (length cs < 2147483648) × AreBytes cs × (take (length cs) bytes ≡ map Some cs)
BeginWith other bytes = ⊥

-- an object holds a value from its start on
pub record Holds (object : Option Object) (d : Datum) : Type 0 where
  pub bytes : List (Option ℕ)
  pub is : object ≡ Some (Bytes bytes)
  pub begins : BeginWith d bytes
