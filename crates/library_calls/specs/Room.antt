-- How long a buffer is in which the library puts a text together.
use Rattle.std.specs.Prelude.{◌≡◌, ℕ, ◌≤◌, List, Some, slice_get}
use Rattle.c_tree.specs.Objects.{Object, extent}

-- no object has more bytes or values
abbrev pub HasRoom : ℕ → List Object → Type 0
HasRoom size objects = (number : ℕ) → (object : Object) → slice_get objects number ≡ Some object → extent object ≤ size
