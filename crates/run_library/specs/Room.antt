-- How long the texts are that a library can put together (ANSI X3.9-1978, 6.2.2.2).
use Rattle.std.specs.Prelude.{◌≡◌, ℕ, ◌≤◌, List, Some, slice_get}
use Rattle.c_tree.specs.Objects.{Object, extent}

-- no object has more bytes or values
abbrev pub HasRoom : ℕ → List Object → Type 0
HasRoom size objects = (number : ℕ) → (object : Object) → slice_get objects number ≡ Some object → extent object ≤ size
