-- Names by numbers, as a table tells them. ANSI X3.9-1978, section 17.1.
use Rattle.std.specs.Prelude.{◌≡◌, ℕ, ◌<◌, ◌≤◌, [], length, slice_index_or, Some}
use Rattle.f_tree.specs.Values.{Bytes}
use Rattle.name_table.specs.Named.{value_of, texts}
use Rattle.unit_equations.specs.declared.numbers.Numbers.{Numbers}

abbrev pub count_of : Numbers → ℕ
count_of t = length (texts t.names.items)

abbrev pub name_at : Numbers → ℕ → Bytes
name_at t i = slice_index_or (texts t.names.items) i []

-- the number of a name, below the count of names
pub record IsNumberOf (t : Numbers) (x : Bytes) (i : ℕ) : Type 0 where
  pub within : i < count_of t
  pub is : x ≡ name_at t i

-- the table has each name at its number, and no others
pub record AreNumbers (t : Numbers) : Type 0 where
  pub given : (x : Bytes) (i : ℕ) → value_of t.table x ≡ Some i → IsNumberOf t x i
  pub known : (i : ℕ) → i < count_of t → value_of t.table (name_at t i) ≡ Some i

-- names keep their numbers
pub record Keeps (old new : Numbers) : Type 0 where
  pub no_fewer : count_of old ≤ count_of new
  pub same : (i : ℕ) → i < count_of old → name_at new i ≡ name_at old i
