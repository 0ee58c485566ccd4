-- Which numbers a table has.
use Rattle.std.specs.Prelude.{ℕ, Bool, List, is_some, nat_eq}
use Rattle.std.specs.Map.{lookup}

abbrev pub has_number : ℕ → List (ℕ × Unit {0}) → Bool
has_number n entries = is_some (lookup (nat_eq n) entries)
