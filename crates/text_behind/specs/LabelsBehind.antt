-- Where the labels of a text stand behind so many steps, one label after the other. ANSI X3.9-1978, section 3.4.
use Rattle.std.specs.Prelude.{ℕ, ◌+◌, nat_eq, Option, Some, None, if◌then◌else◌}

-- one label is noted over those that are noted
unfoldable pub one_behind : ℕ → ℕ → ℕ × ℕ → Option ℕ → Option ℕ
one_behind first q e noted = if nat_eq q e.0 then Some (first + e.1) else noted

unfoldable pub place_behind : ℕ → ℕ → Option (ℕ × ℕ) → Option ℕ → Option ℕ
place_behind first q None noted = noted
place_behind first q (Some e) noted = one_behind first q e noted

unfoldable pub labels_behind_opened : Unit {0}
unfolding one_behind place_behind
labels_behind_opened = tt
