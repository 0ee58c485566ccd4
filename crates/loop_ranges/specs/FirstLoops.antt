-- The first of the loops whose ranges end at a place, as a table has it.
use Rattle.std.specs.Prelude.{ℕ, nat_eq, Option}
use Rattle.std.specs.Map.{lookup}
use Rattle.loop_ranges.specs.declared.firsts.FirstLoops.{FirstLoops}

unfoldable pub first_at : FirstLoops → ℕ → Option ℕ
first_at firsts k = lookup (λ key. nat_eq k key) firsts.begins.entries
