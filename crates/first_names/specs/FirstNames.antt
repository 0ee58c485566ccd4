-- The value that a name was given first.
use Rattle.std.specs.Prelude.{ℕ, List, Option, Some, None, bytes_eq}
use Rattle.std.specs.Map.{lookup}
use Rattle.first_names.specs.declared.FirstNames.{FirstNames}

unfoldable pub first_of : {V : Type 0} → FirstNames V → List ℕ → Option V
first_of names q = lookup (λ key. bytes_eq q key.now) names.values.entries

-- what was given before, or else later
abbrev pub or_later : {V : Type 0} → Option V → Option V → Option V
or_later (Some before) later = Some before
or_later None later = later
