-- Whether a name is one of some names.
use Rattle.std.specs.Prelude.{ℕ, Bool, List, is_some}
use Rattle.first_names.specs.FirstNames.{first_of}
use Rattle.first_names.specs.declared.FirstNames.{FirstNames}

abbrev pub has : FirstNames (Unit {0}) → List ℕ → Bool
has names name = is_some (first_of names name)
