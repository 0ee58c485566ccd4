-- The labels of an assigned GO TO, each once. ANSI X3.9-1978, section 11.3.
use Rattle.std.specs.List.{list_any}
use Rattle.std.specs.Prelude.{ℕ, nat_eq, List, [], ◌∷◌, if◌then◌else◌}

-- a label, unless it is one of those behind it
unfoldable pub unless_again : ℕ → List ℕ → List ℕ
unless_again label later = if list_any (λ other. nat_eq other label) later then [] else label ∷ []
