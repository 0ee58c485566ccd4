-- Texts, one character after the other.
use Rattle.std.specs.Prelude.{[], ◌∷◌}
use Rattle.f_tree.specs.Values.{Bytes}

-- the characters behind the first
unfoldable pub later : Bytes → Bytes
later [] = []
later (c ∷ cs) = cs
