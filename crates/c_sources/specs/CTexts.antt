-- The bytes of a C file as they are judged (C89, 2.2.4.1 lets a processor have limits).
use Rattle.std.specs.Prelude.{ℕ, List, [], ◌∷◌, ◌++◌, length, take, nat_le, if◌then◌else◌}

-- the most bytes of a C file; the byte past them counts as one that no C file has
abbrev pub most_bytes : ℕ
most_bytes = 67108864

abbrev pub judged : List ℕ → List ℕ
judged bytes = if nat_le (length bytes) most_bytes then bytes else take most_bytes bytes ++ 0 ∷ []
