-- The names of the files that are made, as Output has them: each on a line of its own.
use Rattle.std.specs.Prelude.{ℕ, List, [], ◌∷◌, ◌++◌}

unfoldable pub listing : List (List ℕ) → List ℕ
listing [] = []
listing (name ∷ more) = name ++ 10 ∷ listing more
