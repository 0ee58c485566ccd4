-- The lines of a file. ANSI X3.9-1978, section 3.2.
use Rattle.std.specs.Prelude.{ℕ, Bool, ◌||◌, ◌==◌, List, [], ◌∷◌, if◌then◌else◌}
use Rattle.std.specs.Str.{bytes_eq}

-- A byte before lines: it begins the first of them.
unfoldable pub before_lines : ℕ → List (List ℕ) → List (List ℕ)
before_lines b [] = (b ∷ []) ∷ []
before_lines b (line ∷ more) = (b ∷ line) ∷ more

-- The lines of a file, each with the line feed that ends it. A last line without one counts.
unfoldable pub lines : List ℕ → List (List ℕ)
lines [] = []
lines (b ∷ rest) = if b == 10 then (b ∷ []) ∷ lines rest else before_lines b (lines rest)

-- The end of a line: a line feed, or a carriage return and a line feed.
unfoldable pub is_line_end : List ℕ → Bool
is_line_end bytes = bytes_eq bytes (10 ∷ []) || bytes_eq bytes (13 ∷ 10 ∷ [])

-- A line without its end.
unfoldable pub without_end : List ℕ → List ℕ
without_end [] = []
without_end (b ∷ rest) = if is_line_end (b ∷ rest) then [] else b ∷ without_end rest
