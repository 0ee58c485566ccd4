-- What is left at a cursor, and what its steps give.
use Rattle.std.specs.Prelude.{ℕ, List, [], ◌∷◌, Option, Some, None}
use Rattle.fortran_lexemes.specs.KindsOfStatements.{outside_parentheses}
use Rattle.stmt_lex.specs.Cursors.{left_in}
use Rattle.stmt_lex.specs.declared.cursor.Cursor.{Cursor}

abbrev pub left : Cursor → List ℕ
left cursor = left_in cursor.source

-- A character with what is left behind it; nothing at the end.
abbrev pub with_rest : Option (ℕ × Cursor) → List ℕ
with_rest None = []
with_rest (Some next) = next.0 ∷ left next.1

-- The same of the characters outside parentheses.
abbrev pub with_marks : Option (ℕ × Cursor) → List ℕ
with_marks None = []
with_marks (Some next) = next.0 ∷ outside_parentheses 0 (left next.1)
