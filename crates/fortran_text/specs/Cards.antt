-- The cards of a file: the columns of its lines. ANSI X3.9-1978, section 3.2: a line has 72 columns. Cards are numbered from 1.
use Rattle.std.specs.Prelude.{ℕ, suc, ◌+◌, ◌-◌, ◌==◌, List, [], ◌∷◌, ◌++◌, map, take, drop, max, replicate, if◌then◌else◌}
use Rattle.fortran_text.specs.Lines.{lines, without_end}

-- How many blanks a tab at a column stands for: in columns 1 to 6 it moves to column 7, elsewhere it is one blank.
unfoldable pub tab_width : ℕ → ℕ
tab_width column = max (7 - column) 1

-- The characters of a line from a column on, with blanks for each tab.
unfoldable pub spread : ℕ → List ℕ → List ℕ
spread column [] = []
spread column (b ∷ rest) =
    if b == 9 then replicate (tab_width column) 32 ++ spread (column + tab_width column) rest
    else b ∷ spread (suc column) rest

-- Columns 1 to 72 of a line, filled with blanks.
unfoldable pub columns_of : List ℕ → List ℕ
columns_of line = take 72 (spread 1 (without_end line) ++ replicate 72 32)

-- What stands past column 72. It is ignored, but where the words of the call say that it is refused.
unfoldable pub past_of : List ℕ → List ℕ
past_of line = drop 72 (spread 1 (without_end line))

-- A card: columns 1 to 72, and what stands past them.
pub record Card : Type 0 where
  pub columns : List ℕ
  pub past : List ℕ

unfoldable pub card_of : List ℕ → Card
card_of line = record { columns = columns_of line; past = past_of line }

unfoldable pub cards_of : List ℕ → List Card
cards_of bytes = map card_of (lines bytes)
