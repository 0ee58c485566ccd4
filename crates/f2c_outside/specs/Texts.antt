-- The words of a command line and the names of files.
use Rattle.std.specs.Prelude.{ℕ, zero, suc, ◌<◌, ◌≤◌, List, length, Option, None, slice_get}

-- the word with this number, where words are counted from 1
abbrev pub word_at : ℕ → List (List ℕ) → Option (List ℕ)
word_at zero words = None
word_at (suc before) words = slice_get words before

-- a name has 1 to 255 bytes
pub record IsName (bytes : List ℕ) : Type 0 where
  pub some : 0 < length bytes
  pub short : length bytes ≤ 255
