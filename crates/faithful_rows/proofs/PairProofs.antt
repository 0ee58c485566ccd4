-- In which objects the sequences of a worked pair stand.
use Rattle.std.specs.Prelude.{ℕ, List, slice_get}
use Rattle.faithful.specs.StorageImage.{Homes}

-- the objects of sequences by their numbers
abbrev pub homes_from : List ℕ → Homes
homes_from numbers n = slice_get numbers n
