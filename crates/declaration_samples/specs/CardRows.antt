-- The rows that small programs break, each by its card and its number.
use Rattle.std.specs.Prelude.{ℕ, List, [], ◌∷◌, ◌++◌, map}
use Rattle.declaration_rows.specs.f_tree.declared.refusals.Refusal.{Refusal}
use Rattle.declaration_rows.specs.f_tree.declared.units.FileSet.{FileSet}
use Rattle.declaration_rows.specs.f_tree.RefusalRows.{number_of}
use Rattle.declaration_rows.specs.f_tree.Runs.{no_options}
use Rattle.declaration_rows.specs.SetRows.{set_faults}
use Rattle.declaration_rows.specs.Verdicts.{storage_faults, shared_faults}

pub record Row : Type 0 where
  pub card : ℕ
  pub number : ℕ

unfoldable pub row_of : Refusal → Row
row_of r = record { card = r.card; number = number_of r.kind }

unfoldable pub at_card : ℕ → ℕ → Row
at_card card number = record { card = card; number = number }

-- the rows of a set, in the order of their judgement
unfoldable pub rows_of : FileSet → List Row
rows_of set = map row_of (set_faults no_options set)

-- those of what its units share
unfoldable pub shared_rows_of : FileSet → List Row
shared_rows_of set = map row_of (shared_faults no_options set)

-- those of the storage of its units
unfoldable pub storage_rows_of : FileSet → List Row
storage_rows_of set = map row_of (storage_faults no_options set)

unfoldable pub later_rows_of_all : List FileSet → List Row
later_rows_of_all [] = []
later_rows_of_all (set ∷ sets) = (storage_rows_of set ++ shared_rows_of set) ++ later_rows_of_all sets

unfoldable pub rows_of_all : List FileSet → List Row
rows_of_all [] = []
rows_of_all (set ∷ sets) = rows_of set ++ rows_of_all sets

unfoldable pub card_rows_opened : Unit {0}
unfolding row_of at_card rows_of shared_rows_of storage_rows_of later_rows_of_all rows_of_all
card_rows_opened = tt
