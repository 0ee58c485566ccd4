-- What a function keeps of its dummy arrays: the object of each bound, and its value. ANSI X3.9-1978, sections 5.1.1 and 5.5.1.
use Rattle.std.specs.Prelude.{ℕ, suc, List, [], ◌∷◌}
use Rattle.bound_items.specs.BoundItems.{Saving}
use Rattle.unit_file.specs.UnitFile.{KeptBound, Inventory, Bases, first_bound}

-- those of some bounds, whose objects stand one behind the other from a number on
unfoldable pub savings_from : ℕ → List KeptBound → List Saving
savings_from first [] = []
savings_from first (one ∷ later) = record { object = first; value = one.value } ∷ savings_from (suc first) later

abbrev pub savings_of : Inventory → Bases → List Saving
savings_of v b = savings_from (first_bound v b) v.bounds

unfoldable pub unit_savings_opened : Unit {0}
unfolding savings_from
unit_savings_opened = tt
