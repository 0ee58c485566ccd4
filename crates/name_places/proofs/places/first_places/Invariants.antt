use Rattle.std.proofs.Common.{take}
use Rattle.name_table.specs.Named.{names_in}
use Rattle.name_places.specs.FirstPlaces.{AreFirst}
use Rattle.name_places.proofs.places.first_places.Given as goal

abbrev pub invariant-loop-at : goal.invariant-loop-at
invariant-loop-at l = AreFirst (names_in l.arrays) (take l.at l.statements) l.places
