use Rattle.std.proofs.Common.{◌≡◌, take}
use Rattle.f_tree.specs.Values.{Bytes}
use Rattle.declaration_rows.specs.GivenRows.{is_block_in}
use Rattle.name_table.specs.Named.{value_of}
use Rattle.name_places.specs.FirstPlaces.{first_at}
use Rattle.given_judge.proofs.block_rows.block_places.Given as goal

abbrev pub invariant-loop-at : goal.invariant-loop-at
invariant-loop-at l = (q : Bytes) → value_of l.places q ≡ first_at (is_block_in q) (take l.at l.statements)
