use Rattle.std.proofs.Common.{◌≡◌, drop}
use Rattle.f_tree.specs.Values.{Bytes}
use Rattle.name_table.specs.Named.{texts}
use Rattle.name_places.specs.FirstPlaces.{noted}
use Rattle.given_judge.proofs.block_rows.note_blocks.Given as goal

abbrev pub invariant-loop-name : goal.invariant-loop-name
invariant-loop-name l = (q : Bytes) → noted l.at l.initial.places (texts l.names) q ≡ noted l.at l.places (texts (drop l.name-index l.names)) q
