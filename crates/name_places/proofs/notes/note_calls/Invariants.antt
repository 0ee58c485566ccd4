use Rattle.std.proofs.Common.{◌≡◌, drop}
use Rattle.f_tree.specs.Values.{Bytes}
use Rattle.name_uses.specs.UsesSeen.{used_in}
use Rattle.name_places.specs.FirstPlaces.{noted, called_names}
use Rattle.name_places.proofs.notes.note_calls.Given as goal

abbrev pub invariant-loop-one : goal.invariant-loop-one
invariant-loop-one l = (q : Bytes) → noted l.at l.initial.places (called_names (used_in l.uses)) q ≡ noted l.at l.places (called_names (used_in (drop l.one-index l.uses))) q
