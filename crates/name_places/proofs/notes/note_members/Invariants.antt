use Rattle.std.proofs.Common.{◌≡◌, drop, map}
use Rattle.f_tree.specs.Values.{Bytes}
use Rattle.f_tree.specs.declared.statements.ArrayDeclarator.{ArrayDeclarator}
use Rattle.name_places.specs.FirstPlaces.{noted}
use Rattle.name_places.proofs.notes.note_members.Given as goal

abbrev pub invariant-loop-item : goal.invariant-loop-item
invariant-loop-item l = (q : Bytes) → noted l.at l.initial.places (map (λ (d : ArrayDeclarator). d.name) l.items) q ≡ noted l.at l.places (map (λ (d : ArrayDeclarator). d.name) (drop l.item-index l.items)) q
