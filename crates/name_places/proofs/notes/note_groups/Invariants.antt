use Rattle.std.proofs.Common.{◌≡◌, drop, map}
use Rattle.f_tree.specs.Values.{Bytes}
use Rattle.f_tree.specs.declared.statements.ArrayDeclarator.{ArrayDeclarator}
use Rattle.f_tree.specs.Attributes.{members_of}
use Rattle.name_places.specs.FirstPlaces.{noted}
use Rattle.name_places.proofs.notes.note_groups.Given as goal

abbrev pub invariant-loop-group : goal.invariant-loop-group
invariant-loop-group l = (q : Bytes) → noted l.at l.initial.places (map (λ (d : ArrayDeclarator). d.name) (members_of l.groups)) q ≡ noted l.at l.places (map (λ (d : ArrayDeclarator). d.name) (members_of (drop l.group-index l.groups))) q
