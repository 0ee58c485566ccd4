use Rattle.std.proofs.Common.{◌≡◌, drop, map}
use Rattle.f_tree.specs.Values.{Bytes}
use Rattle.f_tree.specs.declared.statements.Declarator.{Declarator}
use Rattle.name_places.specs.FirstPlaces.{noted}
use Rattle.name_places.proofs.notes.note_declarators.Given as goal

abbrev pub invariant-loop-item : goal.invariant-loop-item
invariant-loop-item l = (q : Bytes) → noted l.at l.initial.places (map (λ (d : Declarator). d.name) l.items) q ≡ noted l.at l.places (map (λ (d : Declarator). d.name) (drop l.item-index l.items)) q
