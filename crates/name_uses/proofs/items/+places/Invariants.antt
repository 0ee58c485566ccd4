use Rattle.std.proofs.Common.{◌≡◌, ◌++◌, drop}
use Rattle.f_tree.specs.Uses.{all_of, uses_of_place}
use Rattle.name_uses.specs.UsesSeen.{used_in}
use Rattle.name_uses.proofs.items.+places.Given as goal

abbrev pub invariant-add_places-loop-item : goal.invariant-add_places-loop-item
invariant-add_places-loop-item l =
    used_in l.initial.uses.items ++ all_of uses_of_place l.items ≡ used_in l.uses.items ++ all_of uses_of_place (drop l.item-index l.items)
