use Rattle.std.proofs.Common.{◌≡◌, ◌++◌, drop}
use Rattle.f_tree.specs.Uses.{all_of, uses_of_item}
use Rattle.name_uses.specs.UsesSeen.{used_in}
use Rattle.name_uses.proofs.items.+items.Given as goal

abbrev pub invariant-add_items-loop-item : goal.invariant-add_items-loop-item
invariant-add_items-loop-item l =
    used_in l.initial.uses.items ++ all_of uses_of_item l.items ≡ used_in l.uses.items ++ all_of uses_of_item (drop l.item-index l.items)
