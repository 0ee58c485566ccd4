use Rattle.std.proofs.Common.{◌≡◌, ◌++◌, drop}
use Rattle.f_tree.specs.Uses.{all_of, uses_of_saved}
use Rattle.name_uses.specs.UsesSeen.{used_in}
use Rattle.name_uses.proofs.declarations.add_saved_items.Given as goal

abbrev pub invariant-loop-item : goal.invariant-loop-item
invariant-loop-item l =
    used_in l.initial.uses.items ++ all_of uses_of_saved l.items ≡ used_in l.uses.items ++ all_of uses_of_saved (drop l.item-index l.items)
