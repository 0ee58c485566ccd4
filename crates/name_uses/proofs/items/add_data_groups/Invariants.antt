use Rattle.std.proofs.Common.{◌≡◌, ◌++◌, drop}
use Rattle.f_tree.specs.Uses.{all_of, uses_of_place, uses_of_data}
use Rattle.f_tree.specs.declared.statements.DataGroup.{DataGroup}
use Rattle.name_uses.specs.UsesSeen.{used_in}
use Rattle.name_uses.proofs.items.add_data_groups.Given as goal

abbrev pub invariant-loop-group : goal.invariant-loop-group
invariant-loop-group l =
    used_in l.initial.uses.items ++ all_of (λ (g : DataGroup). all_of uses_of_place g.places ++ all_of uses_of_data g.values) l.groups ≡ used_in l.uses.items ++ all_of (λ (g : DataGroup). all_of uses_of_place g.places ++ all_of uses_of_data g.values) (drop l.group-index l.groups)
