use Rattle.std.proofs.Common.{◌≡◌, ◌++◌, drop}
use Rattle.f_tree.specs.Uses.{all_of, uses_of_data}
use Rattle.name_uses.specs.UsesSeen.{used_in}
use Rattle.name_uses.proofs.items.add_data_values.Given as goal

abbrev pub invariant-loop-value : goal.invariant-loop-value
invariant-loop-value l =
    used_in l.initial.uses.items ++ all_of uses_of_data l.values ≡ used_in l.uses.items ++ all_of uses_of_data (drop l.value-index l.values)
