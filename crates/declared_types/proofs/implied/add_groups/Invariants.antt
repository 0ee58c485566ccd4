use Rattle.std.proofs.Common.{◌≡◌, ◌++◌, drop}
use Rattle.declared_types.specs.TypeTables.{groups_in}
use Rattle.declared_types.proofs.implied.add_groups.Given as goal

abbrev pub invariant-loop-item : goal.invariant-loop-item
invariant-loop-item l = groups_in l.initial.groups.items ++ l.items ≡ groups_in l.groups.items ++ drop l.item-index l.items
