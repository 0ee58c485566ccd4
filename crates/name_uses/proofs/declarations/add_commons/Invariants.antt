use Rattle.std.proofs.Common.{◌≡◌, ◌++◌, drop}
use Rattle.f_tree.specs.Uses.{all_of, uses_of_array}
use Rattle.f_tree.specs.declared.statements.CommonGroup.{CommonGroup}
use Rattle.name_uses.specs.UsesSeen.{used_in}
use Rattle.name_uses.proofs.declarations.add_commons.Given as goal

abbrev pub invariant-loop-group : goal.invariant-loop-group
invariant-loop-group l =
    used_in l.initial.uses.items ++ all_of (λ (g : CommonGroup). all_of uses_of_array g.items) l.groups ≡ used_in l.uses.items ++ all_of (λ (g : CommonGroup). all_of uses_of_array g.items) (drop l.group-index l.groups)
