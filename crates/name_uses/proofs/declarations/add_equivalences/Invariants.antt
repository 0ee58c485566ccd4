use Rattle.std.proofs.Common.{◌≡◌, ◌++◌, drop}
use Rattle.f_tree.specs.Uses.{all_of, uses_of}
use Rattle.f_tree.specs.declared.statements.EquivalenceGroup.{EquivalenceGroup}
use Rattle.name_uses.specs.UsesSeen.{used_in}
use Rattle.name_uses.proofs.declarations.add_equivalences.Given as goal

abbrev pub invariant-loop-group : goal.invariant-loop-group
invariant-loop-group l =
    used_in l.initial.uses.items ++ all_of (λ (g : EquivalenceGroup). all_of uses_of g.places) l.groups ≡ used_in l.uses.items ++ all_of (λ (g : EquivalenceGroup). all_of uses_of g.places) (drop l.group-index l.groups)
