use Rattle.std.proofs.Common.{◌≡◌, ◌++◌, drop}
use Rattle.f_tree.specs.Uses.{all_of, uses_of_declarator}
use Rattle.name_uses.specs.UsesSeen.{used_in}
use Rattle.name_uses.proofs.declarations.add_declarators.Given as goal

abbrev pub invariant-loop-declarator : goal.invariant-loop-declarator
invariant-loop-declarator l =
    used_in l.initial.uses.items ++ all_of uses_of_declarator l.declarators ≡ used_in l.uses.items ++ all_of uses_of_declarator (drop l.declarator-index l.declarators)
