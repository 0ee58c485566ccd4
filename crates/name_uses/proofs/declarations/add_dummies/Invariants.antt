use Rattle.std.proofs.Common.{◌≡◌, ◌++◌, drop}
use Rattle.f_tree.specs.Uses.{all_of, uses_of_dummy}
use Rattle.name_uses.specs.UsesSeen.{used_in}
use Rattle.name_uses.proofs.declarations.add_dummies.Given as goal

abbrev pub invariant-loop-dummy : goal.invariant-loop-dummy
invariant-loop-dummy l =
    used_in l.initial.uses.items ++ all_of uses_of_dummy l.dummies ≡ used_in l.uses.items ++ all_of uses_of_dummy (drop l.dummy-index l.dummies)
