use Rattle.std.proofs.Common.{◌≡◌, ◌++◌, drop}
use Rattle.f_tree.specs.Uses.{uses_of, all_of}
use Rattle.name_uses.specs.UsesSeen.{used_in}
use Rattle.name_uses.proofs.expressions.+uses.Given as goal

abbrev pub invariant-add_list_uses-loop-e : goal.invariant-add_list_uses-loop-e
invariant-add_list_uses-loop-e l = used_in l.initial.uses.items ++ all_of uses_of l.es ≡ used_in l.uses.items ++ all_of uses_of (drop l.e-index l.es)
