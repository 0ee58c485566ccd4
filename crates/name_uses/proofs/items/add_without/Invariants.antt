use Rattle.std.proofs.Common.{◌≡◌, ◌++◌, drop}
use Rattle.f_tree.specs.Uses.{without}
use Rattle.name_table.specs.Named.{texts}
use Rattle.name_uses.specs.UsesSeen.{used_in}
use Rattle.name_uses.proofs.items.add_without.Given as goal

abbrev pub invariant-loop-one : goal.invariant-loop-one
invariant-loop-one l =
    used_in l.initial.uses.items ++ without (texts l.hidden) (used_in l.inner) ≡ used_in l.uses.items ++ without (texts l.hidden) (used_in (drop l.one-index l.inner))
