use Rattle.std.proofs.Common.{◌≡◌, ◌++◌, drop, map}
use Rattle.f_tree.specs.Attributes.{shape_of_array, members_of}
use Rattle.given_judge.specs.GiftsSeen.{givens_in}
use Rattle.given_judge.proofs.GivenForms.{dimensions_of}
use Rattle.given_judge.proofs.givens.add_shaped_groups.Given as goal

abbrev pub invariant-loop-group : goal.invariant-loop-group
invariant-loop-group l =
    givens_in l.initial.givens.items ++ dimensions_of (map shape_of_array (members_of l.groups))
    ≡ givens_in l.givens.items ++ dimensions_of (map shape_of_array (members_of (drop l.group-index l.groups)))
