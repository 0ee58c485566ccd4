use Rattle.std.proofs.Common.{◌≡◌, ◌++◌, drop}
use Rattle.f_tree.specs.Attributes.{members_of}
use Rattle.given_judge.specs.GiftsSeen.{givens_in}
use Rattle.given_judge.proofs.GivenForms.{in_common}
use Rattle.given_judge.proofs.givens.add_groups.Given as goal

abbrev pub invariant-loop-group : goal.invariant-loop-group
invariant-loop-group l =
    givens_in l.initial.givens.items ++ in_common (members_of l.groups)
    ≡ givens_in l.givens.items ++ in_common (members_of (drop l.group-index l.groups))
