use Rattle.std.proofs.Common.{◌≡◌, ◌++◌, drop, map}
use Rattle.given_judge.specs.GiftsSeen.{givens_in, shape_of}
use Rattle.given_judge.proofs.GivenForms.{dimensions_of}
use Rattle.given_judge.proofs.givens.add_shaped_typed.Given as goal

abbrev pub invariant-loop-item : goal.invariant-loop-item
invariant-loop-item l =
    givens_in l.initial.givens.items ++ dimensions_of (map shape_of l.items)
    ≡ givens_in l.givens.items ++ dimensions_of (map shape_of (drop l.item-index l.items))
