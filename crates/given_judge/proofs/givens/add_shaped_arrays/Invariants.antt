use Rattle.std.proofs.Common.{◌≡◌, ◌++◌, drop, map}
use Rattle.f_tree.specs.Attributes.{shape_of_array}
use Rattle.given_judge.specs.GiftsSeen.{givens_in}
use Rattle.given_judge.proofs.GivenForms.{dimensions_of}
use Rattle.given_judge.proofs.givens.add_shaped_arrays.Given as goal

abbrev pub invariant-loop-item : goal.invariant-loop-item
invariant-loop-item l =
    givens_in l.initial.givens.items ++ dimensions_of (map shape_of_array l.items)
    ≡ givens_in l.givens.items ++ dimensions_of (map shape_of_array (drop l.item-index l.items))
