use Rattle.std.proofs.Common.{arith}
use Rattle.f_tree.specs.Uses.{uses_of_array}
use Rattle.name_uses.proofs.UseWalks.{all_more, all_end}
use Rattle.name_uses.proofs.declarations.add_arrays.Goals as goal

pub loop-array-preserved : goal.loop-array-preserved
loop-array-preserved c =
    all_more uses_of_array c.args.arrays.now c.loop-array.array-index c.array-item.result _ _ _ _ c.loop-array-test.true c.array-item.is c.loop-array.invariant
    (c.in_ok-add_array.ensures)

pub returns : goal.returns
returns c = all_end uses_of_array c.args.arrays.now c.loop-array.array-index _ _ (omega arith) c.loop-array.invariant
