use Rattle.std.proofs.Common.{arith}
use Rattle.f_tree.specs.Uses.{uses_of_dimension}
use Rattle.name_uses.proofs.UseWalks.{all_more, all_end}
use Rattle.name_uses.proofs.declarations.add_dimensions.Goals as goal

pub loop-dimension-preserved : goal.loop-dimension-preserved
loop-dimension-preserved c =
    all_more uses_of_dimension c.args.dimensions.now c.loop-dimension.dimension-index c.dimension-item.result _ _ _ _ c.loop-dimension-test.true c.dimension-item.is c.loop-dimension.invariant
    (c.in_ok-add_dimension.ensures)

pub returns : goal.returns
returns c = all_end uses_of_dimension c.args.dimensions.now c.loop-dimension.dimension-index _ _ (omega arith) c.loop-dimension.invariant
