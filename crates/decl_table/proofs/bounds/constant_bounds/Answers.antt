use Rattle.std.proofs.Common.{[], arith}
use Rattle.name_table.specs.Named.{names_in}
use Rattle.decl_table.proofs.BoundLemmas.{bounds-start, bounds-more, bounds-end}
use Rattle.decl_table.proofs.bounds.constant_bounds.Goals as goal

pub loop-dimension-init : goal.loop-dimension-init
loop-dimension-init c = bounds-start c.args.constants.now (names_in c.args.functions.now) c.new-bounds.result c.new-bounds.ensures

pub loop-dimension-preserved : goal.loop-dimension-preserved
loop-dimension-preserved c =
    bounds-more c.args.constants.now (names_in c.args.functions.now) [] _ _ c.args.dimensions.now c.loop-dimension.dimension-index c.dimension-item.result _
    c.loop-dimension-test.true c.dimension-item.is c.loop-dimension.invariant c.in_ok-add_bound.ensures

pub returns : goal.returns
returns c = bounds-end c.args.constants.now (names_in c.args.functions.now) [] _ c.args.dimensions.now c.loop-dimension.dimension-index (omega arith) c.loop-dimension.invariant
