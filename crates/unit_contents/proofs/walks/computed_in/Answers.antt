use Rattle.std.proofs.Common.{refl, arith}
use Rattle.lowered_tree.specs.Shapes.{steps_of}
use Rattle.unit_contents.proofs.FunctionLaws.{functions_more, functions_whole}
use Rattle.unit_contents.proofs.walks.computed_in.Goals as goal

pub loop-one-preserved : goal.loop-one-preserved
loop-one-preserved c =
    functions_more (steps_of c.args.steps.now) c.args.functions.now c.loop-one.one-index _ _ _ _ _ c.loop-one-test.true refl c.in_ok-add_function.ensures c.loop-one.invariant

pub returns : goal.returns
returns c = functions_whole (steps_of c.args.steps.now) c.args.functions.now c.loop-one.one-index c.loop-one.found.items _ (omega arith) c.loop-one.invariant
