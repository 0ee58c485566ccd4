use Rattle.std.proofs.Common.{◌++◌, map, get_or, refl}
use Rattle.lowered_tree.specs.l_core.Steps as act
use Rattle.lowered_tree.specs.Shapes.{steps_of}
use Rattle.statement_lowering.proofs.BranchLaws.{jumps-more, jumps-done}
use Rattle.statement_lowering.proofs.calls.push_ways.Goals as goal

pub loop-label-preserved : goal.loop-label-preserved
loop-label-preserved c =
    jumps-more act.Way c.args.labels.now c.loop-label.label-index (get_or c.args.labels.now c.loop-label.label-index 0) c.loop-label.steps.items c.push_step.new.steps.items
    (steps_of c.args.steps.now.items ++ map act.Way c.args.labels.now) c.loop-label-test.true refl c.loop-label.invariant c.in_ok-push_step.ensures

pub returns : goal.returns
returns c =
    jumps-done act.Way c.args.labels.now c.loop-label.label-index c.loop-label.steps.items (steps_of c.args.steps.now.items ++ map act.Way c.args.labels.now) c.loop-label-test.false
    c.loop-label.invariant
