use Rattle.lowered_tree.specs.Shapes.{operator_of, pure_of}
use Rattle.expression_lowering.specs.Purposes.{purpose_of}
use Rattle.expression_lowering.proofs.Closings.{closed-Between}
use Rattle.expression_lowering.proofs.closing.operate.Goals as goal

pub returns : goal.returns
returns c =
    closed-Between (operator_of c.args.op) (purpose_of c.args.purpose) c.args.first c.args.right.free (pure_of c.in_ok-value.value)
    (pure_of c.args.left) (pure_of c.args.right.value) c.args.steps.now.items c.keep.new.steps.items c.keep.result c.in_ok-value.ensures c.keep.ensures
