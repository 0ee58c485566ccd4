use Rattle.std.proofs.Common.{refl}
use Rattle.lowered_tree.specs.l_core.Pures as core
use Rattle.lowering.specs.Expressions as low
use Rattle.lowered_tree.specs.Shapes.{operator_of, pure_of}
use Rattle.expression_lowering.specs.Purposes.{purpose_of}
use Rattle.expression_lowering.proofs.Closings.{closed-Behind}
use Rattle.expression_lowering.proofs.closing.operate_behind.Goals as goal

pub returns : goal.returns
returns c =
    closed-Behind (low.AsBetween (operator_of c.args.op)) (purpose_of c.args.purpose) c.args.first c.args.right.free (pure_of c.args.left) (pure_of c.args.right.value)
    (core.AndPure (pure_of c.args.left) (core.AndPure (pure_of c.args.right.value) core.NoPure)) c.args.behind.items c.args.steps.now.items c.append_steps.new.steps.items
    c.operate.new.steps.items c.operate.result refl c.in_ok-append_steps.ensures c.operate.ensures
