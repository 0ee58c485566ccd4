use Rattle.f_tree.specs.Terms.{Power}
use Rattle.lowering.specs.Expressions as low
use Rattle.lowered_tree.specs.Shapes.{pure_of, pures_of}
use Rattle.expression_lowering.specs.Purposes.{purpose_of}
use Rattle.expression_lowering.proofs.Closings.{closed-Behind}
use Rattle.expression_lowering.proofs.closing.raise_behind.Goals as goal

pub returns : goal.returns
returns c =
    closed-Behind (low.AsFunction Power) (purpose_of c.args.purpose) c.args.first c.args.right.free (pure_of c.args.left) (pure_of c.args.right.value)
    (pures_of c.in_ok-values.values) c.args.behind.items c.args.steps.now.items c.append_steps.new.steps.items
    c.apply.new.steps.items c.apply.result c.in_ok-values.ensures c.in_ok-append_steps.ensures c.apply.ensures
