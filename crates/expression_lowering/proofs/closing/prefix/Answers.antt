use Rattle.lowered_tree.specs.l_core.Pures as core
use Rattle.lowered_tree.specs.declared.pures.Pure as tree
use Rattle.lowered_tree.specs.Shapes.{prefix_of, pure_of}
use Rattle.lowered_tree.proofs.ShapeForms.{pure-Prefixed}
use Rattle.expression_lowering.specs.Purposes.{purpose_of}
use Rattle.expression_lowering.proofs.Closings.{closed-Before}
use Rattle.std.proofs.Common.{ap, ◌∙◌}
use Rattle.expression_lowering.proofs.closing.prefix.Goals as goal

pub returns : goal.returns
returns c =
    closed-Before (prefix_of c.args.op) (purpose_of c.args.purpose) c.args.first c.args.operand.free (pure_of (tree.Prefixed c.args.op c.in_ok-new.field-0))
    (pure_of c.args.operand.value) c.args.steps.now.items c.keep.new.steps.items c.keep.result
    (pure-Prefixed c.args.op c.in_ok-new.field-0 ∙ ap (λ p. core.Prefixed (prefix_of c.args.op) (pure_of p)) c.in_ok-new.ensures) c.keep.ensures
