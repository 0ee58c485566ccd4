use Rattle.lowered_tree.specs.l_core.Pures as core
use Rattle.lowered_tree.specs.declared.pures.Pure as tree
use Rattle.lowered_tree.specs.Shapes.{pure_of}
use Rattle.lowered_tree.proofs.ShapeForms.{pure-Load}
use Rattle.expression_lowering.specs.Purposes.{purpose_of}
use Rattle.expression_lowering.proofs.Closings.{closed-Fetch}
use Rattle.std.proofs.Common.{ap, ◌∙◌}
use Rattle.expression_lowering.proofs.closing.load.Goals as goal

pub returns : goal.returns
returns c =
    closed-Fetch (purpose_of c.args.purpose) (purpose_of c.for_fetch.result) c.args.first c.args.place.free (pure_of (tree.Load c.in_ok-new.field-0)) (pure_of c.args.place.value)
    c.args.steps.now.items c.keep.new.steps.items c.keep.result c.for_fetch.ensures
    (pure-Load c.in_ok-new.field-0 ∙ ap (λ p. core.Load (pure_of p)) c.in_ok-new.ensures) c.keep.ensures
