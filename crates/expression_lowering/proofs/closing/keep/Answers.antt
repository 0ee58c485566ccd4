use Rattle.lowered_tree.specs.Shapes.{pure_of}
use Rattle.expression_lowering.specs.Purposes.{purpose_of}
use Rattle.expression_lowering.proofs.Closings.{temporary-kept, used-kept}
use Rattle.std.proofs.Common.{sym, ◌∙◌}
use Rattle.expression_lowering.proofs.closing.keep.Goals as goal

pub returns-in_ok-push_step : goal.returns-in_ok-push_step
returns-in_ok-push_step c =
    temporary-kept (purpose_of c.args.purpose) c.args.first c.args.free (pure_of c.args.value) c.args.steps.now.items c.push_step.new.steps.items c.temporary.result
    (sym c.is_kept.ensures ∙ c.if-is_kept.true) c.in_ok-push_step.ensures c.temporary.ensures

pub returns-else-is_kept : goal.returns-else-is_kept
returns-else-is_kept c =
    used-kept (purpose_of c.args.purpose) c.args.first c.args.steps.now.items _ (sym c.is_kept.ensures ∙ c.if-is_kept.false)
