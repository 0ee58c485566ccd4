use Rattle.lowered_tree.specs.declared.pures.Pure as tree
use Rattle.lowered_tree.specs.Shapes.{function_of, pure_of, pures_of}
use Rattle.lowered_tree.proofs.ShapeForms.{pure-Applied}
use Rattle.expression_lowering.specs.Purposes.{purpose_of}
use Rattle.expression_lowering.proofs.Closings.{closed-Library, closed-Value}
use Rattle.std.proofs.Common.{sym, ◌∙◌}
use Rattle.expression_lowering.proofs.closing.apply.Goals as goal

pub returns-in_ok-push_step : goal.returns-in_ok-push_step
returns-in_ok-push_step c =
    closed-Library (function_of c.args.function) (purpose_of c.args.purpose) c.args.first c.args.operands.free (pures_of c.args.operands.values)
    c.args.steps.now.items c.push_step.new.steps.items c.temporary.result (sym c.is_library.ensures ∙ c.if-is_library.true) c.in_ok-push_step.ensures
    c.temporary.ensures

pub returns-else-is_library : goal.returns-else-is_library
returns-else-is_library c =
    closed-Value (function_of c.args.function) (purpose_of c.args.purpose) c.args.first c.args.operands.free
    (pure_of (tree.Applied c.args.function c.args.operands.values)) (pures_of c.args.operands.values) c.args.steps.now.items c.keep.new.steps.items c.keep.result
    (sym c.is_library.ensures ∙ c.if-is_library.false) (pure-Applied c.args.function c.args.operands.values) c.keep.ensures
