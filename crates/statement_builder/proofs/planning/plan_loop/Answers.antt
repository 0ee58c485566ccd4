use Rattle.std.proofs.Common.{◌∙◌, take}
use Rattle.named_items.specs.Layouts.{layout_of}
use Rattle.statement_builder.proofs.PlannedItems.{none_planned, unwritten_both, unwritten_ahead, loop_set, loop_other}
use Rattle.statement_builder.proofs.planning.plan_loop.Goals as goal

pub returns-in-Assign-clause-built : goal.returns-in-Assign-clause-built
returns-in-Assign-clause-built c =
    λ write. c.plan_set.ensures.built write
    ∙ loop_set (layout_of c.args.layout.now) write c.args.span.position c.args.size (take c.args.span.count c.args.items.now.items) c.in-Assign.variable c.in-Assign.first c.args.item c.in-Assign.is

pub returns-in_default : goal.returns-in_default
returns-in_default c = record {
  built = λ write. none_planned write c.args.span.position c.args.items.now.items c.unwritten.result _ c.unwritten.ensures
      (loop_other (layout_of c.args.layout.now) write c.args.span.position c.args.size (take c.args.span.count c.args.items.now.items) c.args.item c.in_default.not-Assign);
  ahead = unwritten_ahead c.args.items.now.items c.args.items.now.items c.unwritten.result c.unwritten.ensures;
  counted = unwritten_both c.unwritten.result c.args.span.count c.unwritten.ensures;
}
