use Rattle.std.proofs.Common.{ap, ◌∙◌, take}
use Rattle.named_items.specs.Layouts.{layout_of}
use Rattle.statement_builder.specs.Plans.{popped}
use Rattle.statement_builder.proofs.PlannedItems.{none_planned, unwritten_steps, test_passes, test_elsewhere, test_back, test_past}
use Rattle.statement_builder.proofs.planning.plan_test.Goals.{else-on-next-via-then-on-next+then-next-off+else-off-next, else-on-next-via-then-on-next+else-next-off, else-on-next-via-else-on-next}
use Rattle.statement_builder.proofs.planning.plan_test.Goals as goal

pub returns-then-off-next-clause-built : goal.returns-then-off-next-clause-built
returns-then-off-next-clause-built c =
    λ write. c.plan_branch.ensures.built write
    ∙ test_passes (layout_of c.args.layout.now) write c.args.span.position c.args.on c.args.off c.args.span.count c.args.items.now.items c.args.test c.requires.within c.if-on-next.true c.if-next-off.true c.if-off-next.true

pub returns-else-on-next-clause-built : goal.returns-else-on-next-clause-built
returns-else-on-next-clause-built c =
    λ write. none_planned write c.args.span.position c.args.items.now.items c.unwritten.result _ c.unwritten.ensures
    (elim c.else-on-next.branch [
      | else-on-next-via-then-on-next+then-next-off+else-off-next w ↦
          test_past (layout_of c.args.layout.now) write c.args.span.position c.args.on c.args.off c.args.span.count c.args.items.now.items c.args.test c.requires.within w.if-off-next.false
      | else-on-next-via-then-on-next+else-next-off w ↦
          test_back (layout_of c.args.layout.now) write c.args.span.position c.args.on c.args.off (take c.args.span.count c.args.items.now.items) c.args.test w.if-next-off.false
      | else-on-next-via-else-on-next w ↦
          test_elsewhere (layout_of c.args.layout.now) write c.args.span.position c.args.on c.args.off (take c.args.span.count c.args.items.now.items) c.args.test w.if-on-next.false
    ])

pub returns-else-on-next-clause-taken : goal.returns-else-on-next-clause-taken
returns-else-on-next-clause-taken c = ap popped c.unwritten.ensures

pub returns-else-on-next-clause-counted : goal.returns-else-on-next-clause-counted
returns-else-on-next-clause-counted c = unwritten_steps c.unwritten.result c.args.span.count c.unwritten.ensures
