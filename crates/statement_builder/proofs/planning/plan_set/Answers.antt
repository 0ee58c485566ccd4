use Rattle.std.proofs.Common.{◌<◌, ◌∙◌, take, arith}
use Rattle.named_items.specs.Layouts.{layout_of}
use Rattle.statement_builder.proofs.PlannedItems.{set_once, set_head, once_inside}
use Rattle.statement_builder.proofs.planning.plan_set.Goals as goal

pub returns-then-is_tested_behind-clause-built : goal.returns-then-is_tested_behind-clause-built
returns-then-is_tested_behind-clause-built c =
    λ write. set_once (layout_of c.args.layout.now) write c.args.span.position c.args.size c.args.span.count c.args.items.now.items c.args.variable c.args.first c.is_tested_behind.result c.is_tested_behind.ensures
    c.if-is_tested_behind.true

pub returns-then-is_tested_behind-clause-counted : goal.returns-then-is_tested_behind-clause-counted
returns-then-is_tested_behind-clause-counted c =
    let inside : c.args.size < c.args.span.count =
    once_inside (layout_of c.args.layout.now) c.args.span.position c.args.size c.args.span.count c.args.items.now.items c.is_tested_behind.result c.is_tested_behind.ensures c.if-is_tested_behind.true in
    omega (arith, inside)

pub returns-else-is_tested_behind-clause-built : goal.returns-else-is_tested_behind-clause-built
returns-else-is_tested_behind-clause-built c =
    λ write. c.plan_head.ensures.built write
    ∙ set_head (layout_of c.args.layout.now) write c.args.span.position c.args.size (take c.args.span.count c.args.items.now.items) c.args.variable c.args.first c.is_tested_behind.result c.is_tested_behind.ensures
    c.if-is_tested_behind.false
