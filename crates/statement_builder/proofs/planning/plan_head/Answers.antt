use Rattle.std.proofs.Common.{◌-◌, ◌<◌, length, arith}
use Rattle.named_items.specs.Layouts.{layout_of}
use Rattle.statement_builder.proofs.PlannedItems.{none_planned, head_empty, popped_first, popped_none, loop_ahead, loop_fits, loop_built, room_behind}
use Rattle.statement_builder.proofs.planning.plan_head.Goals as goal

pub returns-then-span-eq0-clause-built : goal.returns-then-span-eq0-clause-built
returns-then-span-eq0-clause-built c =
    λ write. none_planned write c.args.span.position c.args.items.now.items c.unwritten.result _ c.unwritten.ensures
    (head_empty (layout_of c.args.layout.now) write c.args.span.position c.args.size c.args.span.count c.args.items.now.items c.args.variable c.args.first c.if-span-eq0.true)

pub returns-in_default-clause-built : goal.returns-in_default-clause-built
returns-in_default-clause-built c =
    let some : 0 < length c.args.items.now.items = omega arith in
    absurd (popped_none c.pop_front.result c.args.items.now.items c.pop_front.new.self.items c.in_default.is c.pop_front.ensures.items c.pop_front.ensures.rest some)

pub returns-clause-built : goal.returns-clause-built
returns-clause-built c =
    let first = popped_first c.pop_front.result c.args.items.now.items c.pop_front.new.self.items c.in-Some.item c.in-Some.is c.pop_front.ensures.items in
    λ write. loop_built (layout_of c.args.layout.now) write c.args.span.position c.args.size c.args.span.count (c.args.span.count - 1) c.args.items.now.items c.pop_front.new.self.items c.args.variable c.args.first c.in-Some.item
    c.plan_behind.result (omega arith) (room_behind c.args.span.count c.args.items.now.items c.pop_front.new.self.items c.requires.within c.pop_front.ensures.rest) first c.plan_behind.ensures

pub returns-clause-ahead : goal.returns-clause-ahead
returns-clause-ahead c =
    loop_ahead (layout_of c.args.layout.now) c.args.span.position c.args.size (c.args.span.count - 1) c.args.items.now.items c.pop_front.new.self.items c.args.variable c.args.first c.in-Some.item c.plan_behind.result
    c.pop_front.ensures.rest c.plan_behind.ensures

pub returns-clause-counted : goal.returns-clause-counted
returns-clause-counted c =
    loop_fits (layout_of c.args.layout.now) c.args.span.position c.args.size c.args.span.count (c.args.span.count - 1) c.pop_front.new.self.items c.args.variable c.args.first c.in-Some.item c.plan_behind.result (omega arith)
    (room_behind c.args.span.count c.args.items.now.items c.pop_front.new.self.items c.requires.within c.pop_front.ensures.rest) c.plan_behind.ensures
