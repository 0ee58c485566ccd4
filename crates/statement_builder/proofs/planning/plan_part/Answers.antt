use Rattle.std.proofs.Common.{sym, ◌∙◌, take}
use Rattle.named_items.specs.Layouts.{layout_of}
use Rattle.statement_builder.proofs.Building.{if_ok, if_both}
use Rattle.statement_builder.proofs.PlannedItems.{part_loop, part_plain, ahead_same, both_counted}
use Rattle.statement_builder.proofs.planning.plan_part.Goals as goal

pub returns-in-Some-clause-built : goal.returns-in-Some-clause-built
returns-in-Some-clause-built c =
    λ write. c.plan_loop.ensures.built write
    ∙ part_loop (layout_of c.args.layout.now) write _ c.in-Some.size c.args.span.position c.args.item (take c.args.span.count c.args.items.now.items) (sym c.in-Some.ensures)

pub returns-in-None-clause-built : goal.returns-in-None-clause-built
returns-in-None-clause-built c =
    if_ok _ _ c.plan_plain.result
    (λ plan built write. built write ∙ part_plain (layout_of c.args.layout.now) write _ c.args.span.position c.args.item (take c.args.span.count c.args.items.now.items) (sym c.in-None.ensures))
    c.plan_plain.ensures.built

pub returns-in-None-clause-ahead : goal.returns-in-None-clause-ahead
returns-in-None-clause-ahead c = if_ok _ _ c.plan_plain.result (λ plan none. ahead_same c.args.items.now.items plan none) c.plan_plain.ensures.taken

pub returns-in-None-clause-counted : goal.returns-in-None-clause-counted
returns-in-None-clause-counted c = if_both _ _ _ c.plan_plain.result (λ plan none fits. both_counted plan c.args.span.count none fits) c.plan_plain.ensures.taken c.plan_plain.ensures.counted
