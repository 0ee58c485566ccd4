use Rattle.std.proofs.Common.{ap, ◌∙◌, take}
use Rattle.named_items.specs.Layouts.{layout_of}
use Rattle.named_items.specs.Structured.{alone}
use Rattle.statement_builder.proofs.Building.{if_ok}
use Rattle.statement_builder.proofs.PlannedItems.{plain_test, plain_switch, plain_other, whole_planned, whole_taken, whole_counted, alone_taken}
use Rattle.statement_builder.proofs.planning.plan_plain.Goals as goal

pub returns-in-Branch-clause-built : goal.returns-in-Branch-clause-built
returns-in-Branch-clause-built c =
    λ write. c.plan_test.ensures.built write
    ∙ plain_test (layout_of c.args.layout.now) write c.args.span.position c.in-Branch.on c.in-Branch.off (take c.args.span.count c.args.items.now.items) c.in-Branch.test c.args.item c.in-Branch.is

pub returns-in-Select-clause-built : goal.returns-in-Select-clause-built
returns-in-Select-clause-built c =
    if_ok _ _ c.plan_switch.result
    (λ plan built write. built write
    ∙ plain_switch (layout_of c.args.layout.now) write c.args.span.position c.in-Select.otherwise (take c.args.span.count c.args.items.now.items) c.in-Select.value c.in-Select.cases c.as_slice.result.now c.args.item c.in-Select.is
    c.as_slice.ensures)
    c.plan_switch.ensures.built

pub returns-in_ok-statement_of-in_default : goal.returns-in_ok-statement_of-in_default
returns-in_ok-statement_of-in_default c = record {
  built = λ write. whole_planned write c.args.span.position c.args.items.now.items c.plan_whole.result c.alone.result _ c.plan_whole.ensures
      (c.alone.ensures ∙ ap alone c.in_ok-statement_of-in_default.ensures
      ∙ plain_other (layout_of c.args.layout.now) write c.args.span.position (take c.args.span.count c.args.items.now.items) c.args.item c.in_default.not-Branch c.in_default.not-Select);
  taken = whole_taken c.plan_whole.result c.alone.result c.plan_whole.ensures;
  counted = whole_counted c.plan_whole.result c.alone.result c.args.span.count c.plan_whole.ensures (alone_taken _ c.alone.result c.args.span.count c.alone.ensures);
}
