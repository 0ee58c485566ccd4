use Rattle.named_items.specs.Layouts.{layout_of}
use Rattle.statement_builder.proofs.BuiltCases.{switch_taken}
use Rattle.statement_builder.proofs.PlannedItems.{whole_planned, whole_taken, whole_counted}
use Rattle.statement_builder.proofs.planning.plan_switch.Goals as goal

pub returns : goal.returns
returns c = record {
  built = λ write. whole_planned write c.args.span.position c.args.items.now.items c.plan_whole.result c.in_ok-found.found _ c.plan_whole.ensures c.in_ok-found.ensures;
  taken = whole_taken c.plan_whole.result c.in_ok-found.found c.plan_whole.ensures;
  counted = whole_counted c.plan_whole.result c.in_ok-found.found c.args.span.count c.plan_whole.ensures
      (switch_taken (layout_of c.args.layout.now) c.args.span.position c.args.otherwise c.args.value c.args.cases.now c.args.span.count c.args.items.now.items c.in_ok-found.found c.requires.within c.in_ok-found.ensures);
}
