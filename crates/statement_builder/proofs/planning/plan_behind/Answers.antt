use Rattle.std.proofs.Common.{refl, take}
use Rattle.named_items.specs.Layouts.{layout_of}
use Rattle.statement_builder.proofs.PlannedItems.{behind_test, behind_other}
use Rattle.statement_builder.proofs.planning.plan_behind.Goals as goal

pub returns-in-Branch : goal.returns-in-Branch
returns-in-Branch c =
    behind_test (layout_of c.args.layout.now) c.args.span.position c.args.size c.in-Branch.on c.in-Branch.off (take c.args.span.count c.args.items.now.items) c.args.variable c.args.first c.in-Branch.test c.args.item _ c.plan_turns.result
    c.in-Branch.is refl c.plan_turns.ensures

pub returns-in_default : goal.returns-in_default
returns-in_default c =
    behind_other (layout_of c.args.layout.now) c.args.span.position c.args.size (take c.args.span.count c.args.items.now.items) c.args.variable c.args.first c.args.item c.unwritten.result c.in_default.not-Branch c.unwritten.ensures
