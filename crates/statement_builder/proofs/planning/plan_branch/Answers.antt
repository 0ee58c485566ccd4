use Rattle.std.proofs.Common.{sym, ap, ◌∙◌, take}
use Rattle.named_items.specs.Layouts.{layout_of}
use Rattle.named_items.specs.Structured.{end_of_arm}
use Rattle.statement_builder.proofs.PlannedItems.{carried_one, branch_two, branch_zero, branch_one}
use Rattle.statement_builder.proofs.planning.plan_branch.Goals.{else-size-gt0-via-then-size-gt0+else-ends_arm, else-size-gt0-via-else-size-gt0}
use Rattle.statement_builder.proofs.planning.plan_branch.Goals as goal

pub returns-then-ends_arm-clause-built : goal.returns-then-ends_arm-clause-built
returns-then-ends_arm-clause-built c =
    λ write. c.plan_arms.ensures.built write
    ∙ branch_two (layout_of c.args.layout.now) write c.args.span.position c.args.span.count c.args.size c.args.items.now.items c.args.test c.end_of_arm.result c.requires.room c.if-size-gt0.true (sym c.if-ends_arm.ensures)
    (c.end_of_arm.ensures ∙ ap end_of_arm c.at.ensures)

pub returns-else-size-gt0-clause-built : goal.returns-else-size-gt0-clause-built
returns-else-size-gt0-clause-built c =
    λ write. carried_one write c.args.span.position c.args.span.count c.args.size c.args.items.now.items c.args.test c.requires.room
    ∙ (elim c.else-size-gt0.branch [
      | else-size-gt0-via-then-size-gt0+else-ends_arm w ↦
          branch_one (layout_of c.args.layout.now) write c.args.span.position c.args.size (take c.args.span.count c.args.items.now.items) c.args.test (sym w.if-ends_arm.ensures)
      | else-size-gt0-via-else-size-gt0 w ↦ branch_zero (layout_of c.args.layout.now) write c.args.span.position c.args.size (take c.args.span.count c.args.items.now.items) c.args.test w.if-size-gt0.false
    ])
