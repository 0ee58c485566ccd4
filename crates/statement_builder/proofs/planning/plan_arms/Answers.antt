use Rattle.std.proofs.Common.{sym, ap, ◌∙◌, ◌+◌, ◌-◌, take, arith}
use Rattle.named_items.specs.Structured.{arms_for}
use Rattle.statement_builder.specs.Plans.{popped}
use Rattle.statement_builder.proofs.PlannedItems.{none_planned, unwritten_steps, carried_two, arms_none, arms_before, arms_behind, arms_both}
use Rattle.statement_builder.proofs.planning.plan_arms.Goals.{else-second-end-via-then-second-end+else-end-second, else-second-end-via-else-second-end}
use Rattle.statement_builder.proofs.planning.plan_arms.Goals as goal

pub returns-in_default-clause-built : goal.returns-in_default-clause-built
returns-in_default-clause-built c =
    λ write. none_planned write c.args.span.position c.args.items.now.items c.unwritten.result _ c.unwritten.ensures
    (arms_none write c.args.span.position c.args.size (take c.args.span.count c.args.items.now.items) c.args.test
    ∙ ap (λ e. arms_for write c.args.span.position c.args.test c.args.size e (take c.args.span.count c.args.items.now.items)) (sym c.in_default.is))

pub returns-in_default-clause-taken : goal.returns-in_default-clause-taken
returns-in_default-clause-taken c = ap popped c.unwritten.ensures

pub returns-in_default-clause-counted : goal.returns-in_default-clause-counted
returns-in_default-clause-counted c = unwritten_steps c.unwritten.result c.args.span.count c.unwritten.ensures

pub returns-then-end-second-clause-built : goal.returns-then-end-second-clause-built
returns-then-end-second-clause-built c =
    λ write. carried_two write c.args.span.position c.args.span.count c.args.size (c.in-Some.end - (c.args.span.position + c.args.size + 2)) c.args.items.now.items c.args.test (omega arith)
    ∙ sym (arms_both write c.args.span.position c.args.span.count c.args.size c.in-Some.end c.args.items.now.items c.args.test c.requires.within c.if-second-end.true c.if-end-second.true)
    ∙ ap (λ e. arms_for write c.args.span.position c.args.test c.args.size e (take c.args.span.count c.args.items.now.items)) (sym c.in-Some.is)

pub returns-else-second-end-clause-built : goal.returns-else-second-end-clause-built
returns-else-second-end-clause-built c =
    λ write. none_planned write c.args.span.position c.args.items.now.items c.unwritten-else-second-end.result _ c.unwritten-else-second-end.ensures
    (elim c.else-second-end.branch [
      | else-second-end-via-then-second-end+else-end-second w ↦ arms_behind write c.args.span.position c.args.span.count c.args.size c.in-Some.end c.args.items.now.items c.args.test c.requires.within w.if-end-second.false
      | else-second-end-via-else-second-end w ↦ arms_before write c.args.span.position c.args.span.count c.args.size c.in-Some.end c.args.items.now.items c.args.test w.if-second-end.false
    ]
    ∙ ap (λ e. arms_for write c.args.span.position c.args.test c.args.size e (take c.args.span.count c.args.items.now.items)) (sym c.in-Some.is))

pub returns-else-second-end-clause-taken : goal.returns-else-second-end-clause-taken
returns-else-second-end-clause-taken c = ap popped c.unwritten-else-second-end.ensures

pub returns-else-second-end-clause-counted : goal.returns-else-second-end-clause-counted
returns-else-second-end-clause-counted c = unwritten_steps c.unwritten-else-second-end.result c.args.span.count c.unwritten-else-second-end.ensures
