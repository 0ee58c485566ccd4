use Rattle.std.proofs.Common.{drop, arith}
use Rattle.edit_rules.proofs.WalkSteps.{stands_before, part_known}
use Rattle.edit_rules.proofs.format_walk.FormatWalk.step.Goals as goal

pub returns-then-self-text : goal.returns-then-self-text
returns-then-self-text c again rest stands = absurd (omega (arith, stands_before stands))

pub returns-in-Joint : goal.returns-in-Joint
returns-in-Joint c again rest stands =
    c.joint.ensures again rest stands (part_known c.args.text.now (drop c.args.self.now.place c.args.text.now) c.part_at-parted.result _ c.part_at-parted.ensures.value c.in-Joint.is)

pub returns-in-Colon : goal.returns-in-Colon
returns-in-Colon c again rest stands =
    c.colon.ensures again rest stands (part_known c.args.text.now (drop c.args.self.now.place c.args.text.now) c.part_at-parted.result _ c.part_at-parted.ensures.value c.in-Colon.is)

pub returns-in-Give : goal.returns-in-Give
returns-in-Give c again rest stands =
    c.give.ensures again rest stands (part_known c.args.text.now (drop c.args.self.now.place c.args.text.now) c.part_at-parted.result _ c.part_at-parted.ensures.value c.in-Give.is)

pub returns-in-Open : goal.returns-in-Open
returns-in-Open c again rest stands =
    c.open.ensures again rest stands (part_known c.args.text.now (drop c.args.self.now.place c.args.text.now) c.part_at-parted.result _ c.part_at-parted.ensures.value c.in-Open.is)

pub returns-then-self-eq0 : goal.returns-then-self-eq0
returns-then-self-eq0 c again rest stands =
    c.end.ensures again rest stands (part_known c.args.text.now (drop c.args.self.now.place c.args.text.now) c.part_at-parted.result _ c.part_at-parted.ensures.value c.in-Close.is)

pub returns-else-self-eq0 : goal.returns-else-self-eq0
returns-else-self-eq0 c again rest stands =
    c.close.ensures again rest stands (part_known c.args.text.now (drop c.args.self.now.place c.args.text.now) c.part_at-parted.result _ c.part_at-parted.ensures.value c.in-Close.is)
