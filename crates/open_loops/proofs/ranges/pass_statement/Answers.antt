use Rattle.std.proofs.Common.{ap, ◌∙◌, ◌++◌}
use Rattle.open_loops.specs.OpenRanges.{begun_at, open_behind}
use Rattle.open_loops.proofs.ranges.pass_statement.Goals as goal

pub returns-then-ended-clause-passed : goal.returns-then-ended-clause-passed
unfolding open_behind
returns-then-ended-clause-passed c = c.in_ok-begun.ensures.noted ∙ ap (λ rs. begun_at c.args.place c.args.end ++ rs) c.forget_ended-ended.ensures.kept

pub returns-else-ended-clause-passed : goal.returns-else-ended-clause-passed
unfolding open_behind
returns-else-ended-clause-passed c = c.in_ok-begun.ensures.noted ∙ ap (λ rs. begun_at c.args.place c.args.end ++ rs) c.forget_ended-ended.ensures.kept
