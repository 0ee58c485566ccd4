use Rattle.std.proofs.Common.{drop, ◌+◌}
use Rattle.call_check.proofs.ReasonLemmas.{differs_none_left}
use Rattle.call_check.proofs.reasons.argument_differs.Goals as goal

pub returns-in_default : goal.returns-in_default
returns-in_default c =
    differs_none_left (drop c.loop-index.index c.args.arguments.now) (c.loop-index.index + 1) c.loop-index.later.now _ c.in_default.len_below c.loop-index.invariant
