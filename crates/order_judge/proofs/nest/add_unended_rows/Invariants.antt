use Rattle.std.proofs.Common.{◌≡◌, ◌++◌, ◌-◌, length, drop, reverse}
use Rattle.order_judge.proofs.nest.add_unended_rows.Given as goal

abbrev pub invariant-loop-behind : goal.invariant-loop-behind
invariant-loop-behind l = l.found.items ≡ l.initial.found.items ++ reverse (drop (length l.open_blocks - l.behind) l.open_blocks)
