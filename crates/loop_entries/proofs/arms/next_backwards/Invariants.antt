use Rattle.std.proofs.Common.{◌≡◌, ◌-◌, length, drop, reverse}
use Rattle.loop_entries.specs.NextArms.{arms_from, next_from}
use Rattle.loop_entries.proofs.arms.next_backwards.Given as goal

abbrev pub invariant-loop-behind : goal.invariant-loop-behind
invariant-loop-behind l = record {
  next : reverse l.all.items ≡ next_from (length l.statements - l.behind) (drop (length l.statements - l.behind) l.statements);
  arms : reverse l.arms.items ≡ arms_from (length l.statements - l.behind) (drop (length l.statements - l.behind) l.statements);
}
